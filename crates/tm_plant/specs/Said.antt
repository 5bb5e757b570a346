-- What the words of a plant's line say, below its keyword: first its form, then its numbers.
use Rattle.std.specs.Prelude.{ℕ, List, [], ◌∷◌, codes, if◌then◌else◌, Result, Ok, Err}
use Rattle.std.specs.Str.{bytes_eq}
use Rattle.tm_lines.specs.declared.fault.Reason.{Reason}
use Rattle.tm_lines.specs.declared.fault.Reason.TheVariants.{Form}
use Rattle.tm_lines.specs.Steps.{◌>>=◌}
use Rattle.tm_lines.specs.Numbers.{number_in}
use Rattle.tm_plant.specs.declared.said.Keyword.{Keyword}
use Rattle.tm_plant.specs.declared.said.Keyword.TheVariants.{Device, Raise, Set, Hold}
use Rattle.tm_plant.specs.declared.said.RaiseLine.{RaiseLine}
use Rattle.tm_plant.specs.declared.said.SetLine.{SetLine}
use Rattle.tm_plant.specs.declared.said.HoldLine.{HoldLine}

-- the keyword that a token spells
abbrev pub keyword_in : List ℕ → Result Keyword Reason
keyword_in token =
    if bytes_eq token (codes "device") then Ok Device
    else (if bytes_eq token (codes "raise") then Ok Raise
    else (if bytes_eq token (codes "set") then Ok Set
    else (if bytes_eq token (codes "hold") then Ok Hold else Err Form)))

-- `device D`
abbrev pub device_in : List (List ℕ) → Result ℕ Reason
device_in (device ∷ []) = number_in device
device_in _ = Err Form

-- `raise D LINE TIMES`
abbrev pub raise_in : List (List ℕ) → Result RaiseLine Reason
raise_in (device ∷ line ∷ times ∷ []) = do
  d ← number_in device
  l ← number_in line
  t ← number_in times
  Ok (record { device = d; line = l; times = t })
raise_in _ = Err Form

-- `set D PORT VALUE`
abbrev pub set_in : List (List ℕ) → Result SetLine Reason
set_in (device ∷ port ∷ value ∷ []) = do
  d ← number_in device
  p ← number_in port
  v ← number_in value
  Ok (record { device = d; port = p; value = v })
set_in _ = Err Form

-- `hold D LINE TURNS`
abbrev pub hold_in : List (List ℕ) → Result HoldLine Reason
hold_in (device ∷ line ∷ turns ∷ []) = do
  d ← number_in device
  l ← number_in line
  t ← number_in turns
  Ok (record { device = d; line = l; turns = t })
hold_in _ = Err Form
