-- What a plant is, and how it is written: each `new_` tells, in this order, when a line is out of range, when it
-- repeats something, and when it passes a limit.
use Rattle.std.specs.Prelude.{ℕ, ◌+◌, ◌<◌, ◌≤◌, Bool, false, ◌||◌, List, [], ◌∷◌, ◌++◌, length, sum_by, slice_get, slice_set, unwrap_or, ◌==◌, nat_lt, nat_le, codes, All, Result, Ok, Err}
use Rattle.tm_marker.specs.declared.entries.TheConstants.{LINES, PORTS}
use Rattle.tm_lines.specs.declared.fault.Reason.{Reason}
use Rattle.tm_lines.specs.declared.fault.Reason.TheVariants.{Form}
use Rattle.tm_lines.specs.declared.fault.Fault.{Fault}
use Rattle.tm_lines.specs.Steps.{◌>>=◌, tested}
use Rattle.tm_lines.specs.Lines.{pieces, header, from_header, lines_on}
use Rattle.tm_plant.specs.declared.plant.Act.{Act}
use Rattle.tm_plant.specs.declared.plant.Act.TheVariants as act
use Rattle.tm_plant.specs.declared.plant.TheConstants.{MOST_DEVICES, MOST_ACTS, MOST_RAISES, MOST_TURNS}
use Rattle.tm_plant.specs.declared.said.Keyword.{Keyword}
use Rattle.tm_plant.specs.declared.said.Keyword.TheVariants.{Device, Raise, Set, Hold}
use Rattle.tm_plant.specs.declared.said.RaiseLine.{RaiseLine}
use Rattle.tm_plant.specs.declared.said.SetLine.{SetLine}
use Rattle.tm_plant.specs.declared.said.HoldLine.{HoldLine}
use Rattle.tm_plant.specs.Said.{keyword_in, device_in, raise_in, set_in, hold_in}

-- an act names a line or a port that there is; a line is raised at least once, and held for no more turns than
-- it may be
abbrev pub IsAct : Act → Type 0
IsAct (act.Raise line times) = (line < LINES) × (0 < times)
IsAct (act.Set port value) = port < PORTS
IsAct (act.Hold line turns) = (line < LINES) × (turns ≤ MOST_TURNS)

-- how many raises an act is
abbrev pub raises_of : Act → ℕ
raises_of (act.Raise line times) = times
raises_of (act.Set port value) = 0
raises_of (act.Hold line turns) = 0

-- how many acts the devices have, all together
abbrev pub acts_in : List (List Act) → ℕ
acts_in devices = sum_by (λ acts. length acts) devices

-- how many raises the acts of all devices are
abbrev pub raises_in : List (List Act) → ℕ
raises_in devices = sum_by (λ acts. sum_by raises_of acts) devices

-- each act is within its ranges, and the devices, their acts and their raises are no more than there may be
pub record IsPlant (devices : List (List Act)) : Type 0 where
  pub few : length devices ≤ MOST_DEVICES
  pub acts : All (λ acts. All IsAct acts) devices
  pub few_acts : acts_in devices ≤ MOST_ACTS
  pub few_raises : raises_in devices ≤ MOST_RAISES

-- what a device does; nothing, where there is no such device
abbrev pub acts_of : List (List Act) → ℕ → List Act
acts_of devices device = unwrap_or (slice_get devices device) []

-- the devices, one of which does one more thing at the end
abbrev pub with_act : List (List Act) → ℕ → Act → List (List Act)
with_act devices device act = slice_set devices device (acts_of devices device ++ act ∷ [])

-- there is no device of this number
abbrev pub is_no_device : List (List Act) → ℕ → Bool
is_no_device devices device = nat_le (length devices) device

-- there is no room for one more act
abbrev pub is_full : List (List Act) → Bool
is_full devices = nat_le MOST_ACTS (acts_in devices)

-- devices are numbered in their order
abbrev pub new_device : List (List Act) → ℕ → Result (List (List Act)) Reason
new_device devices device = tested
    (nat_lt (length devices) device)
    (nat_lt device (length devices))
    (device == MOST_DEVICES)
    (devices ++ [] ∷ [])

-- a line that there is, raised at least once
abbrev pub new_raise : List (List Act) → RaiseLine → Result (List (List Act)) Reason
new_raise devices r = tested
    (is_no_device devices r.device || nat_le LINES r.line || r.times == 0)
    false
    (is_full devices || nat_lt MOST_RAISES (raises_in devices + r.times))
    (with_act devices r.device (act.Raise r.line r.times))

-- a value for a port that there is
abbrev pub new_set : List (List Act) → SetLine → Result (List (List Act)) Reason
new_set devices s = tested
    (is_no_device devices s.device || nat_le PORTS s.port)
    false
    (is_full devices)
    (with_act devices s.device (act.Set s.port s.value))

-- a line that there is, and no more turns than there may be
abbrev pub new_hold : List (List Act) → HoldLine → Result (List (List Act)) Reason
new_hold devices h = tested
    (is_no_device devices h.device || nat_le LINES h.line || nat_lt MOST_TURNS h.turns)
    false
    (is_full devices)
    (with_act devices h.device (act.Hold h.line h.turns))

-- what the words below a keyword make of the devices
abbrev pub words_on : List (List Act) → Keyword → List (List ℕ) → Result (List (List Act)) Reason
words_on devices Device words = device_in words >>= new_device devices
words_on devices Raise words = raise_in words >>= new_raise devices
words_on devices Set words = set_in words >>= new_set devices
words_on devices Hold words = hold_in words >>= new_hold devices

-- a line of a plant
abbrev pub plant_line : List (List Act) → List (List ℕ) → Result (List (List Act)) Reason
plant_line devices [] = Err Form
plant_line devices (first ∷ words) = do
  keyword ← keyword_in first
  words_on devices keyword words

-- the devices of a plant, or the first fault: the header `tmplant 1`, and one line for each device and act
unfoldable pub plant_of : List ℕ → Result (List (List Act)) Fault
plant_of bytes = do
  body ← from_header (header (codes "tmplant") (codes "1")) 1 (pieces bytes)
  last ← lines_on plant_line body.0 [] body.1
  Ok last.1
