-- A text as lines, a line as tokens, and a file read line by line.
use Rattle.std.specs.Prelude.{ℕ, ◌+◌, ◌-◌, Bool, true, false, ◌&&◌, ◌||◌, not, List, [], ◌∷◌, length, take, filter, find, slice_index, ◌==◌, nat_le, nat_lt, if◌then◌else◌, Option, Some, None, Result, Ok, Err}
use Rattle.std.specs.List.{slice_split, onto_first, list_all}
use Rattle.std.specs.Str.{bytes_eq}
use Rattle.tm_lines.specs.declared.fault.Reason.{Reason}
use Rattle.tm_lines.specs.declared.fault.Reason.TheVariants.{Form, Missing}
use Rattle.tm_lines.specs.declared.fault.Fault.{Fault}
use Rattle.tm_lines.specs.Steps.{◌>>=◌, on_line}

-- the byte ends a line: LF
abbrev pub is_line_end : ℕ → Bool
is_line_end c = c == 10

-- each line without its LF; a last piece that no LF ends counts too, if it is not empty
abbrev pub pieces : List ℕ → List (List ℕ)
pieces [] = []
pieces (c ∷ cs) = if is_line_end c then [] ∷ pieces cs else onto_first c (pieces cs)

-- the line without one CR at its end
abbrev pub without_return : List ℕ → List ℕ
without_return line = if slice_index line (length line - 1) == 13 then take (length line - 1) line else line

-- the byte may stand in a line: a tab, or 20 to 7e hexadecimal
abbrev pub is_plain : ℕ → Bool
is_plain c = c == 9 || (nat_le 32 c && nat_le c 126)

-- the byte parts two tokens: a space or a tab
abbrev pub is_gap : ℕ → Bool
is_gap c = c == 32 || c == 9

-- the byte belongs to a token
abbrev pub is_ink : ℕ → Bool
is_ink c = not (is_gap c)

-- the piece between two gaps is a token: it is not empty
abbrev pub is_token : List ℕ → Bool
is_token piece = not (length piece == 0)

-- the tokens of a line
abbrev pub tokens : List ℕ → List (List ℕ)
tokens line = filter is_token (slice_split is_gap line)

-- where tokens begin with this byte, the line is skipped: there is none, or it is `#`
abbrev pub is_note_start : Option ℕ → Bool
is_note_start None = true
is_note_start (Some c) = c == 35

-- the line has no tokens, or the first of them begins with `#`
abbrev pub is_skipped : List ℕ → Bool
is_skipped line = is_note_start (find is_ink line)

-- the tokens of a line as it is read; none where the line is skipped
abbrev pub tokens_read : List ℕ → List (List ℕ)
tokens_read line = if is_skipped line then [] else tokens line

-- what a line says: it is Form where some byte may not stand in a line
abbrev pub said : List ℕ → Result (List (List ℕ)) Reason
said line =
    if list_all is_plain (without_return line) then Ok (tokens_read (without_return line)) else Err Form

-- the tokens, where they are no more than they may be; and Form where they are more
abbrev pub within : Option ℕ → List (List ℕ) → Result (List (List ℕ)) Reason
within None found = Ok found
within (Some most) found = if nat_lt most (length found) then Err Form else Ok found

-- what a line of at most so many tokens says
abbrev pub said_within : Option ℕ → List ℕ → Result (List (List ℕ)) Reason
said_within most line = do
  found ← said line
  within most found

-- a header: the name of the kind of file, and its version
pub record Header : Type 0 where
  pub name : List ℕ
  pub version : List ℕ

-- the header of this name and version
abbrev pub header : List ℕ → List ℕ → Header
header name version = record { name = name; version = version }

-- the tokens are those of the header
abbrev pub is_header : Header → List (List ℕ) → Bool
is_header h (first ∷ second ∷ []) = bytes_eq first h.name && bytes_eq second h.version
is_header h _ = false

-- whether these tokens are the header; those of a skipped line are not, and all others are Form
abbrev pub is_opened : Header → List (List ℕ) → Result Bool Reason
is_opened h [] = Ok false
is_opened h (first ∷ rest) = if is_header h (first ∷ rest) then Ok true else Err Form

-- whether the line is the header
abbrev pub opening : Header → List ℕ → Result Bool Reason
opening h line = do
  found ← said line
  is_opened h found

-- the lines below the header, and the number of the first of them, where the lines are numbered from
-- `number` on: the first line that is not skipped is the header
abbrev pub from_header : Header → ℕ → List (List ℕ) → Result (ℕ × List (List ℕ)) Fault
from_header h number [] = Err (record { line = number; reason = Missing })
from_header h number (line ∷ rest) = do
  opened ← on_line number (opening h line)
  if opened then Ok (number + 1, rest) else from_header h (number + 1) rest

-- the state after a line of these tokens, which `next` tells; a skipped line changes nothing
abbrev pub go_on : {S : Type 0} → (S → List (List ℕ) → Result S Reason) → S → List (List ℕ) → Result S Reason
go_on next state [] = Ok state
go_on next state (first ∷ rest) = next state (first ∷ rest)

-- the state after a line
abbrev pub step : {S : Type 0} → (S → List (List ℕ) → Result S Reason) → S → List ℕ → Result S Reason
step next state line = do
  found ← said line
  go_on next state found

-- the state after the lines, which are numbered from `number` on, and the number of the line that
-- would come next
abbrev pub lines_on : {S : Type 0} → (S → List (List ℕ) → Result S Reason) → ℕ → S → List (List ℕ) → Result (ℕ × S) Fault
lines_on next number state [] = Ok (number, state)
lines_on next number state (line ∷ rest) = do
  after ← on_line number (step next state line)
  lines_on next (number + 1) after rest
