-- What the words of an image's line say, below its keyword: first its form, then its numbers.
use Rattle.std.specs.Prelude.{ℕ, Bool, true, false, List, [], ◌∷◌, codes, if◌then◌else◌, Result, Ok, Err}
use Rattle.std.specs.Str.{bytes_eq}
use Rattle.tm_lines.specs.declared.fault.Reason.{Reason}
use Rattle.tm_lines.specs.declared.fault.Reason.TheVariants.{Form}
use Rattle.tm_image.specs.declared.said.Keyword.{Keyword}
use Rattle.tm_image.specs.declared.said.Keyword.TheVariants.{Task, Text, Data, Resource, Alarm, Box, Line, Ring}
use Rattle.tm_image.specs.declared.said.TaskLine.{TaskLine}
use Rattle.tm_image.specs.declared.said.TextLine.{TextLine}
use Rattle.tm_image.specs.declared.said.DataLine.{DataLine}
use Rattle.tm_image.specs.declared.said.ResourceLine.{ResourceLine}
use Rattle.tm_image.specs.declared.said.TaskAction.{TaskAction}
use Rattle.tm_image.specs.declared.said.TaskAction.TheVariants.{Activate, Event}
use Rattle.tm_image.specs.declared.said.AlarmLine.{AlarmLine}
use Rattle.tm_image.specs.declared.said.BoxLine.{BoxLine}
use Rattle.tm_image.specs.declared.said.LineAction.{LineAction}
use Rattle.tm_image.specs.declared.said.LineAction.TheVariants.{Tick, OfTask}
use Rattle.tm_image.specs.declared.said.LineLine.{LineLine}
use Rattle.tm_image.specs.declared.rings.RingName.{RingName}
use Rattle.tm_image.specs.declared.rings.RingName.TheVariants as ring
use Rattle.tm_image.specs.declared.said.RingLine.{RingLine}
use Rattle.tm_lines.specs.Steps.{◌>>=◌}
use Rattle.tm_lines.specs.Numbers.{number_in, word_in, all_in}

-- the keyword that a token spells
abbrev pub keyword_in : List ℕ → Result Keyword Reason
keyword_in token =
    if bytes_eq token (codes "task") then Ok Task
    else (if bytes_eq token (codes "text") then Ok Text
    else (if bytes_eq token (codes "data") then Ok Data
    else (if bytes_eq token (codes "resource") then Ok Resource
    else (if bytes_eq token (codes "alarm") then Ok Alarm
    else (if bytes_eq token (codes "box") then Ok Box
    else (if bytes_eq token (codes "line") then Ok Line
    else (if bytes_eq token (codes "ring") then Ok Ring else Err Form)))))))

-- whether a task is extended: `basic` or `extended`
abbrev pub kind_in : List ℕ → Result Bool Reason
kind_in token =
    if bytes_eq token (codes "basic") then Ok false
    else (if bytes_eq token (codes "extended") then Ok true else Err Form)

-- whether a task is ready at boot: `auto` or `off`
abbrev pub start_in : List ℕ → Result Bool Reason
start_in token =
    if bytes_eq token (codes "auto") then Ok true
    else (if bytes_eq token (codes "off") then Ok false else Err Form)

-- `task N KIND PRIO START ENTRY WORDS`
abbrev pub task_in : List (List ℕ) → Result TaskLine Reason
task_in (number ∷ kind ∷ priority ∷ start ∷ entry ∷ words ∷ []) = do
  k ← kind_in kind
  s ← start_in start
  n ← number_in number
  p ← number_in priority
  e ← number_in entry
  w ← number_in words
  Ok (record { number = n; extended = k; priority = p; auto = s; entry = e; words = w })
task_in _ = Err Form

-- `text N W ..`, with at least one word
abbrev pub text_in : List (List ℕ) → Result TextLine Reason
text_in (number ∷ first ∷ rest) = do
  n ← number_in number
  ws ← all_in word_in (first ∷ rest)
  Ok (record { number = n; words = ws })
text_in _ = Err Form

-- `data N OFFSET W ..`, with at least one word
abbrev pub data_in : List (List ℕ) → Result DataLine Reason
data_in (number ∷ offset ∷ first ∷ rest) = do
  n ← number_in number
  o ← number_in offset
  ws ← all_in word_in (first ∷ rest)
  Ok (record { number = n; offset = o; words = ws })
data_in _ = Err Form

-- `resource N T ..`, with at least one user
abbrev pub resource_in : List (List ℕ) → Result ResourceLine Reason
resource_in (number ∷ first ∷ rest) = do
  n ← number_in number
  ts ← all_in number_in (first ∷ rest)
  Ok (record { number = n; users = ts })
resource_in _ = Err Form

-- `activate T`, below its first word
abbrev pub activate_in : List (List ℕ) → Result TaskAction Reason
activate_in (task ∷ []) = do
  t ← number_in task
  Ok (Activate t)
activate_in _ = Err Form

-- `event T MASK`, below its first word
abbrev pub event_in : List (List ℕ) → Result TaskAction Reason
event_in (task ∷ mask ∷ []) = do
  t ← number_in task
  m ← number_in mask
  Ok (Event t m)
event_in _ = Err Form

-- `activate T` or `event T MASK`
abbrev pub action_in : List (List ℕ) → Result TaskAction Reason
action_in [] = Err Form
action_in (first ∷ words) =
    if bytes_eq first (codes "activate") then activate_in words
    else (if bytes_eq first (codes "event") then event_in words else Err Form)

-- `alarm N ACTION`
abbrev pub alarm_in : List (List ℕ) → Result AlarmLine Reason
alarm_in [] = Err Form
alarm_in (number ∷ words) = do
  a ← action_in words
  n ← number_in number
  Ok (record { number = n; action = a })

-- `box N CAP`
abbrev pub box_in : List (List ℕ) → Result BoxLine Reason
box_in (number ∷ capacity ∷ []) = do
  n ← number_in number
  c ← number_in capacity
  Ok (record { number = n; capacity = c })
box_in _ = Err Form

-- the words are the action `tick`
abbrev pub is_tick : List (List ℕ) → Bool
is_tick (first ∷ []) = bytes_eq first (codes "tick")
is_tick _ = false

-- `tick`, `activate T` or `event T MASK`
abbrev pub line_action_in : List (List ℕ) → Result LineAction Reason
line_action_in words = if is_tick words then Ok Tick else task_action_in words
  where
    task_action_in : List (List ℕ) → Result LineAction Reason
    task_action_in words = do
      a ← action_in words
      Ok (OfTask a)

-- `line L ACTION`
abbrev pub line_in : List (List ℕ) → Result LineLine Reason
line_in [] = Err Form
line_in (number ∷ words) = do
  a ← line_action_in words
  n ← number_in number
  Ok (record { number = n; action = a })

-- the ring that a token names: `control`, `data`, `outputs` or `checks`
abbrev pub ring_name_in : List ℕ → Result RingName Reason
ring_name_in token =
    if bytes_eq token (codes "control") then Ok ring.Control
    else (if bytes_eq token (codes "data") then Ok ring.Data
    else (if bytes_eq token (codes "outputs") then Ok ring.Outputs
    else (if bytes_eq token (codes "checks") then Ok ring.Checks else Err Form)))

-- `ring WHAT N`
abbrev pub ring_in : List (List ℕ) → Result RingLine Reason
ring_in (what ∷ capacity ∷ []) = do
  r ← ring_name_in what
  c ← number_in capacity
  Ok (record { ring = r; capacity = c })
ring_in _ = Err Form
