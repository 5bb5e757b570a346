-- How each printed line is spelled in bytes. Numbers are decimal; addresses, registers and values are
-- eight lower-case hexadecimal digits; every line ends with LF.
use Rattle.std.specs.Prelude.{ℕ, ◌+◌, ◌/◌, ◌%◌, ◌^◌, ◌==◌, nat_lt, if◌then◌else◌, List, [], ◌∷◌, ◌++◌, codes, decimal}
use Rattle.tm_marker.specs.declared.marker.Marker.{Marker}
use Rattle.tm_marker.specs.declared.entries.Kind.{Kind}
use Rattle.tm_marker.specs.declared.entries.Kind.TheVariants.{Preempted, Waits, Ends, Fault, Shutdown, Idle}
use Rattle.tm_marker.specs.declared.entries.Switch.{Switch}
use Rattle.tm_marker.specs.declared.entries.OutputEntry.{OutputEntry}
use Rattle.tm_marker.specs.declared.tail.TheConstants.{NOBODY}

-- a line with its LF
abbrev pub line : List ℕ → List ℕ
line text = text ++ 10 ∷ []

-- a hexadecimal digit, lower case
abbrev pub digit : ℕ → ℕ
digit n = if nat_lt n 10 then 48 + n else 87 + n

-- a word of 32 bits in eight digits
unfoldable pub hex8 : ℕ → List ℕ
hex8 n =
    digit (n / 16 ^ 7 % 16) ∷ digit (n / 16 ^ 6 % 16) ∷ digit (n / 16 ^ 5 % 16) ∷ digit (n / 16 ^ 4 % 16) ∷
    digit (n / 16 ^ 3 % 16) ∷ digit (n / 16 ^ 2 % 16) ∷ digit (n / 16 % 16) ∷ digit (n % 16) ∷ []

-- a task is its number, and nobody a dash
abbrev pub who : ℕ → List ℕ
who task = if task == NOBODY then codes "-" else decimal task

-- EPOCH.COUNT.PC
abbrev pub marker_text : Marker → List ℕ
marker_text m = decimal m.epoch ++ codes "." ++ decimal m.count ++ codes "." ++ hex8 m.pc

-- why control went on
abbrev pub kind_name : Kind → List ℕ
kind_name Preempted = codes "preempted"
kind_name Waits = codes "waits"
kind_name Ends = codes "ends"
kind_name Fault = codes "fault"
kind_name Shutdown = codes "shutdown"
kind_name Idle = codes "idle"

-- the states of a task, by their numbers 0 to 3
abbrev pub state_name : ℕ → List ℕ
state_name state =
    if state == 0 then codes "suspended"
    else if state == 1 then codes "ready"
    else if state == 2 then codes "running"
    else codes "waiting"

-- how a run stands: 0 it goes on, 1 after a fault, 2 after a shutdown
abbrev pub ending_name : ℕ → List ℕ
ending_name ended = if ended == 0 then codes "on" else if ended == 1 then codes "fault" else codes "shutdown"

-- start FROM RUNNING
unfoldable pub start_line : ℕ → ℕ → List ℕ
start_line from running = line (codes "start " ++ decimal from ++ codes " " ++ who running)

-- task TASK MARKER
unfoldable pub task_line : ℕ → Marker → List ℕ
task_line task at = line (codes "task " ++ decimal task ++ codes " " ++ marker_text at)

-- task TASK STATE MARKER
unfoldable pub state_line : ℕ → ℕ → Marker → List ℕ
state_line task state at =
    line (codes "task " ++ decimal task ++ codes " " ++ state_name state ++ codes " " ++ marker_text at)

-- ` xN=VALUE` for each register that is not 0, rising; the first of the list is register `number`
abbrev pub registers_from : ℕ → List ℕ → List ℕ
registers_from number [] = []
registers_from number (value ∷ values) =
    (if value == 0 then [] else codes " x" ++ decimal number ++ codes "=" ++ hex8 value) ++
    registers_from (number + 1) values

-- regs, and the registers x1 to x31 that are not 0
unfoldable pub regs_line : List ℕ → List ℕ
regs_line regs = line (codes "regs" ++ registers_from 1 regs)

-- data ADDRESS VALUE
unfoldable pub data_line : ℕ × ℕ → List ℕ
data_line word = line (codes "data " ++ hex8 word.0 ++ codes " " ++ hex8 word.1)

-- out PORT VALUE
unfoldable pub out_line : OutputEntry → List ℕ
out_line output = line (codes "out " ++ decimal output.port ++ codes " " ++ hex8 output.value)

-- switch SEQ FROM KIND TO
unfoldable pub switch_line : ℕ → Switch → List ℕ
switch_line seq s =
    line (codes "switch " ++ decimal seq ++ codes " " ++ who s.from ++ codes " " ++ kind_name s.kind ++ codes " " ++ who s.to)

-- at MARKER
unfoldable pub at_line : Marker → List ℕ
at_line at = line (codes "at " ++ marker_text at)

-- cause NUMBER
unfoldable pub cause_line : ℕ → List ℕ
cause_line cause = line (codes "cause " ++ decimal cause)

-- end RUNNING HOW
unfoldable pub end_line : ℕ → ℕ → List ℕ
end_line running ended = line (codes "end " ++ who running ++ codes " " ++ ending_name ended)
