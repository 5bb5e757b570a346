-- How each value of a dump is spelled: numbers have their lowest byte first, and lists have one item
-- after the other.
use Rattle.std.specs.Prelude.{ℕ, List, [], ◌∷◌, ◌++◌, take}
use Rattle.std.specs.List.{flat_map}
use Rattle.byteorder.specs.Endian.{little_bytes}
use Rattle.tm_marker.specs.declared.body.Body.{Body}
use Rattle.tm_marker.specs.declared.marker.Marker.{Marker}
use Rattle.tm_marker.specs.declared.entries.Kind.{Kind}
use Rattle.tm_marker.specs.declared.entries.Kind.TheVariants.{Preempted, Waits, Ends, Fault, Shutdown, Idle}
use Rattle.tm_marker.specs.declared.entries.Switch.{Switch}
use Rattle.tm_marker.specs.declared.entries.DataEntry.{DataEntry}
use Rattle.tm_marker.specs.declared.entries.OutputEntry.{OutputEntry}
use Rattle.tm_check.specs.Checkpoint.{Checkpoint}
use Rattle.tm_dump.specs.declared.widths.TheConstants.{WORD_BYTES, LONG_BYTES}

-- a number below 2 ^ 32
unfoldable pub word_bytes : ℕ → List ℕ
word_bytes number = little_bytes WORD_BYTES number

-- a number below 2 ^ 64
unfoldable pub long_bytes : ℕ → List ℕ
long_bytes number = little_bytes LONG_BYTES number

-- a marker: the epoch, the count, the pc
unfoldable pub marker_bytes : Marker → List ℕ
marker_bytes at = long_bytes at.epoch ++ word_bytes at.count ++ word_bytes at.pc

-- the number of a kind
abbrev pub kind_number : Kind → ℕ
kind_number Preempted = 0
kind_number Waits = 1
kind_number Ends = 2
kind_number Fault = 3
kind_number Shutdown = 4
kind_number Idle = 5

-- a control entry: who ran, the kind and the marker, then who runs next and the marker
unfoldable pub switch_bytes : Switch → List ℕ
switch_bytes entry =
    (entry.from ∷ kind_number entry.kind ∷ []) ++ marker_bytes entry.from_at
    ++ (entry.to ∷ []) ++ marker_bytes entry.to_at

-- an output: the task, the port, the value
unfoldable pub output_bytes : OutputEntry → List ℕ
output_bytes entry = (entry.task ∷ entry.port ∷ []) ++ word_bytes entry.value

-- the four words of an answer
abbrev pub answer_words : DataEntry → List ℕ
answer_words entry = take 4 entry.words

-- a data entry: the service, the status, the four words
unfoldable pub entry_bytes : DataEntry → List ℕ
entry_bytes entry = (entry.service ∷ []) ++ word_bytes entry.status ++ flat_map word_bytes (answer_words entry)

-- the pc, then x1 to x31
unfoldable pub core_words : Body → List ℕ
core_words body = body.pc ∷ take 31 body.regs

-- a checkpoint: the pc and the registers, its data number, its control number, the data words
unfoldable pub checkpoint_bytes : Checkpoint → List ℕ
checkpoint_bytes c =
    flat_map word_bytes (core_words c.body) ++ long_bytes c.data_number ++ long_bytes c.control_number
    ++ flat_map word_bytes c.body.words
