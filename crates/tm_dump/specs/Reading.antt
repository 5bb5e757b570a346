-- Reading a dump, one thing after the other: each value with what follows it, or the first field that is
-- bad. A rule over two fields is tested at the later one.
use Rattle.std.specs.Prelude.{ℕ, zero, suc, ◌+◌, ◌-◌, ◌%◌, ◌^◌, Bool, true, false, not, ◌&&◌, ◌||◌, ◌==◌, nat_lt, nat_le, if◌then◌else◌, List, [], ◌∷◌, length, min, take, drop, slice_index, Option, Some, None, Result, Ok, Err}
use Rattle.std.specs.List.{list_all}
use Rattle.std.specs.Str.{bytes_eq}
use Rattle.tm_marker.specs.declared.marker.Marker.{Marker}
use Rattle.tm_marker.specs.declared.marker.TheConstants.{EPOCH_LENGTH}
use Rattle.tm_marker.specs.declared.entries.Kind.{Kind}
use Rattle.tm_marker.specs.declared.entries.Kind.TheVariants.{Preempted, Waits, Ends, Fault, Shutdown, Idle}
use Rattle.tm_marker.specs.declared.entries.Switch.{Switch}
use Rattle.tm_marker.specs.declared.entries.DataEntry.{DataEntry}
use Rattle.tm_marker.specs.declared.entries.OutputEntry.{OutputEntry}
use Rattle.tm_marker.specs.declared.shape.Caps.{Caps}
use Rattle.tm_marker.specs.declared.shape.Shape.{Shape}
use Rattle.tm_marker.specs.declared.tail.Tail.{Tail}
use Rattle.tm_ring.specs.Kept.{Kept, kept}
use Rattle.tm_check.specs.Checkpoint.{Checkpoint, KeptChecks, checkpoint, kept_checks}
use Rattle.tm_lines.specs.Steps.{◌>>=◌}
use Rattle.tm_log.specs.Window.{WindowView, window_from, nobody}
use Rattle.tm_log.specs.WellFormed.{ended_by, runs_last, ended_last}
use Rattle.tm_dump.specs.declared.fault.DumpFault.{DumpFault}
use Rattle.tm_dump.specs.declared.widths.TheConstants.{MAGIC_BYTES, DIGEST_BYTES}
use Rattle.tm_dump.specs.declared.fault.DumpFault.TheVariants.{Magic, Version, Digest, OtherImage, Field, Extra}
use Rattle.tm_dump.specs.Dump.{closing_digest}
use Rattle.tm_dump.specs.Cursor.{Cursor, Reading, byte_in, word_in, byte_where, word_where, long_where, words_in}

-- all is 0 in the marker of nobody
abbrev pub is_zero_of : Bool → ℕ → Bool
is_zero_of nobody n = not nobody || n == 0

-- the count of a marker
abbrev pub count_in : Bool → Cursor → Reading ℕ
count_in nobody at = word_where (λ n. nat_lt n EPOCH_LENGTH && is_zero_of nobody n) at

-- the pc of a marker
abbrev pub pc_in : Bool → Cursor → Reading ℕ
pc_in nobody at = word_where (λ n. n % 4 == 0 && is_zero_of nobody n) at

-- the count and the pc of a marker whose epoch was read
abbrev pub instant_in : Bool → ℕ → Cursor → Reading Marker
instant_in nobody epoch at = do
  count ← count_in nobody at
  pc ← pc_in nobody count.1
  Ok (record { epoch = epoch; count = count.0; pc = pc.0 }, pc.1)

-- the marker of a task, or of nobody
abbrev pub marker_in : Bool → Cursor → Reading Marker
marker_in nobody at = do
  epoch ← long_where (is_zero_of nobody) at
  instant_in nobody epoch.0 epoch.1

-- a task of so many, or nobody
abbrev pub is_task_or_nobody : ℕ → ℕ → Bool
is_task_or_nobody tasks n = nat_lt n tasks || n == nobody

-- whom an entry leaves: the task, or nobody, to whom the entry before went, which did not end the run
abbrev pub follows : Option Switch → ℕ → Bool
follows None n = true
follows (Some before) n = n == before.to && ended_by before.kind == 0

-- the kind is idle exactly where nobody ran
abbrev pub is_kind_from : ℕ → ℕ → Bool
is_kind_from from n = if from == nobody then n == 5 else nat_lt n 5

-- the kind of a number
abbrev pub kind_of : ℕ → Kind
kind_of n =
    if n == 0 then Preempted
    else (if n == 1 then Waits
    else (if n == 2 then Ends
    else (if n == 3 then Fault
    else (if n == 4 then Shutdown else Idle))))

-- whom a task, or nobody, leaves the processor to, by the kind
abbrev pub goes_to : Kind → ℕ → ℕ → Bool
goes_to Preempted from to = not (to == nobody) && not (to == from)
goes_to Waits from to = not (to == from)
goes_to Ends from to = true
goes_to Fault from to = to == nobody
goes_to Shutdown from to = to == nobody
goes_to Idle from to = not (to == nobody)

-- whom an entry leaves
abbrev pub from_in : ℕ → Option Switch → Cursor → Reading ℕ
from_in tasks before at = byte_where (λ n. is_task_or_nobody tasks n && follows before n) at

-- the kind of a number that was read
abbrev pub as_kind : ℕ × Cursor → Reading Kind
as_kind found = Ok (kind_of found.0, found.1)

-- the kind of an entry
abbrev pub kind_in : ℕ → Cursor → Reading Kind
kind_in from at = byte_where (is_kind_from from) at >>= as_kind

-- whom an entry goes to
abbrev pub to_in : ℕ → Kind → ℕ → Cursor → Reading ℕ
to_in tasks kind from at = byte_where (λ n. is_task_or_nobody tasks n && goes_to kind from n) at

-- a control entry that follows another, or is the first
abbrev pub switch_in : ℕ → Option Switch → Cursor → Reading Switch
switch_in tasks before at = do
  from ← from_in tasks before at
  kind ← kind_in from.0 from.1
  from_at ← marker_in (from.0 == nobody) kind.1
  to ← to_in tasks kind.0 from.0 from_at.1
  to_at ← marker_in (to.0 == nobody) to.1
  Ok (record { from = from.0; kind = kind.0; from_at = from_at.0; to = to.0; to_at = to_at.0 }, to_at.1)

-- a number of one byte below a limit
abbrev pub byte_below : ℕ → Cursor → Reading ℕ
byte_below limit at = byte_where (λ n. nat_lt n limit) at

-- an output of one of so many tasks
abbrev pub output_in : ℕ → Option OutputEntry → Cursor → Reading OutputEntry
output_in tasks before at = do
  task ← byte_below tasks at
  port ← byte_below 4 task.1
  value ← word_in port.1
  Ok (record { task = task.0; port = port.0; value = value.0 }, value.1)

-- the status of a data entry
abbrev pub status_in : Cursor → Reading ℕ
status_in at = word_where (λ n. nat_le n 8) at

-- a data entry
abbrev pub data_in : ℕ → Option DataEntry → Cursor → Reading DataEntry
data_in tasks before at = do
  service ← byte_in at
  status ← status_in service.1
  words ← words_in 4 status.1
  Ok (record { service = service.0; status = status.0; words = words.0 }, words.1)

-- so many entries, each of which may look at the one before
abbrev pub entries_in : {X : Type 0} → (Option X → Cursor → Reading X) → Option X → ℕ → Cursor → Reading (List X)
entries_in next before zero at = Ok ([], at)
entries_in next before (suc n) at = do
  entry ← next before at
  rest ← entries_in next (Some entry.0) n entry.1
  Ok (entry.0 ∷ rest.0, rest.1)

-- how many items there were
abbrev pub total_in : Cursor → Reading ℕ
total_in at = long_where (λ n. nat_lt n (2 ^ 53)) at

-- a ring: how many entries there were, and the last ones, up to the capacity
abbrev pub ring_in : {X : Type 0} → (Option X → Cursor → Reading X) → ℕ → Cursor → Reading (Kept X)
ring_in next cap at = do
  total ← total_in at
  items ← entries_in next None (min total.0 cap) total.1
  Ok (kept items.0 total.0 cap, items.1)

-- a pc
abbrev pub aligned_in : Cursor → Reading ℕ
aligned_in at = word_where (λ n. n % 4 == 0) at

-- a number no greater than a total
abbrev pub at_most_in : ℕ → Cursor → Reading ℕ
at_most_in most at = long_where (λ n. nat_le n most) at

-- a checkpoint of so many data words, after so many data entries and control entries
abbrev pub checkpoint_in : ℕ → ℕ → ℕ → Cursor → Reading Checkpoint
checkpoint_in size entries switches at = do
  pc ← aligned_in at
  regs ← words_in 31 pc.1
  data_number ← at_most_in entries regs.1
  control_number ← at_most_in switches data_number.1
  words ← words_in size control_number.1
  Ok (checkpoint (record { pc = pc.0; regs = regs.0; words = words.0 }) data_number.0 control_number.0, words.1)

-- so many checkpoints
abbrev pub checkpoints_in : ℕ → ℕ → ℕ → ℕ → Cursor → Reading (List Checkpoint)
checkpoints_in size entries switches zero at = Ok ([], at)
checkpoints_in size entries switches (suc n) at = do
  first ← checkpoint_in size entries switches at
  rest ← checkpoints_in size entries switches n first.1
  Ok (first.0 ∷ rest.0, rest.1)

-- where the task stands on a side of a control entry, its epoch is below this number
abbrev pub is_below_on : ℕ → ℕ → ℕ → Marker → Bool
is_below_on task total who at = not (who == task) || nat_lt at.epoch total

-- the task's epochs on both sides of a control entry are below this number
abbrev pub is_reached : ℕ → ℕ → Switch → Bool
is_reached task total entry = is_below_on task total entry.from entry.from_at && is_below_on task total entry.to entry.to_at

-- how many checkpoints of the task there were: there is one at boot, and one for each epoch that the
-- control entries tell of
abbrev pub is_check_total : List Switch → ℕ → ℕ → Bool
is_check_total switches task n = nat_lt 0 n && nat_lt n (2 ^ 53) && list_all (is_reached task n) switches

-- how many checkpoints of the task there were
abbrev pub check_total_in : List Switch → ℕ → Cursor → Reading ℕ
check_total_in switches task at = long_where (is_check_total switches task) at

-- the checkpoints of a task of so many data words and data entries
abbrev pub checks_in : ℕ → ℕ → Kept Switch → ℕ → ℕ → Cursor → Reading KeptChecks
checks_in cap size control task entries at = do
  total ← check_total_in control.items task at
  items ← checkpoints_in size entries control.total (min total.0 cap) total.1
  Ok (kept_checks items.0 total.0 cap size, items.1)

-- the data entries and the checkpoints of a task of so many data words
abbrev pub task_in : Caps → Kept Switch → ℕ → ℕ → ℕ → Cursor → Reading (Kept DataEntry × KeptChecks)
task_in caps control tasks task size at = do
  log ← ring_in (data_in tasks) caps.logs at
  checks ← checks_in caps.checks size control task log.0.total log.1
  Ok ((log.0, checks.0), checks.1)

-- those of the tasks from this one on, which have so many data words
abbrev pub tasks_in : Caps → Kept Switch → ℕ → ℕ → List ℕ → Cursor → Reading (List (Kept DataEntry) × List KeptChecks)
tasks_in caps control tasks task [] at = Ok (([], []), at)
tasks_in caps control tasks task (size ∷ sizes) at = do
  first ← task_in caps control tasks task size at
  rest ← tasks_in caps control tasks (task + 1) sizes first.1
  Ok ((first.0.0 ∷ rest.0.0, first.0.1 ∷ rest.0.1), rest.1)

-- the state is 2 exactly for the running task
abbrev pub is_state : ℕ → ℕ → ℕ → Bool
is_state running task n = nat_le n 3 && (if running == task then n == 2 else not (n == 2))

-- a number of one byte, which is this one
abbrev pub exactly_in : ℕ → Cursor → Reading ℕ
exactly_in wanted at = byte_where (λ n. n == wanted) at

-- the epoch of the last of so many checkpoints
abbrev pub epoch_in : ℕ → Cursor → Reading ℕ
epoch_in total at = long_where (λ n. n == total - 1) at

-- the state of a task
abbrev pub state_in : ℕ → ℕ → Cursor → Reading ℕ
state_in running task at = byte_where (is_state running task) at

-- the marker and the state of a task with so many checkpoints: it stands in the epoch of the last
abbrev pub stand_in : ℕ → ℕ → ℕ → Cursor → Reading (Marker × ℕ)
stand_in running task total at = do
  epoch ← epoch_in total at
  marker ← instant_in false epoch.0 epoch.1
  state ← state_in running task marker.1
  Ok ((marker.0, state.0), state.1)

-- the markers and the states of the tasks from this one on
abbrev pub stands_in : ℕ → ℕ → List KeptChecks → Cursor → Reading (List Marker × List ℕ)
stands_in running task [] at = Ok (([], []), at)
stands_in running task (checks ∷ others) at = do
  stand ← stand_in running task checks.total at
  rest ← stands_in running (task + 1) others stand.1
  Ok ((stand.0.0 ∷ rest.0.0, stand.0.1 ∷ rest.0.1), rest.1)

-- the last moment: it is where the last control entry led
abbrev pub tail_in : List Switch → List KeptChecks → Cursor → Reading Tail
tail_in switches checks at = do
  running ← exactly_in (runs_last switches) at
  ended ← exactly_in (ended_last switches) running.1
  stands ← stands_in running.0 0 checks ended.1
  Ok (record { running = running.0; ended = ended.0; at = stands.0.0; state = stands.0.1 }, stands.1)

-- all fields behind the image's digest
abbrev pub fields_in : Shape → Cursor → Reading WindowView
fields_in shape at = do
  tasks ← exactly_in (length shape.words) at
  control ← ring_in (switch_in (length shape.words)) shape.caps.control tasks.1
  outputs ← ring_in (output_in (length shape.words)) shape.caps.outputs control.1
  lists ← tasks_in shape.caps control.0 (length shape.words) 0 shape.words outputs.1
  tail ← tail_in control.0.items lists.0.1 lists.1
  Ok (window_from shape control.0 outputs.0 lists.0.0 lists.0.1 tail.0, tail.1)

-- what was read, where no byte is left
abbrev pub whole : {X : Type 0} → X × Cursor → Result X DumpFault
whole found = if length found.1.left == 0 then Ok found.0 else Err (Extra found.1.place)

-- the fields from this place on, and no byte more
abbrev pub inside : Shape → List ℕ → Result WindowView DumpFault
inside shape bytes = fields_in shape (record { place = MAGIC_BYTES + DIGEST_BYTES; left = bytes }) >>= whole

-- the image's digest, and all fields behind it
abbrev pub behind_version : Shape → List ℕ → Result WindowView DumpFault
behind_version shape bytes =
    if nat_lt (length bytes) DIGEST_BYTES then Err (Field MAGIC_BYTES)
    else (if bytes_eq (take DIGEST_BYTES bytes) shape.image then inside shape (drop DIGEST_BYTES bytes)
    else Err (OtherImage (take DIGEST_BYTES bytes) shape.image))

-- all but the closing digest
abbrev pub before_digest : List ℕ → List ℕ
before_digest bytes = take (length bytes - DIGEST_BYTES) bytes

-- the closing digest
abbrev pub found_digest : List ℕ → List ℕ
found_digest bytes = drop (length bytes - DIGEST_BYTES) bytes

-- there are enough bytes for a version and a digest, and they begin with the magic number
abbrev pub is_dump : List ℕ → Bool
is_dump bytes = nat_le (MAGIC_BYTES + DIGEST_BYTES) (length bytes) && bytes_eq (take 4 bytes) (0x54 ∷ 0x4d ∷ 0x44 ∷ 0x50 ∷ [])

-- the bytes between the version and the closing digest
abbrev pub enclosed : List ℕ → Result (List ℕ) DumpFault
enclosed bytes =
    if not (is_dump bytes) then Err Magic
    else (if not (slice_index bytes 4 == 1) then Err (Version (slice_index bytes 4))
    else (if bytes_eq (found_digest bytes) (closing_digest (before_digest bytes))
    then Ok (drop MAGIC_BYTES (before_digest bytes))
    else Err (Digest (found_digest bytes) (closing_digest (before_digest bytes)))))

-- the window of a dump, or why the bytes are no dump of a window of this shape
unfoldable pub window_in : Shape → List ℕ → Result WindowView DumpFault
window_in shape bytes = enclosed bytes >>= behind_version shape
