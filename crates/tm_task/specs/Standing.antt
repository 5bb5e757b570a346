-- Where a task stands: its body, its epoch and its count.
use Rattle.std.specs.Prelude.{◌≡◌, ℕ, ◌+◌, ◌*◌, ◌%◌, ◌^◌, ◌<◌, ◌≤◌, Bool, true, false, ◌||◌, ◌&&◌, ◌==◌, if◌then◌else◌, List, [], ◌∷◌, length, replicate, slice_index}
use Rattle.tm_marker.specs.declared.body.Body.{Body}
use Rattle.tm_marker.specs.declared.marker.Marker.{Marker}
use Rattle.tm_marker.specs.declared.marker.TheConstants.{EPOCH_LENGTH}
use Rattle.tm_marker.specs.declared.entries.DataEntry.{DataEntry}
use Rattle.tm_marker.specs.declared.service.Service.TheVariants.{TerminateTask, ChainTask, WaitEvent}
use Rattle.tm_marker.specs.Service.{service_number}
use Rattle.tm_task.specs.Memory.{data_start}
use Rattle.tm_task.specs.Exec.{reg, with_reg, advanced}

-- a body, its epoch, and the backward transfers since the epoch began
pub record Standing : Type 0 where
  pub body : Body
  pub epoch : ℕ
  pub count : ℕ

-- a task: where its text is entered, and where it stands
pub record TaskView : Type 0 where
  pub entry : ℕ
  pub standing : Standing

-- a task of these parts
abbrev pub task_view : ℕ → Body → ℕ → ℕ → TaskView
task_view entry body epoch count =
    record { entry = entry; standing = record { body = body; epoch = epoch; count = count } }

-- the arguments of a call: a0 to a5
abbrev pub args_of : Body → List ℕ
args_of b = reg b 10 ∷ reg b 11 ∷ reg b 12 ∷ reg b 13 ∷ reg b 14 ∷ reg b 15 ∷ []

-- the marker of a standing
abbrev pub marker_of : Standing → Marker
marker_of s = record { epoch = s.epoch; count = s.count; pc = s.body.pc }

-- the registers at boot: x2, the stack pointer, is the end of the data, and the others are 0
abbrev pub boot_registers : ℕ → List ℕ
boot_registers words = 0 ∷ (data_start + 4 * words) ∷ replicate 29 0

-- a body's pc and registers as at boot, with its data as it is
abbrev pub restarted : ℕ → Body → Body
restarted entry b = record { pc = entry; regs = boot_registers (length b.words); words = b.words }

-- the body at boot
abbrev pub boot_body : ℕ → List ℕ → Body
boot_body entry words = record { pc = entry; regs = boot_registers (length words); words = words }

-- the task at boot
abbrev pub booted_task : ℕ → List ℕ → TaskView
booted_task entry words =
    record { entry = entry; standing = record { body = boot_body entry words; epoch = 0; count = 0 } }

-- the one more backward transfer begins an epoch, since the count would reach its end
abbrev pub is_full : Standing → Bool
is_full s = s.count + 1 == EPOCH_LENGTH

-- a new epoch begins with the body
abbrev pub next_epoch : Standing → Body → Standing
next_epoch s next = record { body = next; epoch = s.epoch + 1; count = 0 }

-- the standing after an instruction that went on to the next body, by a backward transfer or without
abbrev pub went : Standing → Body → Bool → Standing
went s next false = record s { body = next }
went s next true = if is_full s then next_epoch s next else record s { body = next; count = s.count + 1 }

-- a successful TerminateTask or ChainTask
abbrev pub is_end : DataEntry → Bool
is_end d = (d.service == service_number TerminateTask || d.service == service_number ChainTask) && d.status == 0

-- a successful TerminateTask, ChainTask or WaitEvent begins an epoch
abbrev pub begins_epoch : DataEntry → Bool
begins_epoch d =
    (d.service == service_number TerminateTask || d.service == service_number ChainTask || d.service == service_number WaitEvent) &&
    d.status == 0

-- the status in a0, the words in a1 to a4, and the next instruction
abbrev pub resumed : Body → DataEntry → Body
resumed b d =
    advanced
    (with_reg (with_reg (with_reg (with_reg (with_reg b 10 d.status)
    11 (slice_index d.words 0)) 12 (slice_index d.words 1)) 13 (slice_index d.words 2)) 14 (slice_index d.words 3))

-- what an answer leaves of the caller's body: its boot values after an end, else what resumes it
abbrev pub reply : ℕ → Body → DataEntry → Body
reply entry b d = if is_end d then restarted entry b else resumed b d

-- the standing after an answer
abbrev pub answered : ℕ → Standing → DataEntry → Standing
answered entry s d =
    if begins_epoch d then next_epoch s (reply entry s.body d) else record s { body = reply entry s.body d }

-- what every task keeps: an entry in reach of a text, 1 to 16,384 data words, a pc that is a multiple
-- of 4, and a count below the end
pub record IsTask (t : TaskView) : Type 0 where
  pub entry : (t.entry % 4 ≡ 0) × (t.entry < 65536)
  pub words : (0 < length t.standing.body.words) × (length t.standing.body.words ≤ 16384)
  pub registers : length t.standing.body.regs ≡ 31
  pub pc : (t.standing.body.pc % 4 ≡ 0) × (t.standing.body.pc < 2 ^ 32)
  pub count : t.standing.count < EPOCH_LENGTH
