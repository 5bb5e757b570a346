-- The run of a script on an image.
use Rattle.std.specs.Prelude.{ℕ, zero, suc, true, ◌==◌, if◌then◌else◌, List, [], ◌∷◌, map, fold, slice_get, slice_set, Option, Some, None, unwrap_or}
use Rattle.tm_marker.specs.declared.body.Body.{Body}
use Rattle.tm_marker.specs.declared.entries.Slice.{Slice}
use Rattle.tm_marker.specs.declared.entries.Kind.{Kind}
use Rattle.tm_marker.specs.declared.entries.Kind.TheVariants.{Fault}
use Rattle.tm_task.specs.Exec.{Exec, Faults, Calls, Goes, exec}
use Rattle.tm_task.specs.Standing.{boot_body, reply, args_of}
use Rattle.tm_kernel.specs.declared.kernel.Need.{Need}
use Rattle.tm_kernel.specs.declared.kernel.Need.TheVariants.{Goes as Continues, Leaves}
use Rattle.tm_kernel.specs.State.{nobody, booted, stopped}
use Rattle.tm_kernel.specs.Service.{Answered, answer}
use Rattle.tm_kernel.specs.Schedule.{rescheduled, arrived}
use Rattle.tm_image.specs.Image.{ImageView, entry_of, text_of}
use Rattle.tm_system.specs.History.{Arrives, Steps, Answers, Faulted, Whole, Moment, History}

-- the whole state at boot: each task's boot body, and the kernel's boot state
abbrev pub boot : ImageView → Whole
boot image = record { bodies = map (λ l. boot_body l.entry l.words) image.loads; kernel = booted image.spec }

-- the whole state after the latest moment
abbrev pub now : ImageView → History → Whole
now image [] = boot image
now image (m ∷ h) = m.after

-- who runs after the latest moment
abbrev pub running_at : ImageView → History → ℕ
running_at image h = (now image h).kernel.running

-- the body that no task has
abbrev pub no_body : Body
no_body = record { pc = 0; regs = []; words = [] }

-- a task's body after the latest moment
abbrev pub body_at : ImageView → History → ℕ → Body
body_at image h task = unwrap_or (slice_get (now image h).bodies task) no_body

-- an arrival: the kernel's, and one rescheduling
abbrev pub arrival : Whole → ℕ → List ℕ → Moment
arrival w mask ports = record {
  deed = Arrives mask ports;
  leaves = None;
  after = record w { kernel = rescheduled (arrived w.kernel mask ports) };
}

-- why the caller of a service leaves the processor, where it does
abbrev pub left_by : Need → Option Kind
left_by Continues = None
left_by (Leaves kind) = Some kind

-- a call: the caller's body has the answer, and one rescheduling follows
abbrev pub call_moment : ℕ → Whole → ℕ → Body → Answered → Moment
call_moment entry w task b a = record {
  deed = Answers task a.entry a.output;
  leaves = left_by a.need;
  after = record { bodies = slice_set w.bodies task (reply entry b a.entry); kernel = rescheduled a.kernel };
}

-- one instruction of a task, by what it does to the task's body; a fault ends the run
abbrev pub moment_by : ℕ → Whole → ℕ → Body → Exec → Moment
moment_by entry w task b (Goes next back) = record {
  deed = Steps task back;
  leaves = None;
  after = record w { bodies = slice_set w.bodies task next };
}
moment_by entry w task b (Calls service) = call_moment entry w task b (answer w.kernel task service (args_of b))
moment_by entry w task b (Faults cause) = record {
  deed = Faulted task cause;
  leaves = Some Fault;
  after = record w { kernel = stopped w.kernel true };
}

-- the moment of the running task's next instruction
abbrev pub next_moment : ImageView → History → Moment
next_moment image h =
    let task = running_at image h in
    moment_by (entry_of image task) (now image h) task (body_at image h task) (exec (text_of image task) (body_at image h task))

-- one arrival, while the run goes on
abbrev pub arrives : ImageView → ℕ → List ℕ → History → History
arrives image mask ports h =
    if (now image h).kernel.ended == 0 then arrival (now image h) mask ports ∷ h else h

-- one instruction, while a task runs
abbrev pub turned : ImageView → History → History
turned image h = if running_at image h == nobody then h else next_moment image h ∷ h

-- up to n instructions, while a task runs
unfoldable pub turns : ImageView → ℕ → History → History
turns image zero h = h
turns image (suc n) h = turned image (turns image n h)

-- one slice: its arrival, then up to `length` instructions
abbrev pub sliced : ImageView → History → Slice → History
sliced image h s = turns image s.length (arrives image s.mask s.ports h)

-- the slices of a script, one after another, from a history on
abbrev pub played : ImageView → History → List Slice → History
played image h script = fold (sliced image) h script

-- the run of a script, from boot
abbrev pub run : ImageView → List Slice → History
run image script = played image [] script
