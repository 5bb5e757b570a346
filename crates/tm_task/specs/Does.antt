-- What the code that executes an instruction answers, against what the instruction does.
use Rattle.std.specs.Prelude.{◌≡◌, ℕ, List, if◌then◌else◌}
use Rattle.tm_marker.specs.declared.body.Body.{Body}
use Rattle.tm_rv.specs.Code.{is_none}
use Rattle.tm_rv.specs.declared.instr.Instr.{Instr}
use Rattle.tm_task.specs.Exec.{Exec, Faults, Calls, Goes, exec_instr}
use Rattle.tm_task.specs.declared.execute.Executed.{Executed}
use Rattle.tm_task.specs.declared.execute.Executed.TheVariants.{Went, Called, Faulted}
use Rattle.tm_task.specs.declared.outcome.Cause.TheVariants.{Illegal}

-- the answer and the body after are those of the instruction, where the answer holds the pc after; a
-- body that doesn't go on stays
abbrev pub Does : Exec → Body → Body → Executed → Type 0
Does e old new (Went pc back) = e ≡ Goes (record new { pc = pc }) back
Does e old new (Called service) = (e ≡ Calls service) × (new ≡ old)
Does e old new (Faulted cause) = (e ≡ Faults cause) × (new ≡ old)

-- what an instruction that is kept for a word does
abbrev pub exec_kept : List ℕ → Body → Instr → Exec
exec_kept text b i = if is_none i then Faults Illegal else exec_instr text b i
