-- The instruction that is kept for a word does what the word does.
use Rattle.std.proofs.Common.{◌≡◌, sym, subst, ℕ, ◌*◌, ◌/◌, ◌<◌, Bool, true, List, length, slice_index, Option, Some, None, arith}
use Rattle.std.specs.Prelude.{nat_lt, if◌then◌else◌}
use Rattle.std.proofs.lemmas.Bool.Decides.{nat_tests}
use Rattle.tm_marker.specs.declared.body.Body.{Body}
use Rattle.tm_rv.specs.Code.{kept, IsNeverNone, Text}
use Rattle.tm_rv.specs.Instr.{instr_of}
use Rattle.tm_rv.specs.declared.instr.Instr.{Instr}
use Rattle.tm_task.specs.Does.{Does, exec_kept}
use Rattle.tm_task.specs.Exec.{Faults, exec, exec_instr, exec_word}
use Rattle.tm_task.specs.declared.execute.Executed.{Executed}
use Rattle.tm_task.specs.declared.outcome.Cause.TheVariants.{Illegal, Fetch}

does_word : (text : List ℕ) (old new : Body) (executed : Executed) (word : Option Instr) → IsNeverNone word →
    Does (exec_kept text old (kept word)) old new executed → Does (exec_word text old word) old new executed
does_word text old new executed None told does = does
does_word text old new executed (Some i) told does =
    subst (λ (t : Bool). Does (if t then Faults Illegal else exec_instr text old i) old new executed) told does

-- inside the text, what the kept instruction does is what the instruction at the pc does
pub does_exec : (text : Text) (old new : Body) (executed : Executed) → old.pc / 4 < length text.words →
    IsNeverNone (instr_of (slice_index text.words (old.pc / 4)) text.set) →
    Does (exec_kept text.words old (kept (instr_of (slice_index text.words (old.pc / 4)) text.set))) old new executed →
    Does (exec text old) old new executed
unfolding exec
does_exec text old new executed inside told does =
    let below : nat_lt old.pc (4 * length text.words) ≡ true = grind (arith, nat_tests) in
    subst (λ (t : Bool). Does (if t then exec_word text.words old (instr_of (slice_index text.words (old.pc / 4)) text.set) else Faults Fetch) old new executed)
    (sym below) (does_word text.words old new executed (instr_of (slice_index text.words (old.pc / 4)) text.set) told does)
