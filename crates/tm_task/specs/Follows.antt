-- What every instruction that goes on makes of a body.
use Rattle.std.specs.Prelude.{◌≡◌, ℕ, ◌*◌, ◌%◌, ◌^◌, ◌<◌, ◌≤◌, Bool, false, List, length}
use Rattle.tm_marker.specs.declared.body.Body.{Body}
use Rattle.tm_rv.specs.Code.{Text}
use Rattle.tm_task.specs.Exec.{Exec, Faults, Calls, Goes, exec}

-- the next body stands at an instruction, further on where no backward transfer was taken, and has as
-- many registers and data words
pub record Follows (b next : Body) (back : Bool) : Type 0 where
  pub rises : back ≡ false → b.pc < next.pc
  pub aligned : next.pc % 4 ≡ 0
  pub within : next.pc < 2 ^ 32
  pub registers : length next.regs ≡ length b.regs
  pub words : length next.words ≡ length b.words

-- what an instruction of the text may do to a body: call from inside the text, or go on to a body that
-- follows
abbrev pub IsOrderly : List ℕ → Body → Exec → Type 0
IsOrderly text b (Faults cause) = Unit {0}
IsOrderly text b (Calls service) = b.pc < 4 * length text
IsOrderly text b (Goes next back) = Follows b next back

-- an instruction of a text of at most 16,384 words is orderly
abbrev pub InstructionsAreOrderly : Type 0
InstructionsAreOrderly = (text : Text) (b : Body) → length text.words ≤ 16384 → b.pc % 4 ≡ 0 → IsOrderly text.words b (exec text b)
