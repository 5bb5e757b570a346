-- What the rule says of every state of the table, between any two steps.
use Rattle.std.specs.Prelude.{◌≡◌, ℕ, ◌+◌, ◌<◌, ◌≤◌, slice_index}
use Rattle.std.specs.Int.{bit_at}
use Rattle.tm_irq.specs.declared.views.Deeds.{Deeds}
use Rattle.tm_irq.specs.Views.{fresh, in_view, in_all}
use Rattle.tm_irq.specs.Rule.{Board, Keeps}
use Rattle.tm_irq.specs.Tallies.{fresh_on, takes_on}
use Rattle.tm_irq.specs.Audit.{AllHome}

-- the fresh raises of a line are the takes that have the line, and one more where its bit is set in word 0
abbrev pub LinesBalance : Type 0
LinesBalance = (devices : ℕ) (s : Board) (kept : Keeps devices s) (line : ℕ) → line < 16
    → in_all (fresh_on line) s.views ≡ takes_on kept.kernel.takes line + bit_at (slice_index s.words 0) line

-- no two fresh raises of a line have one number
abbrev pub OneIsFresh : Type 0
OneIsFresh = (devices : ℕ) (s : Board) → Keeps devices s → (line number : ℕ) → in_all (fresh line number) s.views ≤ 1

-- where every device is home, all entries stand in the kernel's view
abbrev pub HomeIsAll : Type 0
HomeIsAll = (devices : ℕ) (s : Board) (kept : Keeps devices s) → AllHome devices kept.kernel.deeds → (f : Deeds → ℕ) → in_all f s.views ≡ in_view f kept.kernel
