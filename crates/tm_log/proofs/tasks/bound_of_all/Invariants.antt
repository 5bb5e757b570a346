use Rattle.std.proofs.Common.{◌≡◌, ◌*◌, ◌≤◌, take}
use Rattle.std.specs.Prelude.{sum_by}
use Rattle.tm_log.specs.Window.{task_bound}
use Rattle.tm_log.proofs.tasks.bound_of_all.Given as goal

abbrev pub invariant-loop-size : goal.invariant-loop-size
invariant-loop-size l =
    (l.bytes ≡ sum_by (task_bound l.caps) (take l.size-index l.words)) × (l.bytes ≤ 5595152 * l.size-index)
