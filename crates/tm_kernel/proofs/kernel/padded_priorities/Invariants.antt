use Rattle.std.proofs.Common.{◌≡◌, ◌-◌, ◌++◌, map, take, replicate}
use Rattle.tm_kernel.specs.declared.spec.TaskSpec.{TaskSpec}
use Rattle.tm_kernel.proofs.kernel.padded_priorities.Given as goal

abbrev pub invariant-loop-task : goal.invariant-loop-task
invariant-loop-task l = l.priorities ≡ map (λ (t : TaskSpec). t.priority) (take l.task l.tasks) ++ replicate (16 - l.task) 0
