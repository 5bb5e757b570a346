use Rattle.std.proofs.Common.{◌≡◌, drop}
use Rattle.std.specs.List.{fold}
use Rattle.tm_kernel.specs.Schedule.{acted, due_actions}
use Rattle.tm_kernel.proofs.kernel.Kernel.act_where.Given as goal

abbrev pub invariant-loop-alarm : goal.invariant-loop-alarm
invariant-loop-alarm l = record {
  rest : fold acted l.fn.self (due_actions l.due l.fn.self.spec.alarms) ≡ fold acted l.self (due_actions (drop l.alarm l.due) (drop l.alarm l.fn.self.spec.alarms));
  spec : l.self.spec ≡ l.fn.self.spec;
}
