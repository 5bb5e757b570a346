use Rattle.std.proofs.Common.{refl}
use Rattle.tm_marker.specs.Service.{service_of}
use Rattle.tm_rv.specs.Table.{op_of}
use Rattle.tm_rv.specs.Instr.{instr_of}
use Rattle.tm_task.specs.Exec.{exec}
use Rattle.tm_system.specs.Run.{turns}
use Rattle.tm_system.specs.Marks.{backs, epochs}
use Rattle.tm_system.specs.Controls.{controls}
use Rattle.tm_system.proofs.laws.examples.Goals as goal

pub returns-clause-ending : goal.returns-clause-ending
unfolding service_of op_of instr_of exec turns backs epochs controls
returns-clause-ending c = refl

pub returns-clause-preempting : goal.returns-clause-preempting
unfolding service_of op_of instr_of exec turns backs epochs controls
returns-clause-preempting c = refl
