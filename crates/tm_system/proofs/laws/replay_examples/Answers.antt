use Rattle.std.proofs.Common.{refl}
use Rattle.tm_rv.specs.Table.{op_of}
use Rattle.tm_rv.specs.Instr.{instr_of}
use Rattle.tm_task.specs.Exec.{exec}
use Rattle.tm_task.specs.Place.{next_place}
use Rattle.tm_system.specs.Alone.{next_or_why, walk, walk_to}
use Rattle.tm_system.specs.Wanted.{wanted_by}
use Rattle.tm_system.specs.Tracing.{meet, meets}
use Rattle.tm_system.specs.Replaying.{replayed_from}
use Rattle.tm_system.proofs.laws.replay_examples.Goals as goal

pub returns-clause-wants : goal.returns-clause-wants
unfolding wanted_by
returns-clause-wants c = refl

pub returns-clause-replays : goal.returns-clause-replays
unfolding op_of instr_of exec next_place next_or_why walk walk_to wanted_by meet meets replayed_from
returns-clause-replays c = refl

pub returns-clause-passes : goal.returns-clause-passes
unfolding op_of instr_of exec next_place next_or_why walk walk_to wanted_by meet meets replayed_from
returns-clause-passes c = refl

pub returns-clause-moves : goal.returns-clause-moves
unfolding op_of instr_of exec next_place next_or_why walk walk_to wanted_by meet meets replayed_from
returns-clause-moves c = refl
