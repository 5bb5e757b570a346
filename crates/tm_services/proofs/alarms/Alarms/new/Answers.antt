use Rattle.std.proofs.Common.{refl}
use Rattle.tm_services.proofs.Listed.{all_off_list, empty_keeps, keeps_alarms}
use Rattle.tm_services.proofs.alarms.Alarms.new.Goals as goal

pub returns-clause-off : goal.returns-clause-off
returns-clause-off c = rw (c.new.ensures, all_off_list c.args.alarms) refl

pub returns-clause-sound : goal.returns-clause-sound
returns-clause-sound c = rw (c.new.ensures) (keeps_alarms 0 _ c.args.alarms (empty_keeps c.args.alarms c.requires))
