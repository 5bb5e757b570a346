use Rattle.std.proofs.Common.{ap}
use Rattle.tm_task.specs.Standing.{TaskView}
use Rattle.tm_system.proofs.Walking.{next_faults}
use Rattle.tm_replay.specs.Walking.{alone_of, place_of}
use Rattle.tm_replay.proofs.Walks.{ran}
use Rattle.tm_replay.proofs.walker.Walker.step.Goals as goal

pub returns-in-Ran-clause-went : goal.returns-in-Ran-clause-went
returns-in-Ran-clause-went c = ran c.args.self.now c.step.new.self (rw c.in-Ran.is at c.step.ensures.did).goes

pub returns-in-Forced-clause-went : goal.returns-in-Forced-clause-went
returns-in-Forced-clause-went c = ran c.args.self.now c.step.new.self (rw c.in-Forced.is at c.step.ensures.did).goes

pub returns-in-Fault-clause-went : goal.returns-in-Fault-clause-went
returns-in-Fault-clause-went c =
    let did = rw c.in-Fault.is at c.step.ensures.did in (
      next_faults (alone_of c.args.self.now) (place_of c.args.self.now) c.in-Fault.cause did.executed,
      ap (λ (t : TaskView). record { standing = t.standing; used = c.args.self.now.used; made = c.args.self.now.made }) did.same,
    )
