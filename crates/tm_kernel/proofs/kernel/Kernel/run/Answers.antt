use Rattle.std.proofs.Common.{rules, ◌≡◌, ◌<◌, length, arith, subst, ap, ◌∙◌}
use Rattle.tm_kernel.specs.State.{KernelState, IsKernel}
use Rattle.tm_kernel.specs.Schedule.{run_task}
use Rattle.tm_kernel.proofs.Keeping.{runs_keeps, length-paused}
use Rattle.tm_kernel.proofs.Picking.{pick_within_at}
use Rattle.tm_kernel.proofs.kernel.Kernel.run.Goals as goal

pub set-requires : goal.set-requires
set-requires c =
    let states : length c.self.inside.states ≡ length c.pause.new.self.states = ap (λ (k : KernelState). length k.states) c.self.view_is in
    let same : length c.pause.new.self.states ≡ length c.args.self.now.states =
    ap (λ (k : KernelState). length k.states) c.pause.ensures.paused ∙ length-paused c.args.self.now in
    let there : c.args.task < length c.args.self.now.states =
    pick_within_at c.args.self.now c.args.task c.pause.ensures.was_sound c.requires.picked c.requires.somebody in
    omega arith

pub invariant_of-self : goal.invariant_of-self
invariant_of-self c =
    let after : KernelState = record {
      spec = c.self.inside.spec;
      states = c.set.new.self;
      events = c.self.inside.events;
      awaited = c.self.inside.awaited;
      ceilings = c.self.inside.ceilings;
      alarms = c.self.inside.alarms;
      boxes = c.self.inside.boxes.messages;
      ports = c.self.inside.ports;
      running = c.args.task;
      ended = c.self.inside.ended;
    } in
    let e : run_task c.args.self.now c.args.task ≡ after = search rules in (
      subst IsKernel e (runs_keeps c.args.self.now c.args.task c.pause.ensures.was_sound
          (pick_within_at c.args.self.now c.args.task c.pause.ensures.was_sound c.requires.picked c.requires.somebody)),
      c.self.invariant.1,
    )

pub returns-clause-sound : goal.returns-clause-sound
returns-clause-sound c = (invariant_of-self c).0
