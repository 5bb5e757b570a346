use Rattle.std.proofs.Common.{◌≡◌, Bool, List, length, ap, ◌∙◌, subst}
use Rattle.std.specs.List.{fold}
use Rattle.std.proofs.lemmas.List.{length-map}
use Rattle.tm_services.specs.Alarms.{AlarmsView, ticked, due, is_due}
use Rattle.tm_kernel.specs.State.{KernelState}
use Rattle.tm_kernel.specs.Schedule.{acted, due_actions, tick}
use Rattle.tm_kernel.proofs.Raising.{due_padded}
use Rattle.tm_kernel.proofs.kernel.Kernel.tick.Goals as goal

pub returns : goal.returns
returns c =
    let k : KernelState = record {
      spec = c.self.inside.spec;
      states = c.self.inside.states;
      events = c.self.inside.events;
      awaited = c.self.inside.awaited;
      ceilings = c.self.inside.ceilings;
      alarms = c.self.inside.alarms;
      boxes = c.self.inside.boxes.messages;
      ports = c.self.inside.ports;
      running = c.self.inside.running;
      ended = c.self.inside.ended;
    } in
    let number : length (due k.alarms) ≡ length k.spec.alarms = length-map k.alarms.alarms is_due ∙ c.self.invariant.0.alarm_number in
    let all : due_actions c.tick.new.due k.spec.alarms ≡ due_actions (due k.alarms) k.spec.alarms =
    ap (λ (ds : List Bool). due_actions ds k.spec.alarms) c.tick.ensures.due ∙ due_padded (due k.alarms) _ k.spec.alarms number in
    let counted : AlarmsView → KernelState = λ a. record k { alarms = a } in
    let after : c.act_where.new.self ≡ tick k =
    c.act_where.ensures.acted
    ∙ ap (λ (a : AlarmsView). fold acted (counted a) (due_actions c.tick.new.due k.spec.alarms)) c.tick.ensures.ticked
    ∙ ap (λ as'. fold acted (counted (ticked k.alarms)) as') all in
    record { ticked = subst (λ (x : KernelState). c.act_where.new.self ≡ tick x) c.self.view_is after }
