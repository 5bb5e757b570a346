use Rattle.std.proofs.Common.{◌≡◌, ◌<◌, ◌≤◌, length, drop, get_or, slice_get, Some, ap, sym, ◌∙◌, arith, inl, inr}
use Rattle.std.specs.List.{fold}
use Rattle.std.proofs.lemmas.Option.{get_or_from_slice_get}
use Rattle.tm_kernel.specs.declared.spec.Action.TheVariants.{Nothing}
use Rattle.tm_kernel.specs.declared.spec.KernelSpec.{KernelSpec}
use Rattle.tm_kernel.specs.State.{KernelState}
use Rattle.tm_kernel.specs.Schedule.{acted, due_actions}
use Rattle.tm_kernel.proofs.Raising.{alarm_acted, alarms_acted}
use Rattle.tm_kernel.proofs.Rescheduling.{acted_tasks_alone}
use Rattle.tm_kernel.proofs.kernel.Kernel.act_where.Goals as goal
use Rattle.tm_kernel.proofs.kernel.Kernel.act_where.Goals.{then-due-alarm, else-due-alarm}

pub loop-alarm-preserved : goal.loop-alarm-preserved
loop-alarm-preserved c =
    let number : length c.self.inside.spec.alarms ≡ length c.args.self.now.spec.alarms = ap (λ (k : KernelState). length k.spec.alarms) c.self.view_is in
    let there : c.loop-alarm.alarm < length c.args.self.now.spec.alarms = omega arith in
    let few : length c.self.inside.spec.alarms ≤ 16 = c.self.invariant.0.spec.few_alarms in
    let within : c.loop-alarm.alarm < length c.args.due.now = omega (arith, c.told-due) in
    let before : fold acted c.args.self.now (due_actions c.args.due.now c.args.self.now.spec.alarms) ≡
    fold acted c.loop-alarm.self (due_actions (drop c.loop-alarm.alarm c.args.due.now) (drop c.loop-alarm.alarm c.args.self.now.spec.alarms)) =
    c.loop-alarm.invariant.rest in
    elim c.if-due-alarm.branch [
      | then-due-alarm w ↦
          let spec : w.self-then-due-alarm.inside.spec ≡ c.args.self.now.spec =
          ap (λ (k : KernelState). k.spec) w.self-then-due-alarm.view_is ∙ c.loop-alarm.invariant.spec in
          let at : slice_get c.args.self.now.spec.alarms c.loop-alarm.alarm ≡ Some w.at-action.result =
          ap (λ (s : KernelSpec). slice_get s.alarms c.loop-alarm.alarm) (sym spec) ∙ w.at-action.ensures in
          let is : get_or c.args.self.now.spec.alarms c.loop-alarm.alarm w.at-action.result ≡ w.at-action.result =
          get_or_from_slice_get c.args.self.now.spec.alarms c.loop-alarm.alarm w.at-action.result w.at-action.result at in
          let did : c.if-due-alarm.self ≡ acted c.loop-alarm.self w.at-action.result = w.self-is ∙ w.act.ensures.acted in
          record {
            rest = alarm_acted c.args.due.now c.args.self.now.spec.alarms c.loop-alarm.alarm w.at-action.result _ c.loop-alarm.self c.if-due-alarm.self
                before within there (inl (w.if-due-alarm.true, did ∙ ap (acted c.loop-alarm.self) (sym is)));
            spec = ap (λ (k : KernelState). k.spec) did ∙ (acted_tasks_alone c.loop-alarm.self w.at-action.result).spec ∙ c.loop-alarm.invariant.spec;
          }
      | else-due-alarm w ↦ record {
        rest = alarm_acted c.args.due.now c.args.self.now.spec.alarms c.loop-alarm.alarm Nothing _ c.loop-alarm.self c.if-due-alarm.self
            before within there (inr (w.if-due-alarm.false, w.self-is));
        spec = ap (λ (k : KernelState). k.spec) w.self-is ∙ c.loop-alarm.invariant.spec;
      }
    ]

pub returns : goal.returns
returns c =
    let number : length c.self.inside.spec.alarms ≡ length c.args.self.now.spec.alarms = ap (λ (k : KernelState). length k.spec.alarms) c.self.view_is in
    let past : length c.args.self.now.spec.alarms ≤ c.loop-alarm.alarm = omega arith in
    record { acted = sym (alarms_acted c.args.due.now c.args.self.now.spec.alarms c.loop-alarm.alarm _ c.loop-alarm.self c.loop-alarm.invariant.rest past) }
