use Rattle.std.proofs.Common.{sym, subst}
use Rattle.tm_kernel.specs.State.{IsRunning}
use Rattle.tm_system.specs.Machine.{MachineView}
use Rattle.tm_system.proofs.Stepping.{call_stays, fault_stays, caller_ready}
use Rattle.tm_system.proofs.Doing.{Turns, ran_does, forced_does, next_does}
use Rattle.tm_system.proofs.machine.Machine.act.Goals as goal

pub answer-requires-clause-runs : goal.answer-requires-clause-runs
answer-requires-clause-runs c =
    subst (λ (m : MachineView). IsRunning m.kernel c.args.task)
    (sym (call_stays c.args.self.now c.step.new.self c.args.task c.in-Call.service c.args.code.now c.in-Call.ensures.stepped)) c.requires.runs

pub answer-requires-clause-caller : goal.answer-requires-clause-caller
answer-requires-clause-caller c =
    caller_ready c.args.self.now c.step.new.self c.args.task c.in-Call.service c.args.code.now c.in-Call.ensures.stepped c.requires.epoch

pub fail-requires-clause-runs : goal.fail-requires-clause-runs
fail-requires-clause-runs c =
    subst (λ (m : MachineView). IsRunning m.kernel c.args.task)
    (sym (fault_stays c.args.self.now c.step.new.self c.args.task c.in-Fault.cause c.args.code.now c.in-Fault.ensures.stepped)) c.requires.runs

pub returns-in-Ran-clause-done : goal.returns-in-Ran-clause-done
returns-in-Ran-clause-done c = λ image text_is.
    let t : Turns image c.args.self.now c.args.task c.args.code.now = record {
      runs = sym c.requires.runs.runs;
      somebody = c.requires.somebody;
      within = c.requires.there;
      text_is = text_is;
    } in
    ran_does image c.args.self.now c.step.new.self c.args.task c.args.code.now t c.in-Ran.ensures.stepped

pub returns-in-Forced-clause-done : goal.returns-in-Forced-clause-done
returns-in-Forced-clause-done c = λ image text_is.
    let t : Turns image c.args.self.now c.args.task c.args.code.now = record {
      runs = sym c.requires.runs.runs;
      somebody = c.requires.somebody;
      within = c.requires.there;
      text_is = text_is;
    } in
    forced_does image c.args.self.now c.step.new.self c.args.task c.args.code.now t c.in-Forced.ensures.stepped

pub returns-in-Call-clause-done : goal.returns-in-Call-clause-done
returns-in-Call-clause-done c = λ image text_is.
    let s = c.in-Call.ensures.stepped in
    let t : Turns image c.args.self.now c.args.task c.args.code.now = record {
      runs = sym c.requires.runs.runs;
      somebody = c.requires.somebody;
      within = c.requires.there;
      text_is = text_is;
    } in
    next_does image c.args.self.now c.step.new.self c.answer.new.self c.args.task c.args.code.now s.before _ c.answer.result t s.there s.did.executed
    (call_stays c.args.self.now c.step.new.self c.args.task c.in-Call.service c.args.code.now s) c.answer.ensures.done

pub returns-in-Fault-clause-done : goal.returns-in-Fault-clause-done
returns-in-Fault-clause-done c = λ image text_is.
    let s = c.in-Fault.ensures.stepped in
    let t : Turns image c.args.self.now c.args.task c.args.code.now = record {
      runs = sym c.requires.runs.runs;
      somebody = c.requires.somebody;
      within = c.requires.there;
      text_is = text_is;
    } in
    next_does image c.args.self.now c.step.new.self c.fail.new.self c.args.task c.args.code.now s.before _ c.fail.result t s.there s.did.executed
    (fault_stays c.args.self.now c.step.new.self c.args.task c.in-Fault.cause c.args.code.now s) c.fail.ensures.done
