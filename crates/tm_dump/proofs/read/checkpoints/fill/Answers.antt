use Rattle.std.proofs.Common.{◌≡◌, ◌∙◌, ap, sym, subst, arith, length, ◌+◌, ◌<◌, ◌≤◌, ◌-◌, rules}
use Rattle.tm_check.specs.Checkpoint.{checkpoint}
use Rattle.tm_dump.specs.Reading.{checkpoints_in}
use Rattle.tm_dump.proofs.Fronts.{with_front, checks_more, checks_unless, kept_more}
use Rattle.tm_dump.proofs.read.checkpoints.fill.Goals as goal

pub returns-in_err-c-clause-read : goal.returns-in_err-c-clause-read
returns-in_err-c-clause-read c =
    let it = checks_unless c.args.size c.args.entries c.args.switches c.args.number c.loop.counter c.loop.checks.items c.in_err-c.field-0.0 c.loop.at
    (checkpoints_in c.args.size c.args.entries c.args.switches c.args.number c.args.at.now) c.loop-test.true c.loop.invariant.read c.in_err-c.ensures.read in
    search (rules, it)

pub loop-preserved : goal.loop-preserved
loop-preserved c =
    let one = checkpoint c.in_ok-c.c.body c.in_ok-c.c.data_no c.in_ok-c.c.control_no in
    let below : length c.loop.checks.items < c.loop.checks.cap = omega (arith, c.loop.invariant.len, c.loop-test.true, c.requires.fit, c.loop.invariant.cap) in
    let fits : c.args.number ≤ c.loop.checks.cap = omega (arith, c.requires.fit, c.loop.invariant.cap) in
    record {
      read = subst (λ xs. with_front xs (checkpoints_in c.args.size c.args.entries c.args.switches (c.args.number - (c.loop.counter + 1)) c.read_checkpoint.new.at)
          ≡ checkpoints_in c.args.size c.args.entries c.args.switches c.args.number c.args.at.now)
          (sym (ap (λ checks. checks.items) c.push.ensures.pushed))
          (checks_more c.args.size c.args.entries c.args.switches c.loop.checks.cap c.args.number c.loop.counter c.loop.checks.items one c.loop.at c.read_checkpoint.new.at
          (checkpoints_in c.args.size c.args.entries c.args.switches c.args.number c.args.at.now)
          c.loop-test.true fits c.loop.invariant.len c.loop.invariant.read c.in_ok-c.ensures.read);
      len = omega (arith, ap (λ checks. length checks.items) c.push.ensures.pushed, kept_more c.loop.checks.cap c.loop.checks.items one below, c.loop.invariant.len);
      total = omega (arith, ap (λ checks. checks.total) c.push.ensures.pushed, c.loop.invariant.total);
      cap = ap (λ checks. checks.cap) c.push.ensures.pushed ∙ c.loop.invariant.cap;
      words = ap (λ checks. checks.words) c.push.ensures.pushed ∙ c.loop.invariant.words;
    }
