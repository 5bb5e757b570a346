use Rattle.std.proofs.Common.{◌≡◌, ◌∙◌, ap, sym, subst, arith, length, ◌+◌, ◌<◌, ◌≤◌, ◌-◌, Some, None, rules}
use Rattle.tm_dump.specs.Reading.{entries_in}
use Rattle.tm_dump.proofs.Fronts.{with_front, entries_more, entries_unless, kept_more}
use Rattle.tm_dump.proofs.read.rings.fill.Goals as goal

pub returns-in_err-entry-clause-read : goal.returns-in_err-entry-clause-read
returns-in_err-entry-clause-read g c =
    let it = entries_unless (g.T.Entry.entry_in c.args.tasks) c.args.number c.loop.counter c.loop.before c.loop.ring.items c.in_err-entry.field-0.0 c.loop.at
    (entries_in (g.T.Entry.entry_in c.args.tasks) None c.args.number c.args.at.now) c.loop-test.true c.loop.invariant.read c.in_err-entry.ensures in
    search (rules, it)

pub loop-preserved : goal.loop-preserved
loop-preserved g c =
    let below : length c.loop.ring.items < c.loop.ring.cap = omega (arith, c.loop.invariant.len, c.loop-test.true, c.requires.fit, c.loop.invariant.cap) in
    let fits : c.args.number ≤ c.loop.ring.cap = omega (arith, c.requires.fit, c.loop.invariant.cap) in
    record {
      read = subst (λ xs. with_front xs (entries_in (g.T.Entry.entry_in c.args.tasks) (Some c.in_ok-entry.entry) (c.args.number - (c.loop.counter + 1)) c.read.new.at)
          ≡ entries_in (g.T.Entry.entry_in c.args.tasks) None c.args.number c.args.at.now)
          (sym (ap (λ ring. ring.items) c.push.ensures.pushed))
          (entries_more (g.T.Entry.entry_in c.args.tasks) c.loop.ring.cap c.args.number c.loop.counter c.loop.before c.loop.ring.items c.in_ok-entry.entry c.loop.at c.read.new.at
          (entries_in (g.T.Entry.entry_in c.args.tasks) None c.args.number c.args.at.now)
          c.loop-test.true fits c.loop.invariant.len c.loop.invariant.read c.in_ok-entry.ensures);
      len = omega (arith, ap (λ ring. length ring.items) c.push.ensures.pushed, kept_more c.loop.ring.cap c.loop.ring.items c.in_ok-entry.entry below, c.loop.invariant.len);
      total = omega (arith, ap (λ ring. ring.total) c.push.ensures.pushed, c.loop.invariant.total);
      cap = ap (λ ring. ring.cap) c.push.ensures.pushed ∙ c.loop.invariant.cap;
    }
