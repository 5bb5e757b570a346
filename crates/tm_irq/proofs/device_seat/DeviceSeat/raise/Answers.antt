use Rattle.std.proofs.Common.{rules, ◌≡◌, ℕ, ◌*◌, ◌%◌, ◌^◌, ◌<◌, true, false, refl, arith}
use Rattle.std.proofs.lemmas.Nat.{one_shl}
use Rattle.tm_irq.proofs.Raising.{raises_by}
use Rattle.tm_irq.proofs.Seats.{fresh_seat, joined_seat, raise_added, raise_line, bit_clear, bit_set}
use Rattle.tm_irq.proofs.device_seat.DeviceSeat.raise.Goals as goal

shifted : (line : ℕ) → line < 16 → 1 * 2 ^ line % 2 ^ 64 ≡ 2 ^ line
shifted line within = one_shl line 64 (omega arith)

pub fetch_or-found-requires : goal.fetch_or-found-requires
fetch_or-found-requires c = (search rules, search rules, raises_by _ _ _ c.self.inside.seat.me c.args.line _ (shifted c.args.line c.requires) c.requires c.self.invariant.kernel _ c.self.invariant.single)

pub invariant_of-self : goal.invariant_of-self
invariant_of-self c =
    let e = c.fetch_or-found.ensures in
    fresh_seat _ c.self.inside.seat c.fetch_or-found.new.seat c.self.inside.raised.counts _ c.self.inside.joined.counts _ c.args.line c.fetch_or-found.result c.self.invariant e.0
    (raise_line c.args.line _ _ _ _ (shifted c.args.line c.requires) e.2) c.add.ensures refl (bit_clear c.fetch_or-found.result c.args.line c.if-found-line-eq0.true)

pub returns-then-found-line-eq0-clause-raises : goal.returns-then-found-line-eq0-clause-raises
returns-then-found-line-eq0-clause-raises c =
    let e = c.fetch_or-found.ensures in
    raise_added _ c.self.inside.seat c.fetch_or-found.new.seat c.self.inside.raised.counts c.add.new.self.counts c.self.inside.joined.counts c.self.inside.joined.counts c.args.line c.fetch_or-found.result c.self.invariant e.0
    (raise_line c.args.line _ _ _ _ (shifted c.args.line c.requires) e.2) c.add.ensures _ c.self.view_is false (bit_clear c.fetch_or-found.result c.args.line c.if-found-line-eq0.true)

pub invariant_of-self-2 : goal.invariant_of-self-2
invariant_of-self-2 c =
    let e = c.fetch_or-found.ensures in
    joined_seat _ c.self.inside.seat c.fetch_or-found.new.seat c.self.inside.raised.counts _ c.self.inside.joined.counts _ c.args.line c.fetch_or-found.result c.self.invariant e.0
    (raise_line c.args.line _ _ _ _ (shifted c.args.line c.requires) e.2) c.add.ensures c.add-2.ensures (bit_set c.fetch_or-found.result c.args.line c.if-found-line-eq0.false)

pub returns-clause-raises : goal.returns-clause-raises
returns-clause-raises c =
    let e = c.fetch_or-found.ensures in
    raise_added _ c.self.inside.seat c.fetch_or-found.new.seat c.self.inside.raised.counts c.add.new.self.counts c.self.inside.joined.counts c.add-2.new.self.counts c.args.line c.fetch_or-found.result c.self.invariant e.0
    (raise_line c.args.line _ _ _ _ (shifted c.args.line c.requires) e.2) c.add.ensures _ c.self.view_is true (bit_set c.fetch_or-found.result c.args.line c.if-found-line-eq0.false)
