use Rattle.std.proofs.Common.{refl, sym, ◌∙◌}
use Rattle.tm_io.proofs.Lookups.{looked_up, absent}
use Rattle.tm_io.proofs.named_rooms.NamedRooms.content.Goals as goal

pub returns-in_err-position : goal.returns-in_err-position
returns-in_err-position c =
    let away = absent c.args.self.now.list.items c.args.name.now c.in_err-position.ensures in
    rw (away.content_is, c.from_residual.ensures) refl

pub returns : goal.returns
returns c =
    let at = looked_up c.args.self.now.list.items c.args.name.now _ _ c.in_ok-position.ensures c.index.ensures in
    c.content.ensures ∙ sym at.content_is
