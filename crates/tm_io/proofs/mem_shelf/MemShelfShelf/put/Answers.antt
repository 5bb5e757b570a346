use Rattle.std.proofs.Common.{◌≡◌, ◌∙◌, ap}
use Rattle.tm_io.specs.NamedRooms.{content_in, room_in}
use Rattle.tm_io.specs.Shelf.{held}
use Rattle.tm_io.specs.ShelfState.{ShelfState}
use Rattle.tm_io.proofs.Lookups.{rooms_same, content_held}
use Rattle.tm_io.proofs.mem_shelf.MemShelfShelf.put.Goals as goal

pub returns-clause-rooms_stay : goal.returns-clause-rooms_stay
returns-clause-rooms_stay c =
    let same : c.self.inside.rooms.list.items ≡ c.args.self.now.rooms =
    ap (λ (s : ShelfState). s.rooms) (c.self.view_is ∙ c.next_call_fails.ensures.calls) in
    rooms_same _ _ _ _ c.if-not-put.ensures.change ∙ ap room_in same

pub returns-clause-ok : goal.returns-clause-ok
returns-clause-ok c =
    let same : c.self.inside.rooms.list.items ≡ c.args.self.now.rooms =
    ap (λ (s : ShelfState). s.rooms) (c.self.view_is ∙ c.next_call_fails.ensures.calls) in
    content_held _ _ _ _ _ c.if-not-put.ensures.change ∙ ap (λ rooms. held (content_in rooms) c.args.name.now c.args.bytes.now) same
