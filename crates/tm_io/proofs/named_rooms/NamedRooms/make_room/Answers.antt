use Rattle.std.proofs.lemmas.Result.{on_ok_weaker}
use Rattle.tm_io.proofs.Lookups.{looked_up, absent, room_widened, room_added}
use Rattle.tm_io.proofs.named_rooms.NamedRooms.make_room.Goals as goal

pub returns-in-Some-clause-ok : goal.returns-in-Some-clause-ok
returns-in-Some-clause-ok c =
    let at = looked_up c.args.self.now.list.items c.args.name.now _ _ c.in-Some.ensures c.index_mut-room.ensures.value in
    on_ok_weaker c.make_room.result (λ is. room_widened _ _ _ _ _ c.args.bytes at is) c.make_room.ensures.ok

pub returns-in_ok-push-in-None-clause-ok : goal.returns-in_ok-push-in-None-clause-ok
returns-in_ok-push-in-None-clause-ok c =
    let away = absent c.args.self.now.list.items c.args.name.now c.in-None.ensures in
    rw c.in_ok-push-in-None.ensures.items (room_added _ _ _ c.args.bytes away c.in_ok-new-in-None.ensures)
