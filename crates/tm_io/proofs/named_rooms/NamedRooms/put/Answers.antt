use Rattle.std.proofs.Common.{refl, arith}
use Rattle.std.proofs.lemmas.Bool.Decides.{nat_tests}
use Rattle.tm_io.proofs.Lookups.{looked_up, absent, content_put}
use Rattle.tm_io.proofs.named_rooms.NamedRooms.put.Goals as goal

pub returns-in_default-clause-room : goal.returns-in_default-clause-room
returns-in_default-clause-room c =
    rw (absent c.args.self.now.list.items c.args.name.now c.in_default.ensures).room_is refl

pub returns-then-bytes-room-clause-room : goal.returns-then-bytes-room-clause-room
returns-then-bytes-room-clause-room c =
    let at = looked_up c.args.self.now.list.items c.args.name.now _ _ c.in-Some.ensures c.index_mut-room.ensures.value in
    rw at.room_is (grind (arith, nat_tests))

pub returns-clause-room : goal.returns-clause-room
returns-clause-room c =
    let at = looked_up c.args.self.now.list.items c.args.name.now _ _ c.in-Some.ensures c.index_mut-room.ensures.value in
    rw at.room_is (grind (arith, nat_tests))

pub returns-clause-change : goal.returns-clause-change
returns-clause-change c =
    let at = looked_up c.args.self.now.list.items c.args.name.now _ _ c.in-Some.ensures c.index_mut-room.ensures.value in
    content_put _ _ _ _ _ _ at c.put.ensures
