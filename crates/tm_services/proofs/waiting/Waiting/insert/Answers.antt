use Rattle.std.proofs.Common.{◌≡◌, ◌∙◌, ap}
use Rattle.tm_services.specs.Waiting.{place_of, rest_of}
use Rattle.tm_services.proofs.Differences.{place_of-le, waits_at_place, insert_is, length-brought}
use Rattle.tm_services.proofs.waiting.Waiting.insert.Goals as goal

pub bring_forward-requires : goal.bring_forward-requires
bring_forward-requires c =
    let at : c.place_of-place.result.index ≡ place_of c.args.new.wait c.args.self.now = c.place_of-place.ensures.index ∙ ap (place_of c.args.new.wait) c.as_slice.ensures.entries in
    let rest : c.place_of-place.result.wait ≡ rest_of c.args.new.wait c.args.self.now = c.place_of-place.ensures.wait ∙ ap (rest_of c.args.new.wait) c.as_slice.ensures.entries in
    rw (at, rest) (waits_at_place c.args.new.wait c.args.self.now)

pub put-requires-clause-room : goal.put-requires-clause-room
put-requires-clause-room c =
    rw (c.bring_forward.ensures, length-brought c.place_of-place.result.index c.place_of-place.result.wait c.args.self.now) c.requires

pub put-requires-clause-within : goal.put-requires-clause-within
put-requires-clause-within c =
    let at : c.place_of-place.result.index ≡ place_of c.args.new.wait c.args.self.now = c.place_of-place.ensures.index ∙ ap (place_of c.args.new.wait) c.as_slice.ensures.entries in
    rw (c.bring_forward.ensures, length-brought c.place_of-place.result.index c.place_of-place.result.wait c.args.self.now, at)
    (place_of-le c.args.new.wait c.args.self.now)

pub returns : goal.returns
returns c =
    let at : c.place_of-place.result.index ≡ place_of c.args.new.wait c.args.self.now = c.place_of-place.ensures.index ∙ ap (place_of c.args.new.wait) c.as_slice.ensures.entries in
    let rest : c.place_of-place.result.wait ≡ rest_of c.args.new.wait c.args.self.now = c.place_of-place.ensures.wait ∙ ap (rest_of c.args.new.wait) c.as_slice.ensures.entries in
    rw (c.put.ensures, at, rest)
    (insert_is c.args.self.now c.bring_forward.new.self c.args.new (rw (at, rest) at c.bring_forward.ensures))
