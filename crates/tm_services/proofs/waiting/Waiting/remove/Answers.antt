use Rattle.std.proofs.Common.{◌≡◌, sym, ◌∙◌, ap, Some, None}
use Rattle.std.specs.List.{position}
use Rattle.tm_services.proofs.Differences.{is_of, place_found, place_missing, without_at, without_none}
use Rattle.tm_services.proofs.waiting.Waiting.remove.Goals as goal

pub returns-in-Some : goal.returns-in-Some
returns-in-Some c =
    let found : position (is_of c.args.alarm) c.args.self.now ≡ Some c.in-Some.index =
    ap (position (is_of c.args.alarm)) (sym c.as_slice.ensures.entries) ∙ sym c.find.ensures ∙ c.in-Some.is in
    let (at, within) = place_found c.args.alarm c.args.self.now c.in-Some.index found in
    rw (c.put_off.ensures, c.cut.ensures, c.as_slice-in-Some.ensures.entries)
    (without_at c.args.alarm c.args.self.now c.in-Some.index _ at within)

pub returns-in_default : goal.returns-in_default
returns-in_default c =
    let missing : position (is_of c.args.alarm) c.args.self.now ≡ None =
    ap (position (is_of c.args.alarm)) (sym c.as_slice.ensures.entries) ∙ sym c.find.ensures ∙ c.in_default.is in
    without_none c.args.alarm c.args.self.now (place_missing c.args.alarm c.args.self.now missing)
