use Rattle.std.proofs.Common.{◌≡◌, ◌==◌, subst, length, rules, false}
use Rattle.std.specs.Prelude.{Ok}
use Rattle.tm_dump.specs.Reading.{fields_in}
use Rattle.tm_dump.proofs.Making.{inside_whole, inside_more}
use Rattle.tm_dump.proofs.read.read_inside.Goals as goal

pub returns-then-left-eq0 : goal.returns-then-left-eq0
returns-then-left-eq0 c =
    let none : length c.read_fields.new.at.left ≡ 0 = search (rules, c.left.ensures) in
    inside_whole c.args.shape.now c.args.bytes.now c.in_ok-window.window c.read_fields.new.at
    (subst (λ at. fields_in c.args.shape.now at ≡ Ok (c.in_ok-window.window, c.read_fields.new.at)) c.new-at.ensures c.in_ok-window.ensures) none

pub returns-else-left-eq0 : goal.returns-else-left-eq0
returns-else-left-eq0 c =
    let some : (length c.read_fields.new.at.left == 0) ≡ false = search (rules, c.left.ensures) in
    let it = inside_more c.args.shape.now c.args.bytes.now c.in_ok-window.window c.read_fields.new.at
    (subst (λ at. fields_in c.args.shape.now at ≡ Ok (c.in_ok-window.window, c.read_fields.new.at)) c.new-at.ensures c.in_ok-window.ensures) some in
    search (rules, it)
