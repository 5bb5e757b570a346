use Rattle.std.proofs.Common.{◌≡◌, ◌<◌, ◌≤◌, ◌∙◌, ap, length, take, List, arith, length-take-le}
use Rattle.std.specs.List.{insert}
use Rattle.tm_services.specs.declared.waiting.Entry.{Entry}
use Rattle.tm_services.proofs.Places.{take_insert}
use Rattle.tm_services.proofs.waiting.Waiting.put.Goals as goal

pub returns : goal.returns
returns c =
    let many : length (take c.self.inside.number c.self.inside.entries) ≡ length c.args.self.now = ap length c.self.view_is in
    let fits : c.self.inside.number ≤ length c.self.inside.entries = omega arith in
    let room : c.self.inside.number < length c.self.inside.entries = omega (arith, length-take-le c.self.inside.number c.self.inside.entries fits) in
    let within : c.args.index ≤ c.self.inside.number = omega (arith, length-take-le c.self.inside.number c.self.inside.entries fits) in
    take_insert c.self.inside.number c.args.index c.self.inside.entries c.rotate_right.new.self c.args.entry within room c.rotate_right.ensures.after
    ∙ ap (λ (es : List Entry). insert es c.args.index c.args.entry) c.self.view_is
