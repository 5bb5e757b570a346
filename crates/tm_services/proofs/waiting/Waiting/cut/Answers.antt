use Rattle.std.proofs.Common.{◌≡◌, ◌<◌, ◌≤◌, ◌∙◌, ap, length, take, List, arith, length-take-le}
use Rattle.std.specs.List.{remove}
use Rattle.tm_services.specs.declared.waiting.Entry.{Entry}
use Rattle.tm_services.proofs.Places.{take_cut}
use Rattle.tm_services.proofs.waiting.Waiting.cut.Goals as goal

pub returns : goal.returns
returns c =
    let many : length (take c.self.inside.number c.self.inside.entries) ≡ length c.args.self.now = ap length c.self.view_is in
    let fits : c.self.inside.number ≤ length c.self.inside.entries = omega arith in
    let within : c.args.index < c.self.inside.number = omega (arith, length-take-le c.self.inside.number c.self.inside.entries fits) in
    take_cut c.self.inside.number c.args.index c.self.inside.entries c.rotate_left.new.self within fits c.rotate_left.ensures.after
    ∙ ap (λ (es : List Entry). remove es c.args.index) c.self.view_is
