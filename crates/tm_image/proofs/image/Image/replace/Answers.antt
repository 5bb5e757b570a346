use Rattle.std.proofs.Common.{length, map, ap, sym, ◌∙◌}
use Rattle.tm_image.specs.Draft.{Draft}
use Rattle.tm_image.specs.Image.{ImageView, shaped}
use Rattle.tm_image.proofs.Wholes.{replaced_is, counts_set}
use Rattle.tm_image.proofs.image.Image.replace.Goals as goal

pub invariant_of-self : goal.invariant_of-self
invariant_of-self c = (
  rw c.set_load.ensures (replaced_is (shaped c.self.inside.parts c.self.inside.shape) c.args.task c.args.from c.self.invariant.0 c.requires.sound (c.requires.set ∙ sym (ap (λ (i : ImageView). i.set) c.self.view_is))),
  c.set.ensures
      ∙ counts_set c.self.inside.shape.words c.self.inside.parts.loads c.args.task _ c.args.from c.self.invariant.1 (ap length c.words.ensures.value)
      ∙ sym (ap (λ (d : Draft). map (λ load. length load.words) d.loads) c.set_load.ensures),
)
