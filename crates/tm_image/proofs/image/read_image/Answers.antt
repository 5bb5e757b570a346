use Rattle.tm_image.proofs.Wholes.{image_is}
use Rattle.tm_image.proofs.image.read_image.Goals as goal

pub invariant_of-result : goal.invariant_of-result
invariant_of-result c = (
  rw c.caps.ensures (image_is c.args.bytes.now c.digest_of.result _ c.in_ok-parts.ensures c.digest_of.ensures.long),
  c.in_ok-words.ensures,
)

pub returns-clause-sound : goal.returns-clause-sound
returns-clause-sound c =
    rw c.caps.ensures (image_is c.args.bytes.now c.digest_of.result _ c.in_ok-parts.ensures c.digest_of.ensures.long)
