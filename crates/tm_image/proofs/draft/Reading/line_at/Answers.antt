use Rattle.std.proofs.lemmas.Option.{unwrap_or-slice_get}
use Rattle.tm_kernel.specs.declared.spec.Action.TheVariants.{Nothing}
use Rattle.tm_image.proofs.draft.Reading.line_at.Goals as goal

pub returns : goal.returns
returns c = cc (unwrap_or-slice_get c.self.inside.spec.lines c.args.number Nothing)
