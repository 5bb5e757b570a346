use Rattle.std.proofs.Common.{arith}
use Rattle.std.proofs.lemmas.List.Elements.{All-from_get_or}
use Rattle.tm_image_text.specs.Numbers.{IsWord}
use Rattle.tm_image_text.proofs.lines.put_data_line.Goals as goal

pub returns-clause-narrow : goal.returns-clause-narrow
returns-clause-narrow c = All-from_get_or IsWord c.args.words.now 0 (λ i h. omega (arith, c.type_inv.words i))
