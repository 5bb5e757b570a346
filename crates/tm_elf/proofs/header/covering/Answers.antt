use Rattle.std.proofs.Common.{◌∙◌, rules, tests}
use Rattle.std.proofs.lemmas.Iterator.{YieldsList-from_slice}
use Rattle.std.proofs.lemmas.Iterator.Search.{find_from_yields_List}
use Rattle.tm_elf.specs.Loads.{covers}
use Rattle.tm_elf.proofs.header.covering.Goals as goal

pub returns : goal.returns
returns c =
    c.copied.ensures
    ∙ find_from_yields_List (covers c.args.address) _ _ c.find.result c.find.ensures.ran (YieldsList-from_slice c.args.loads.now cc) (λ x b q k. search (rules, tests))
