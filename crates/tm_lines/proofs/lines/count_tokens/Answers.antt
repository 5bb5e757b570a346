use Rattle.std.proofs.Common.{rules, tests}
use Rattle.std.proofs.lemmas.Iterator.Consumers.{count_from_yields_List, YieldsList-from_filter, YieldsList-at}
use Rattle.std.proofs.lemmas.Iterator.Splits.{YieldsList-from_slice_split}
use Rattle.tm_lines.specs.Lines.{is_gap, is_token}
use Rattle.tm_lines.proofs.lines.count_tokens.Goals as goal

pub returns : goal.returns
returns c =
    count_from_yields_List c.filter.result _ c.count.ensures.ran
    (YieldsList-from_filter _ is_token
    (YieldsList-at c.filter.ensures.source
    (YieldsList-from_slice_split _ is_gap c.args.line.now c.split.ensures.rest c.split.ensures.done c.split.ensures.closure
    (λ x b q called. search (rules, tests))))
    c.filter.ensures.closure
    (λ x b q called. search (rules, tests)))
