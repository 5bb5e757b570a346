use Rattle.std.proofs.Common.{◌≡◌, true, false, ◌∙◌, ap, sym}
use Rattle.tm_elf.specs.Fields.{header_at, header_of}
use Rattle.tm_elf.specs.Loads.{is_load}
use Rattle.tm_elf.proofs.Steps.{loads_more, loads_kept}
use Rattle.tm_elf.proofs.loads.add_load.Goals as goal

pub returns-then-not-is_load-clause-added : goal.returns-then-not-is_load-clause-added
returns-then-not-is_load-clause-added c =
    let here = c.at-header.ensures ∙ ap (header_at c.args.bytes.now) c.header_place.ensures in
    let other = sym (ap is_load here) ∙ sym c.is_load.ensures ∙ c.if-not-is_load.true in
    c.requires.before ∙ sym (loads_kept c.args.bytes.now c.args.number other)

pub returns-in-None-clause-added : goal.returns-in-None-clause-added
returns-in-None-clause-added c =
    let here = c.at-header.ensures ∙ ap (header_at c.args.bytes.now) c.header_place.ensures in
    let load = sym (ap is_load here) ∙ sym c.is_load.ensures ∙ c.if-not-is_load.false in
    let more = loads_more c.args.bytes.now c.args.number load in
    cc (more, here, c.push.ensures.items, c.requires.before)
