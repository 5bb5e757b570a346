use Rattle.std.proofs.Common.{◌≡◌, ◌∙◌, sym, ap, Some}
use Rattle.tm_rv.specs.declared.instr.Instr.{Instr}
use Rattle.tm_rv.specs.Instr.{instr_of}
use Rattle.tm_rv.proofs.Decoded.{decoded_from}
use Rattle.tm_rv.proofs.decoder.decode.Goals as goal

pub returns-in-Some : goal.returns-in-Some
returns-in-Some c =
    let same : Some c.split.result ≡ instr_of c.args.word c.args.set = ap (λ (i : Instr). Some i) c.split.ensures ∙ sym c.in-Some.ensures.decoded in
    let d = decoded_from c.args.word c.args.set (Some c.split.result) c.ranges.word.fits same in
    record { table = same; encodable = d.encodable; registers = d.registers; immediate = d.immediate }

pub returns-in-None : goal.returns-in-None
returns-in-None c =
    record { table = sym c.in-None.ensures.decoded; encodable = tt; registers = tt; immediate = tt }
