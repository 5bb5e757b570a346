use Rattle.std.proofs.Common.{◌≡◌, ◌∙◌, sym, ap, ap₂}
use Rattle.std.specs.Option.{option_or}
use Rattle.tm_rv.specs.Table.{op_of}
use Rattle.tm_rv.specs.Instr.{instr_of, instr_with}
use Rattle.tm_rv.proofs.Masks.{op_of_base, op_of_mul}
use Rattle.tm_rv.proofs.decoder.operation.Goals as goal

pub returns-in-Base : goal.returns-in-Base
unfolding instr_of
returns-in-Base c =
    let same = c.by_fields-base.ensures ∙ (sym (op_of_base c.args.word c.ranges.word.fits) ∙ ap (op_of c.args.word) (sym c.in-Base.is)) in
    record { table = same; decoded = ap (λ o. instr_with o c.args.word) (sym same) }

pub returns-in-Mul : goal.returns-in-Mul
unfolding instr_of
returns-in-Mul c =
    let either = ap₂ option_or c.by_fields-base.ensures (c.multiplication.ensures c.args.word) in
    let same = c.or.ensures ∙ (either ∙ (sym (op_of_mul c.args.word c.ranges.word.fits) ∙ ap (op_of c.args.word) (sym c.in-Mul.is))) in
    record { table = same; decoded = ap (λ o. instr_with o c.args.word) (sym same) }
