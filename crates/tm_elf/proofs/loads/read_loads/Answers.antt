use Rattle.std.proofs.Common.{◌∙◌, sym, arith}
use Rattle.std.proofs.lemmas.Result.{err_from_is_err_and}
use Rattle.tm_elf.specs.Fields.{header_count}
use Rattle.tm_elf.specs.Elf.{segment_fault}
use Rattle.tm_elf.proofs.Steps.{first_more, first_found}
use Rattle.tm_elf.proofs.Order.{no_fault, the_fault}
use Rattle.tm_elf.proofs.loads.read_loads.Goals as goal

pub returns-in_err-add_load-clause-fault : goal.returns-in_err-add_load-clause-fault
returns-in_err-add_load-clause-fault c =
    let p = err_from_is_err_and c.from_residual.result c.from_residual.ensures.1 in
    let fault = segment_fault c.args.bytes.now in
    let number = c.loop-number.number in
    let told = c.in_err-add_load.field-0.0 in
    let found = the_fault (fault number) (tt {0}) told (sym c.in_err-add_load.ensures.fault) in
    rw (p.1, p.2)
    (sym c.loop-number.invariant.rest
    ∙ first_found fault number (header_count c.args.bytes.now) told (omega (arith, c.loop-number-test.true, c.header_count-number-end.ensures)) found)

pub loop-number-preserved : goal.loop-number-preserved
loop-number-preserved c =
    let fault = segment_fault c.args.bytes.now in
    let number = c.loop-number.number in
    let none = (no_fault (fault number) (tt {0}) c.in_ok-add_load.field-0 (sym c.in_ok-add_load.ensures.fault)).0 in
    record {
      read = c.in_ok-add_load.ensures.added;
      rest =
          sym (first_more fault number (header_count c.args.bytes.now) (omega (arith, c.loop-number-test.true, c.header_count-number-end.ensures)) none)
          ∙ c.loop-number.invariant.rest;
      few = omega (arith, c.add_load.ensures.few);
    }
