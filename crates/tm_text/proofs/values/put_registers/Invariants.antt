use Rattle.std.proofs.Common.{◌≡◌, ◌+◌, ◌++◌, drop}
use Rattle.tm_spelling.specs.Lines.{registers_from}
use Rattle.tm_text.specs.Prefix.{Keeps}
use Rattle.tm_text.proofs.values.put_registers.Given as goal

abbrev pub invariant-loop-value : goal.invariant-loop-value
invariant-loop-value l = record {
  number : l.number ≡ l.value-index;
  written :
      l.into.items ++ registers_from (l.number + 1) (drop l.value-index l.regs) ≡
      l.fn.into.items ++ registers_from 1 l.regs;
  keeps : Keeps l.fn.into.items l.into.items;
}
