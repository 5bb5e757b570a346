use Rattle.std.proofs.Common.{◌≡◌, ◌++◌, flat_map, take}
use Rattle.tm_spelling.specs.Lines.{out_line}
use Rattle.tm_text.specs.Prefix.{Keeps}
use Rattle.tm_text.proofs.values.put_out_lines.Given as goal

abbrev pub invariant-loop-output : goal.invariant-loop-output
invariant-loop-output l = record {
  written : l.into.items ≡ l.fn.into.items ++ flat_map out_line (take l.output-index l.outputs);
  keeps : Keeps l.fn.into.items l.into.items;
}
