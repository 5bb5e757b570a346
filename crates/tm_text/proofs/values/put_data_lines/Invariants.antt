use Rattle.std.proofs.Common.{◌≡◌, ◌++◌, flat_map, take}
use Rattle.tm_spelling.specs.Lines.{data_line}
use Rattle.tm_text.specs.Prefix.{Keeps}
use Rattle.tm_text.proofs.values.put_data_lines.Given as goal

abbrev pub invariant-loop-address : goal.invariant-loop-address
invariant-loop-address l = record {
  written : l.into.items ≡ l.fn.into.items ++ flat_map data_line (take l.address-index l.changed);
  keeps : Keeps l.fn.into.items l.into.items;
}
