use Rattle.std.proofs.Common.{◌≡◌, ◌+◌, ◌*◌, ◌≤◌, ◌++◌, vec_len, vec_capacity}
use Rattle.tm_audit.specs.Text.{lines_text}
use Rattle.tm_audit.proofs.Rest.{lines_from}
use Rattle.tm_audit.proofs.text.put_lines.Given as goal

abbrev pub invariant-loop-line : goal.invariant-loop-line
invariant-loop-line l = record {
  written : l.into.items ++ lines_from l.audit l.line ≡ l.fn.into.items ++ lines_text l.audit;
  len : vec_len l.into ≤ vec_len l.fn.into + 120 * l.line;
  capacity : vec_capacity l.fn.into ≤ vec_capacity l.into;
}
