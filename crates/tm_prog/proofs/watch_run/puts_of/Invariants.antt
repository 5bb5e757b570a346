use Rattle.std.proofs.Common.{◌≡◌, ◌+◌, ◌++◌, drop, take, length, map}
use Rattle.tm_prog.specs.WatchCommand.{puts_under}
use Rattle.tm_prog.proofs.watch_run.puts_of.Given as goal

-- what is put so far, and what the rest would put
abbrev pub invariant-loop-name : goal.invariant-loop-name
invariant-loop-name l = record {
  count : l.name-index + length l.dumps.items ≡ length l.names;
  puts : l.puts.items ++ puts_under (drop l.name-index l.names) (map (λ bytes. bytes.items) l.dumps.items) ≡ puts_under l.names (map (λ bytes. bytes.items) l.fn.dumps.items);
  named : map (λ p. p.name) l.puts.items ≡ take l.name-index l.names;
}
