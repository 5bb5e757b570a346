use Rattle.std.proofs.Common.{◌≡◌}
use Rattle.tm_system.specs.Telling.{below}
use Rattle.tm_prog.specs.Teller.{words_in}
use Rattle.tm_prog.proofs.teller.all_words.Given as goal

abbrev pub invariant-loop-task : goal.invariant-loop-task
invariant-loop-task l = l.all.items ≡ below l.task (words_in l.machine)
