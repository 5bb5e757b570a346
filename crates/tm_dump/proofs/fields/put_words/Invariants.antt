use Rattle.std.specs.List.{flat_map}
use Rattle.std.proofs.Common.{drop}
use Rattle.tm_dump.specs.Fields.{word_bytes}
use Rattle.tm_dump.specs.Room.{Lacks}
use Rattle.tm_dump.proofs.fields.put_words.Given as goal

abbrev pub invariant-loop-word : goal.invariant-loop-word
invariant-loop-word l =
    Lacks l.fn.into l.into (flat_map word_bytes l.words) (flat_map word_bytes (drop l.word-index l.words))
