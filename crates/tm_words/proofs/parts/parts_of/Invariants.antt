use Rattle.std.proofs.Common.{◌≡◌, map, drop}
use Rattle.tm_words.specs.Words.{texts, word_of, parted}
use Rattle.tm_words.specs.Scans.{onto}
use Rattle.tm_words.proofs.parts.parts_of.Given as goal

abbrev pub invariant-loop-word : goal.invariant-loop-word
invariant-loop-word l = onto l.scan (map word_of (texts (drop l.word-index l.words))) ≡ parted (map word_of (texts l.words))
