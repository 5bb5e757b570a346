use Rattle.std.proofs.Common.{◌≡◌, ◌-◌, length}
use Rattle.std.specs.Prelude.{take}
use Rattle.tm_dump.specs.Cursor.{words_in}
use Rattle.tm_dump.proofs.Fronts.{with_front}
use Rattle.tm_dump.proofs.read.cursor.Cursor.words.Given as goal

abbrev pub invariant-loop-index : goal.invariant-loop-index
invariant-loop-index l = record {
  read : with_front (take l.index l.words) (words_in (length l.fn.words - l.index) l.self) ≡ words_in (length l.fn.words) l.fn.self;
  len : length l.words ≡ length l.fn.words;
}
