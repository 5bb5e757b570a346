use Rattle.std.proofs.Common.{◌≡◌, length, map, take}
use Rattle.tm_image.proofs.draft.Reading.word_counts.Given as goal

abbrev pub invariant-loop-load : goal.invariant-loop-load
invariant-loop-load l = l.counts ≡ map (λ load. length load.words) (take l.load-index l.self.loads)
