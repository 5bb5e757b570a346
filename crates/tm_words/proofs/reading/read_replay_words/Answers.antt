use Rattle.std.proofs.Common.{◌∙◌, ◌≡◌, ◌∷◌, ◌++◌, [], ℕ, List, Option, Some, ap₂, drop, refl}
use Rattle.std.specs.Prelude.{codes}
use Rattle.clap.specs.Words.{App, first_of, matches_of, takes}
use Rattle.tm_words.specs.Parsers.{replay_parser, replay_words}
use Rattle.tm_words.proofs.Parsing.{there, same_text, replay_taken, replay_image, replay_dump, replay_from, replay_workers}
use Rattle.tm_words.proofs.reading.read_replay_words.Goals as goal

-- the words as they are handed over, and as the parser takes them
words_are : (image dump from workers : List ℕ) → from ≡ codes "--from=" ++ drop 7 from → workers ≡ codes "--workers=" ++ drop 10 workers →
    codes "replay" ∷ from ∷ workers ∷ codes "--" ∷ image ∷ dump ∷ [] ≡ replay_words image dump (drop 7 from) (drop 10 workers)
words_are image dump from workers f w = ap₂ (λ x y. codes "replay" ∷ x ∷ y ∷ codes "--" ∷ image ∷ dump ∷ []) f w

given : {value : List ℕ} (name image dump from workers : List ℕ) {app : App} {found : Option (List ℕ)} → app ≡ replay_parser →
    found ≡ first_of name (matches_of app (codes "replay" ∷ from ∷ workers ∷ codes "--" ∷ image ∷ dump ∷ [])) →
    from ≡ codes "--from=" ++ drop 7 from → workers ≡ codes "--workers=" ++ drop 10 workers →
    first_of name (matches_of replay_parser (replay_words image dump (drop 7 from) (drop 10 workers))) ≡ Some value → found ≡ Some value
given name image dump from workers same is f w is_value =
    is ∙ ap₂ (λ a ws. first_of name (matches_of a ws)) same (words_are image dump from workers f w) ∙ is_value

pub matches_of-requires-clause-taken : goal.matches_of-requires-clause-taken
matches_of-requires-clause-taken c =
    ap₂ (λ (a : App) (ws : List (List ℕ)). takes a ws) c.in_ok-replay_parser.ensures
    (words_are c.args.image.now c.args.dump.now c.args.from.now c.args.workers.now c.requires.from c.requires.workers) ∙ replay_taken c.args.image.now c.args.dump.now (drop 7 c.args.from.now) (drop 10 c.args.workers.now)

pub name_in-requires : goal.name_in-requires
name_in-requires c = there (given (codes "image") c.args.image.now c.args.dump.now c.args.from.now c.args.workers.now c.in_ok-replay_parser.ensures (c.in_ok-matches.ensures (codes "image")) c.requires.from c.requires.workers (replay_image c.args.image.now c.args.dump.now (drop 7 c.args.from.now) (drop 10 c.args.workers.now)))

pub name_in-requires-2 : goal.name_in-requires-2
name_in-requires-2 c = there (given (codes "dump") c.args.image.now c.args.dump.now c.args.from.now c.args.workers.now c.in_ok-replay_parser.ensures (c.in_ok-matches.ensures (codes "dump")) c.requires.from c.requires.workers (replay_dump c.args.image.now c.args.dump.now (drop 7 c.args.from.now) (drop 10 c.args.workers.now)))

pub text_in-from-requires : goal.text_in-from-requires
text_in-from-requires c = there (given (codes "from") c.args.image.now c.args.dump.now c.args.from.now c.args.workers.now c.in_ok-replay_parser.ensures (c.in_ok-matches.ensures (codes "from")) c.requires.from c.requires.workers (replay_from c.args.image.now c.args.dump.now (drop 7 c.args.from.now) (drop 10 c.args.workers.now)))

pub text_in-workers-requires : goal.text_in-workers-requires
text_in-workers-requires c = there (given (codes "workers") c.args.image.now c.args.dump.now c.args.from.now c.args.workers.now c.in_ok-replay_parser.ensures (c.in_ok-matches.ensures (codes "workers")) c.requires.from c.requires.workers (replay_workers c.args.image.now c.args.dump.now (drop 7 c.args.from.now) (drop 10 c.args.workers.now)))

pub returns : goal.returns
returns c =
    let image = same_text c.in_ok-image.ensures (given (codes "image") c.args.image.now c.args.dump.now c.args.from.now c.args.workers.now c.in_ok-replay_parser.ensures (c.in_ok-matches.ensures (codes "image")) c.requires.from c.requires.workers (replay_image c.args.image.now c.args.dump.now (drop 7 c.args.from.now) (drop 10 c.args.workers.now))) in
    let dump = same_text c.in_ok-dump.ensures (given (codes "dump") c.args.image.now c.args.dump.now c.args.from.now c.args.workers.now c.in_ok-replay_parser.ensures (c.in_ok-matches.ensures (codes "dump")) c.requires.from c.requires.workers (replay_dump c.args.image.now c.args.dump.now (drop 7 c.args.from.now) (drop 10 c.args.workers.now))) in
    let from = same_text c.text_in-from.ensures (given (codes "from") c.args.image.now c.args.dump.now c.args.from.now c.args.workers.now c.in_ok-replay_parser.ensures (c.in_ok-matches.ensures (codes "from")) c.requires.from c.requires.workers (replay_from c.args.image.now c.args.dump.now (drop 7 c.args.from.now) (drop 10 c.args.workers.now))) in
    let workers = same_text c.text_in-workers.ensures (given (codes "workers") c.args.image.now c.args.dump.now c.args.from.now c.args.workers.now c.in_ok-replay_parser.ensures (c.in_ok-matches.ensures (codes "workers")) c.requires.from c.requires.workers (replay_workers c.args.image.now c.args.dump.now (drop 7 c.args.from.now) (drop 10 c.args.workers.now))) in
    c.replay_of.ensures ∙ rw (image, dump, from, workers) refl
