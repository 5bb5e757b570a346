-- The parsers that read the texts of each form, and the words that they are handed: options with their values
-- behind `=`, then `--`, then the names.
use Rattle.std.specs.Prelude.{◌≡◌, true, ℕ, List, [], ◌∷◌, ◌++◌, codes, Option, Some, None, IsSome, unwrap_or}
use Rattle.tm_words.specs.declared.kind.Kind.TheVariants as kind
use Rattle.tm_words.specs.declared.command.Command.{Command}
use Rattle.tm_words.specs.Command.{asked}
use Rattle.tm_words.specs.declared.command.WatchCommand.{WatchCommand}
use Rattle.tm_words.specs.Watch.{watch_asked}
use Rattle.clap.specs.Words.{App, Rule, first_of, matches_of, takes, new_app, new_rule, with_rule}

-- an option that takes a text
abbrev pub option_rule : List ℕ → Rule
option_rule name = record (new_rule name) { long = Some name }

abbrev pub trace_parser : App
trace_parser = with_rule (with_rule (new_app (codes "trace")) (new_rule (codes "image"))) (new_rule (codes "plan"))

abbrev pub trace_words : List ℕ → List ℕ → List (List ℕ)
trace_words image plan = codes "trace" ∷ codes "--" ∷ image ∷ plan ∷ []

abbrev pub record_parser : App
record_parser = with_rule (with_rule (with_rule (new_app (codes "record")) (new_rule (codes "image"))) (new_rule (codes "plan"))) (new_rule (codes "dump"))

abbrev pub record_words : List ℕ → List ℕ → List ℕ → List (List ℕ)
record_words image plan dump = codes "record" ∷ codes "--" ∷ image ∷ plan ∷ dump ∷ []

abbrev pub live_options : App
live_options = with_rule (with_rule (with_rule (new_app (codes "live")) (option_rule (codes "slices"))) (option_rule (codes "len"))) (option_rule (codes "tape"))

abbrev pub live_parser : App
live_parser = with_rule (with_rule (with_rule live_options (new_rule (codes "image"))) (new_rule (codes "plant"))) (new_rule (codes "dump"))

-- the option of a tape, where it has a name
abbrev pub tape_words : Option (List ℕ) → List (List ℕ) → List (List ℕ)
tape_words None words = words
tape_words (Some tape) words = (codes "--tape=" ++ tape) ∷ words

abbrev pub live_words : List ℕ → List ℕ → List ℕ → List ℕ → List ℕ → Option (List ℕ) → List (List ℕ)
live_words image plant dump slices len tape =
    codes "live" ∷ (codes "--slices=" ++ slices) ∷ (codes "--len=" ++ len) ∷ tape_words tape (codes "--" ∷ image ∷ plant ∷ dump ∷ [])

-- what the parser tells of each text, by its name
abbrev pub live_text : List (List ℕ) → List ℕ → Option (List ℕ)
live_text words name = first_of name (matches_of live_parser words)

-- words that the parser takes, and of which it tells each text that must be given
pub record IsLive (words : List (List ℕ)) : Type 0 where
  pub taken : takes live_parser words ≡ true
  pub image : IsSome (live_text words (codes "image"))
  pub plant : IsSome (live_text words (codes "plant"))
  pub dump : IsSome (live_text words (codes "dump"))
  pub slices : IsSome (live_text words (codes "slices"))
  pub len : IsSome (live_text words (codes "len"))

-- what these texts ask for
abbrev pub live_asked : List (List ℕ) → Option Command
live_asked words =
    asked kind.Live (unwrap_or (live_text words (codes "image")) [] ∷ unwrap_or (live_text words (codes "plant")) [] ∷ unwrap_or (live_text words (codes "dump")) [] ∷ [])
    (live_text words (codes "slices") ∷ live_text words (codes "len") ∷ live_text words (codes "tape") ∷ [])

abbrev pub points_parser : App
points_parser = with_rule (with_rule (new_app (codes "points")) (new_rule (codes "image"))) (new_rule (codes "dump"))

abbrev pub points_words : List ℕ → List ℕ → List (List ℕ)
points_words image dump = codes "points" ∷ codes "--" ∷ image ∷ dump ∷ []

abbrev pub replay_parser : App
replay_parser =
    with_rule (with_rule (with_rule (with_rule (new_app (codes "replay")) (option_rule (codes "from"))) (option_rule (codes "workers")))
    (new_rule (codes "image"))) (new_rule (codes "dump"))

abbrev pub replay_words : List ℕ → List ℕ → List ℕ → List ℕ → List (List ℕ)
replay_words image dump from workers =
    codes "replay" ∷ (codes "--from=" ++ from) ∷ (codes "--workers=" ++ workers) ∷ codes "--" ∷ image ∷ dump ∷ []

abbrev pub make_parser : App
make_parser = with_rule (new_app (codes "make")) (new_rule (codes "number"))

abbrev pub make_words : List ℕ → List (List ℕ)
make_words number = codes "make" ∷ codes "--" ∷ number ∷ []

abbrev pub load_parser : App
load_parser =
    with_rule (with_rule (with_rule (with_rule (new_app (codes "load")) (new_rule (codes "image"))) (new_rule (codes "task")))
    (new_rule (codes "executable"))) (new_rule (codes "new"))

abbrev pub load_words : List ℕ → List ℕ → List ℕ → List ℕ → List (List ℕ)
load_words image task executable new = codes "load" ∷ codes "--" ∷ image ∷ task ∷ executable ∷ new ∷ []

abbrev pub watch_numbers : App
watch_numbers =
    with_rule (with_rule (with_rule (with_rule (new_app (codes "watch")) (option_rule (codes "slices"))) (option_rule (codes "len")))
    (option_rule (codes "observers"))) (option_rule (codes "looks"))

abbrev pub watch_parser : App
watch_parser = with_rule (with_rule (with_rule watch_numbers (new_rule (codes "image"))) (new_rule (codes "plant"))) (new_rule (codes "prefix"))

abbrev pub watch_words : List ℕ → List ℕ → List ℕ → List ℕ → List ℕ → List ℕ → List ℕ → List (List ℕ)
watch_words image plant prefix slices len observers looks =
    codes "watch" ∷ (codes "--slices=" ++ slices) ∷ (codes "--len=" ++ len) ∷ (codes "--observers=" ++ observers) ∷ (codes "--looks=" ++ looks)
    ∷ codes "--" ∷ image ∷ plant ∷ prefix ∷ []

-- what the parser tells of each text, by its name
abbrev pub watch_text : List (List ℕ) → List ℕ → Option (List ℕ)
watch_text words name = first_of name (matches_of watch_parser words)

-- words that the parser takes, and of which it tells each text
pub record IsWatch (words : List (List ℕ)) : Type 0 where
  pub taken : takes watch_parser words ≡ true
  pub image : IsSome (watch_text words (codes "image"))
  pub plant : IsSome (watch_text words (codes "plant"))
  pub prefix : IsSome (watch_text words (codes "prefix"))
  pub slices : IsSome (watch_text words (codes "slices"))
  pub len : IsSome (watch_text words (codes "len"))
  pub observers : IsSome (watch_text words (codes "observers"))
  pub looks : IsSome (watch_text words (codes "looks"))

-- what these texts ask for
abbrev pub watch_asked_in : List (List ℕ) → Option WatchCommand
watch_asked_in words =
    watch_asked (unwrap_or (watch_text words (codes "image")) [] ∷ unwrap_or (watch_text words (codes "plant")) [] ∷ unwrap_or (watch_text words (codes "prefix")) [] ∷ [])
    (watch_text words (codes "slices") ∷ watch_text words (codes "len") ∷ watch_text words (codes "observers") ∷ watch_text words (codes "looks") ∷ [])
