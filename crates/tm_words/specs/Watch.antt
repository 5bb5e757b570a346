-- What the words of `watch` ask for: a run beside devices that observers look at.
use Rattle.std.specs.Prelude.{ℕ, ◌≤◌, if◌then◌else◌, List, [], ◌∷◌, map, codes, bytes_eq, Option, Some, None, option_and_then, option_map}
use Rattle.tm_words.specs.declared.command.WatchCommand.{WatchCommand}
use Rattle.tm_words.specs.Words.{Parts, word_of, parted, values_in}
use Rattle.tm_words.specs.Numbers.{number_in}

-- the options, each of which must be given
abbrev pub watch_options : List (List ℕ)
watch_options = codes "--slices" ∷ codes "--len" ∷ codes "--observers" ∷ codes "--looks" ∷ []

-- the command with these names and numbers
abbrev pub watching : List ℕ → List ℕ → List ℕ → ℕ → ℕ → ℕ → ℕ → WatchCommand
watching image plant prefix slices len observers looks =
    record { image = image; plant = plant; prefix = prefix; slices = slices; len = len; observers = observers; looks = looks }

-- what the names and the values of the options ask for
--
--     watch IMAGE PLANT PREFIX --slices N --len L --observers K --looks M
abbrev pub watch_asked : List (List ℕ) → List (Option (List ℕ)) → Option WatchCommand
watch_asked (image ∷ plant ∷ prefix ∷ []) (Some slices ∷ Some len ∷ Some observers ∷ Some looks ∷ []) =
    option_and_then (λ n. option_and_then (λ l. option_and_then (λ k. option_map (watching image plant prefix n l k)
    (number_in 1 1000 looks)) (number_in 1 4 observers)) (number_in 0 1048576 len)) (number_in 0 1048576 slices)
watch_asked _ _ = None

-- what the parts of the words behind the first ask for
abbrev pub watch_form : Parts → Option WatchCommand
watch_form parts = option_and_then (watch_asked parts.names) (values_in watch_options parts.given)

-- what the words ask for, where they are of the form
unfoldable pub watch_of : List (List ℕ) → Option WatchCommand
watch_of [] = None
watch_of (first ∷ words) = if bytes_eq first (codes "watch") then option_and_then watch_form (parted (map word_of words)) else None

-- at most 1,048,576 slices of at most 1,048,576 instructions, 1 to 4 observers, and 1 to 1,000 looks of each
pub record IsWatchInRange (command : WatchCommand) : Type 0 where
  pub slices : command.slices ≤ 1048576
  pub len : command.len ≤ 1048576
  pub someone : 1 ≤ command.observers
  pub observers : command.observers ≤ 4
  pub look : 1 ≤ command.looks
  pub looks : command.looks ≤ 1000
