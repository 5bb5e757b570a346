-- What the words of a call ask for.
use Rattle.std.specs.Prelude.{◌≢◌, ℕ, Bool, false, if◌then◌else◌, ◌-◌, ◌^◌, ◌≤◌, ⊤, List, [], ◌∷◌, map, find, codes, bytes_eq, Option, Some, None, IfSome, unwrap_or, option_and_then, option_map}
use Rattle.tm_words.specs.declared.kind.Kind.{Kind}
use Rattle.tm_words.specs.declared.kind.Kind.TheVariants as kind
use Rattle.tm_words.specs.declared.command.Command.{Command}
use Rattle.tm_words.specs.declared.command.Command.TheVariants.{Trace, Record, Live, Points, Replay, Make, Load}
use Rattle.tm_words.specs.Words.{Parts, word_of, parted, values_in}
use Rattle.tm_words.specs.Numbers.{number_in, task_in}

-- the first word of each command
abbrev pub first_word : Kind → List ℕ
first_word kind.Trace = codes "trace"
first_word kind.Record = codes "record"
first_word kind.Live = codes "live"
first_word kind.Points = codes "points"
first_word kind.Replay = codes "replay"
first_word kind.Make = codes "make"
first_word kind.Load = codes "load"

-- the command that a first word chooses
unfoldable pub kind_of : List ℕ → Option Kind
kind_of word = find (λ k. bytes_eq (first_word k) word) (kind.Trace ∷ kind.Record ∷ kind.Live ∷ kind.Points ∷ kind.Replay ∷ kind.Make ∷ kind.Load ∷ [])

-- the options of each command
abbrev pub options_of : Kind → List (List ℕ)
options_of kind.Live = codes "--slices" ∷ codes "--len" ∷ codes "--tape" ∷ []
options_of kind.Replay = codes "--from" ∷ codes "--workers" ∷ []
options_of _ = []

-- a tape that would be put under the name of the dump
abbrev pub is_named : List ℕ → Option (List ℕ) → Bool
is_named dump None = false
is_named dump (Some tape) = bytes_eq tape dump

-- what a command asks for, by its names and the values of its options: a value that stands as `Some` must be
-- given
--
--     trace IMAGE PLAN
--     record IMAGE PLAN DUMP
--     live IMAGE PLANT DUMP --slices N --len L [--tape NAME]
--     points IMAGE DUMP
--     replay IMAGE DUMP --from P [--workers W]
--     make N
--     load IMAGE T ELF NEW
abbrev pub asked : Kind → List (List ℕ) → List (Option (List ℕ)) → Option Command
asked kind.Trace (image ∷ plan ∷ []) [] = Some (Trace image plan)
asked kind.Record (image ∷ plan ∷ dump ∷ []) [] = Some (Record image plan dump)
asked kind.Live (image ∷ plant ∷ dump ∷ []) (Some slices ∷ Some len ∷ tape ∷ []) =
    if is_named dump tape then None
    else option_and_then (λ count. option_map (λ size. Live image plant dump count size tape) (number_in 0 1048576 len))
    (number_in 0 1048576 slices)
asked kind.Points (image ∷ dump ∷ []) [] = Some (Points image dump)
asked kind.Replay (image ∷ dump ∷ []) (Some from ∷ workers ∷ []) =
    option_and_then (λ point. option_map (Replay image dump point) (number_in 1 16 (unwrap_or workers (codes "1"))))
    (number_in 0 (2 ^ 64 - 1) from)
asked kind.Make (number ∷ []) [] = option_map Make (number_in 0 (2 ^ 32 - 1) number)
asked kind.Load (image ∷ task ∷ executable ∷ new ∷ []) [] = option_map (λ number. Load image number executable new) (task_in task)
asked _ _ _ = None

-- the command that the parts of the words behind the first are a form of
abbrev pub form_of : Kind → Parts → Option Command
form_of kind parts = option_and_then (asked kind parts.names) (values_in (options_of kind) parts.given)

-- the command that the words are a form of
unfoldable pub command_of : List (List ℕ) → Option Command
command_of [] = None
command_of (first ∷ words) = option_and_then (λ kind. option_and_then (form_of kind) (parted (map word_of words))) (kind_of first)

-- a run beside devices has at most 1,048,576 slices of at most 1,048,576 instructions, and its tape has another name
-- than its dump; a replay has 1 to 16 workers; a task that is loaded is one of 0 to 15
abbrev pub IsInRange : Command → Type 0
IsInRange (Live image plant dump slices len tape) = (slices ≤ 1048576) × (len ≤ 1048576) × IfSome tape (λ name. name ≢ dump)
IsInRange (Replay image dump from workers) = (1 ≤ workers) × (workers ≤ 16)
IsInRange (Load image task executable new) = task ≤ 15
IsInRange _ = ⊤
