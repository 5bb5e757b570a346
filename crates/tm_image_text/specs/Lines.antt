-- How each line of an image's text is spelled. Numbers are decimal, words are eight lower-case hexadecimal
-- digits, one space stands between two tokens, and every line ends with LF.
use Rattle.std.specs.Prelude.{ℕ, Bool, false, List, [], ◌∷◌, ◌++◌, ◌==◌, ◌&&◌, length, map, filter, flat_map, codes, decimal, if◌then◌else◌}
use Rattle.std.specs.List.{range_with_len}
use Rattle.std.specs.Int.{bit_at}
use Rattle.tm_kernel.specs.declared.spec.Action.{Action}
use Rattle.tm_kernel.specs.declared.spec.Action.TheVariants.{Nothing, Tick, Activate, Event}
use Rattle.tm_kernel.specs.declared.spec.TaskSpec.{TaskSpec}
use Rattle.tm_spelling.specs.Lines.{hex8, line}
use Rattle.tm_image.specs.Draft.{is_given}

-- a space and a token
abbrev pub spaced : List ℕ → List ℕ
spaced token = 32 ∷ token

-- a line of these tokens, the first and the others
abbrev pub line_of : List ℕ → List (List ℕ) → List ℕ
line_of first others = line (first ++ flat_map spaced others)

-- whether a task is extended
abbrev pub kind_name : Bool → List ℕ
kind_name extended = if extended then codes "extended" else codes "basic"

-- whether a task is ready at boot
abbrev pub start_name : Bool → List ℕ
start_name auto = if auto then codes "auto" else codes "off"

-- task N KIND PRIO START ENTRY WORDS
unfoldable pub task_line : ℕ → TaskSpec → ℕ → ℕ → List ℕ
task_line number task entry words =
    line_of (codes "task")
    (decimal number ∷ kind_name task.extended ∷ decimal task.priority ∷ start_name task.auto ∷ decimal entry ∷ decimal words ∷ [])

-- text N W .., with all words
unfoldable pub text_line : ℕ → List ℕ → List ℕ
text_line number words = line_of (codes "text") (decimal number ∷ map hex8 words)

-- a word, and what stands behind it; nothing, where that is nothing and the word is 0
abbrev pub onto_used : ℕ → List ℕ → List ℕ
onto_used word behind = if word == 0 && length behind == 0 then [] else word ∷ behind

-- the words up to the last that is not 0
abbrev pub used : List ℕ → List ℕ
used [] = []
used (word ∷ words) = onto_used word (used words)

-- data N 0 W .., up to the last word that is not 0; no line, where there is none
unfoldable pub data_line : ℕ → List ℕ → List ℕ
data_line number words =
    if length (used words) == 0 then []
    else line_of (codes "data") (decimal number ∷ codes "0" ∷ map hex8 (used words))

-- the tasks that a mask names, rising
unfoldable pub users_of : ℕ → List ℕ
users_of mask = filter (λ task. bit_at mask task == 1) (range_with_len 0 16)

-- resource N T .., with the users rising
unfoldable pub resource_line : ℕ → ℕ → List ℕ
resource_line number mask = line_of (codes "resource") (decimal number ∷ map decimal (users_of mask))

-- tick, activate T, or event T MASK
abbrev pub action_tokens : Action → List (List ℕ)
action_tokens Nothing = []
action_tokens Tick = codes "tick" ∷ []
action_tokens (Activate task) = codes "activate" ∷ decimal task ∷ []
action_tokens (Event task mask) = codes "event" ∷ decimal task ∷ decimal mask ∷ []

-- alarm N ACTION
unfoldable pub alarm_line : ℕ → Action → List ℕ
alarm_line number action = line_of (codes "alarm") (decimal number ∷ action_tokens action)

-- box N CAP
unfoldable pub box_line : ℕ → ℕ → List ℕ
box_line number capacity = line_of (codes "box") (decimal number ∷ decimal capacity ∷ [])

-- line L ACTION; no line, where there is no action
unfoldable pub action_line : ℕ → Action → List ℕ
action_line number action =
    if is_given action then line_of (codes "line") (decimal number ∷ action_tokens action) else []

-- ring WHAT N
unfoldable pub ring_line : List ℕ → ℕ → List ℕ
ring_line name capacity = line_of (codes "ring") (name ∷ decimal capacity ∷ [])
