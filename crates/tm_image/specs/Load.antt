-- What a task is loaded from, and how the lines `text` and `data` change it.
use Rattle.std.specs.Prelude.{ℕ, ◌+◌, ◌*◌, Bool, false, not, List, ◌++◌, length, take, drop, slice_get, slice_set, ◌==◌, nat_lt, Option, Some, None, Result, Ok, Err}
use Rattle.tm_marker.specs.declared.shape.TheConstants.{MOST_WORDS}
use Rattle.tm_rv.specs.declared.instr.Set.{Set}
use Rattle.tm_lines.specs.declared.fault.Reason.{Reason}
use Rattle.tm_lines.specs.declared.fault.Reason.TheVariants.{Range}
use Rattle.tm_image.specs.declared.said.TextLine.{TextLine}
use Rattle.tm_image.specs.declared.said.DataLine.{DataLine}
use Rattle.tm_lines.specs.Steps.{◌>>=◌, tested}

-- what a task is loaded from: the address of its first instruction, the words of its text with the set of
-- the instructions that they may be, and its data words at boot
pub record Load : Type 0 where
  pub entry : ℕ
  pub text : List ℕ
  pub set : Set
  pub words : List ℕ

-- the task has no text
abbrev pub has_no_text : Load → Bool
has_no_text load = length load.text == 0

-- the entry is no address in the text
abbrev pub is_outside : Load → Bool
is_outside load = not (nat_lt load.entry (4 * length load.text))

-- a task's text with more words at its end, within the most that a task may have; there must be such a task
abbrev pub more_text : List ℕ → Option Load → Result Load Reason
more_text words None = Err Range
more_text words (Some load) = tested
    false
    false
    (nat_lt MOST_WORDS (length load.text + length words))
    (record load { text = load.text ++ words })

-- the loads, with the words of a line `text`
abbrev pub with_text : List Load → TextLine → Result (List Load) Reason
with_text loads t = do
  load ← more_text t.words (slice_get loads t.number)
  Ok (slice_set loads t.number load)

-- the words, where from an offset on there are others
abbrev pub written : List ℕ → ℕ → List ℕ → List ℕ
written words offset others = take offset words ++ others ++ drop (offset + length others) words

-- a task's data words, of which those from an offset on are others; there must be such a task, with so
-- many data words
abbrev pub new_data : ℕ → List ℕ → Option Load → Result Load Reason
new_data offset words None = Err Range
new_data offset words (Some load) = tested
    (nat_lt (length load.words) (offset + length words))
    false
    false
    (record load { words = written load.words offset words })

-- the loads, with the words of a line `data`
abbrev pub with_data : List Load → DataLine → Result (List Load) Reason
with_data loads t = do
  load ← new_data t.offset t.words (slice_get loads t.number)
  Ok (slice_set loads t.number load)
