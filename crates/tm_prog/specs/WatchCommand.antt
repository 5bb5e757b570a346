-- What `watch IMAGE PLANT PREFIX --slices N --len L --observers K --looks M` puts and prints.
use Rattle.std.specs.Prelude.{◌≡◌, ℕ, ◌+◌, List, [], ◌∷◌, ◌++◌, length, map, codes, decimal, All}
use Rattle.std.specs.List.{range_with_len}
use mathlib.Core.List.{IsPrefix}
use Rattle.tm_marker.specs.declared.entries.Slice.{Slice}
use Rattle.tm_image.specs.Image.{ImageView}
use Rattle.tm_irq.specs.declared.audit.Audit.{Audit}
use Rattle.tm_audit.specs.Text.{audit_text}
use Rattle.tm_run_dump.specs.RunDump.{dump_of_run}
use Rattle.tm_words.specs.declared.command.WatchCommand.{WatchCommand}
use Rattle.tm_prog.specs.Made.{PutView, MadeView}

-- the name of what the observer of a number saw last beside the run
abbrev pub observer_name : List ℕ → ℕ → List ℕ
observer_name prefix number = prefix ++ codes "." ++ decimal number

-- the name of what was seen after the run
abbrev pub end_name : List ℕ → List ℕ
end_name prefix = prefix ++ codes ".end"

-- the names that are put, in this order
abbrev pub watch_names : List ℕ → ℕ → List (List ℕ)
watch_names prefix observers = map (observer_name prefix) (range_with_len 0 observers) ++ end_name prefix ∷ []

-- dumps under names, as long as there are both
abbrev pub puts_under : List (List ℕ) → List (List ℕ) → List PutView
puts_under (name ∷ names) (bytes ∷ dumps) = record { name = name; bytes = bytes } ∷ puts_under names dumps
puts_under _ _ = []

-- for each observer the dump of a beginning of the tape, then that of the whole tape, and the audit of the closing
pub record IsWatchMade (asked : WatchCommand) (image : ImageView) (tape : List Slice) (audit : Audit) (made : MadeView) : Type 0 where
  pub seen : List (List Slice)
  pub each : length seen ≡ asked.observers
  pub beginnings : All (λ list. IsPrefix list tape) seen
  pub puts : made.puts ≡ puts_under (watch_names asked.prefix asked.observers) (map (dump_of_run image) seen ++ dump_of_run image tape ∷ [])
  pub text : made.text ≡ audit_text asked.slices audit
