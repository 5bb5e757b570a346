-- What was read is the window of its parts, and no byte more.
use Rattle.std.proofs.Common.{◌≡◌, ℕ, List, length, sym, ap, ◌∙◌, subst, false, ◌==◌, if◌then◌else◌}
use Rattle.std.specs.Prelude.{Ok, Err}
use Rattle.std.proofs.lemmas.List.{length-map}
use Rattle.tm_marker.specs.declared.entries.Switch.{Switch}
use Rattle.tm_marker.specs.declared.entries.DataEntry.{DataEntry}
use Rattle.tm_marker.specs.declared.entries.OutputEntry.{OutputEntry}
use Rattle.tm_marker.specs.declared.shape.Shape.{Shape}
use Rattle.tm_marker.specs.declared.tail.Tail.{Tail}
use Rattle.tm_marker.specs.Shape.{IsShape}
use Rattle.tm_ring.specs.Kept.{Kept}
use Rattle.tm_check.specs.Checkpoint.{KeptChecks}
use Rattle.tm_lines.specs.Steps.{◌>>=◌}
use Rattle.tm_log.specs.Window.{WindowView, IsWindow, window_from}
use Rattle.tm_dump.specs.declared.fault.DumpFault.TheVariants.{Extra}
use Rattle.tm_dump.specs.Cursor.{Cursor}
use Rattle.tm_dump.specs.Reading.{fields_in, inside, whole}
use Rattle.tm_dump.specs.Made.{AreOf}

pub is_window : (shape copy : Shape) (control : Kept Switch) (outputs : Kept OutputEntry) (logs : List (Kept DataEntry)) (checks : List KeptChecks) (tail : Tail) →
    IsShape shape → copy ≡ shape → control.cap ≡ shape.caps.control → outputs.cap ≡ shape.caps.outputs →
    AreOf shape.caps shape.words logs checks → length tail.at ≡ length checks → length tail.state ≡ length checks →
    IsWindow (window_from copy control outputs logs checks tail)
is_window shape copy control outputs logs checks tail sound same control_cap output_cap made markers states =
    let number : length checks ≡ length shape.words = sym (length-map checks (λ kept. kept.words)) ∙ ap length made.check_words in
    subst (λ s. IsWindow (window_from s control outputs logs checks tail)) (sym same) (record {
      shape = sound;
      control = control_cap;
      outputs = output_cap;
      logs = made.tasks;
      log_caps = made.log_caps;
      checks = number;
      check_caps = made.check_caps;
      check_words = made.check_words;
      at = markers ∙ number;
      state = states ∙ number;
    })

pub inside_whole : (shape : Shape) (bytes : List ℕ) (window : WindowView) (after : Cursor) →
    fields_in shape (record { place = 37; left = bytes }) ≡ Ok (window, after) → length after.left ≡ 0 → inside shape bytes ≡ Ok window
inside_whole shape bytes window after is none =
    ap (λ r. r >>= whole) is ∙ ap (λ n. if n == 0 then Ok window else Err (Extra after.place)) none

pub inside_more : (shape : Shape) (bytes : List ℕ) (window : WindowView) (after : Cursor) →
    fields_in shape (record { place = 37; left = bytes }) ≡ Ok (window, after) → (length after.left == 0) ≡ false → inside shape bytes ≡ Err (Extra after.place)
inside_more shape bytes window after is some =
    ap (λ r. r >>= whole) is ∙ ap (λ b. if b then Ok window else Err (Extra after.place)) some
