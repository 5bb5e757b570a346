-- A replay of the window of a script's run tells what the run did.
use Rattle.std.proofs.Common.{◌≡◌, ℕ, ◌<◌, List, [], length, refl, ap, sym, ◌∙◌, subst, arith, get_or}
use Rattle.std.specs.Prelude.{Result, Ok, IsOk}
use Rattle.std.proofs.lemmas.Option.{slice_get-get_or}
use Rattle.tm_marker.specs.declared.entries.Slice.{Slice}
use Rattle.tm_check.specs.Checkpoint.{Checkpoint}
use Rattle.tm_spelling.specs.Story.{spelled}
use Rattle.tm_image.specs.Image.{ImageView}
use Rattle.tm_system.specs.declared.diverged.Diverged.{Diverged}
use Rattle.tm_system.specs.History.{History}
use Rattle.tm_system.specs.Run.{run, no_body}
use Rattle.tm_system.specs.Marks.{epochs}
use Rattle.tm_system.specs.Controls.{checkpoints}
use Rattle.tm_system.specs.Telling.{text_of_run}
use Rattle.tm_system.specs.Accepted.{CanGoOnFrom, IsAccepted}
use Rattle.tm_system.specs.WindowOf.{window_of}
use Rattle.tm_system.specs.Tracing.{Tracing}
use Rattle.tm_system.specs.Replaying.{replayed, text_of_window}
use Rattle.tm_system.proofs.Texts.{upto_boot}
use Rattle.tm_system.proofs.Counts.{checkpoints_count}
use Rattle.tm_fidelity.specs.Fidelity.{IsFaithful, IsWhole}
use Rattle.tm_fidelity.proofs.Fitting.{IsReplay}

is_ok : (r : Result (List Tracing) Diverged) (x : List Tracing) → r ≡ Ok x → IsOk r
is_ok r x e = subst IsOk (sym e) refl

texts_are : (image : ImageView) (script : List Slice) (p : ℕ) → IsReplay image (run image script) p →
    text_of_window image (window_of image (run image script)) p ≡ text_of_run image script p
unfolding text_of_window text_of_run
texts_are image script p r = ap spelled r.tells

pub faithful : (image : ImageView) (script : List Slice) (p : ℕ) → IsReplay image (run image script) p → IsFaithful image script p
faithful image script p r = record {
  fits = is_ok (replayed image (window_of image (run image script)) p) r.tracings r.fits;
  text = texts_are image script p r;
}

-- where nothing was dropped, the run can be replayed from boot
no_epochs : (t : ℕ) → epochs t [] ≡ 0
unfolding epochs
no_epochs t = refl

pub boot_accepted : (image : ImageView) (h : History) → IsWhole image h → IsAccepted image h 0
boot_accepted image h whole = record {
  reached = omega arith;
  entry = whole.controls;
  tasks = λ t below. subst (CanGoOnFrom image h t) (sym (ap (epochs t) (upto_boot image h) ∙ no_epochs t)) (go_on t below);
}
  where
    go_on : (t : ℕ) → t < length image.loads → CanGoOnFrom image h t 0
    go_on t below =
        let none : Checkpoint = record { body = no_body; data_number = 0; control_number = 0 } in
        record {
          check = get_or (checkpoints image t h) 0 none;
          taken = slice_get-get_or (checkpoints image t h) 0 none (omega (arith, checkpoints_count image t h));
          kept = omega (arith, whole.checks t below);
          entries = λ number since made. omega (arith, whole.entries t below);
        }
