-- What the window of a script's run says of the run, by the laws of the finder, of the replay and of dumps.
use Rattle.std.proofs.Common.{◌≡◌, ℕ, ◌+◌, ◌<◌, ◌^◌, true, List, [], ◌∷◌, length, slice_get, All, Option, Some, None, Ok, IfSome, refl, sym, ap, ◌∙◌, subst}
use Rattle.std.specs.Prelude.{is_none}
use Rattle.std.specs.List.{range_with_len}
use Rattle.std.proofs.lemmas.List.Elements.{All-head, filter_passes}
use Rattle.tm_marker.specs.declared.entries.Slice.{Slice}
use Rattle.tm_image.specs.Image.{ImageView, IsImage, shape_of}
use Rattle.tm_log.specs.Window.{WindowView}
use Rattle.tm_log.specs.WellFormed.{IsWellFormed}
use Rattle.tm_points.specs.declared.finder.Lost.{Lost}
use Rattle.tm_points.specs.Finder.{lost_of}
use Rattle.tm_points.specs.Points.{is_accepted, points_of}
use Rattle.tm_system.specs.Run.{run}
use Rattle.tm_system.specs.Controls.{controls}
use Rattle.tm_system.specs.Telling.{text_of_run}
use Rattle.tm_system.specs.WindowOf.{window_of}
use Rattle.tm_system.specs.Replaying.{Fits, text_of_window}
use Rattle.tm_fidelity.specs.Fidelity.{IsFaithful}
use Rattle.tm_fidelity.proofs.Accepting.{scripts_are_found}
use Rattle.tm_fidelity.proofs.Closing.{replays_are_faithful}
use Rattle.tm_dump.specs.Dump.{dump_bytes}
use Rattle.tm_dump.specs.Reading.{window_in}
use Rattle.tm_widths.specs.Numbers.{FitsImage}
use Rattle.tm_widths.proofs.Windows.{dumps_of_runs_are_read}
use Rattle.tm_make.specs.declared.summary.Summary.{Summary}
use Rattle.tm_make.specs.Script.{make_script}
use Rattle.tm_make.specs.Summary.{points_of_run, length_from, length_told, summary_of}
use Rattle.tm_make.proofs.Slices.{length-slices, makes_script}

-- the dump of the run that a number makes is read as the run's window
pub is_read : (image other : ImageView) (number : ℕ) (w : WindowView) → IsImage image → FitsImage image → number < 2 ^ 32 →
    other ≡ image → w ≡ window_of image (run image (make_script number)) → window_in (shape_of other) (dump_bytes w) ≡ Ok w
is_read image other number w is fits small same of_run =
    let read : window_in (shape_of image) (dump_bytes w) ≡ Ok w =
    subst (λ (v : WindowView). window_in (shape_of image) (dump_bytes v) ≡ Ok v) (sym of_run)
    (dumps_of_runs_are_read image (make_script number) is fits (makes_script number small)) in
    subst (λ (i : ImageView). window_in (shape_of i) (dump_bytes w) ≡ Ok w) (sym same) read

-- it is well formed as the recorder's is
pub formed_as : (image other : ImageView) (w v : WindowView) → other ≡ image → v ≡ w → IsWellFormed w (shape_of image) → IsWellFormed v (shape_of other)
formed_as image other w v same is formed =
    subst (λ (i : ImageView). IsWellFormed v (shape_of i)) (sym same)
    (subst (λ (x : WindowView). IsWellFormed x (shape_of image)) (sym is) formed)

first_holds : (P : ℕ → Type 0) (xs : List ℕ) (x : ℕ) → All P xs → slice_get xs 0 ≡ Some x → P x
first_holds P [] x all e = cc
first_holds P (y ∷ ys) x all e =
    let same : y ≡ x = cc in
    subst P same (All-head P y ys all)

none_is : (o : Option Lost) → is_none o ≡ true → o ≡ None
none_is None e = refl
none_is (Some lost) e = cc

-- nothing is lost of the least point
pub least_found : (w : WindowView) (least : Option ℕ) → least ≡ slice_get (points_of w) 0 → IfSome least (λ point. lost_of w point ≡ None)
least_found w None e = tt
least_found w (Some point) e =
    none_is (lost_of w point)
    (first_holds (λ p. is_accepted w p ≡ true) (points_of w) point
    (filter_passes (is_accepted w) (range_with_len 0 (w.control.total + 1))) (sym e))

-- from a point of which nothing is lost, the window of the run tells the run
faithful : (image : ImageView) (script : List Slice) (w : WindowView) (point : ℕ) → IsImage image → w ≡ window_of image (run image script) →
    lost_of w point ≡ None → IsFaithful image script point
faithful image script w point is of_run found =
    replays_are_faithful image script point is
    ((scripts_are_found image script point is).0 (subst (λ (v : WindowView). lost_of v point ≡ None) of_run found))

pub least_fits : (image : ImageView) (script : List Slice) (w : WindowView) (least : Option ℕ) → IsImage image →
    w ≡ window_of image (run image script) → IfSome least (λ point. lost_of w point ≡ None) → IfSome least (λ point. Fits image w point)
least_fits image script w None is of_run found = tt
least_fits image script w (Some point) is of_run found =
    subst (λ (v : WindowView). Fits image v point) (sym of_run) (faithful image script w point is of_run found).fits

length_is : (image : ImageView) (script : List Slice) (w : WindowView) (least : Option ℕ) → IsImage image →
    w ≡ window_of image (run image script) → IfSome least (λ point. lost_of w point ≡ None) →
    length_told image w least ≡ length_from image script least
length_is image script w None is of_run found = refl
length_is image script w (Some point) is of_run found =
    ap length (ap (λ (v : WindowView). text_of_window image v point) of_run ∙ (faithful image script w point is of_run found).text)

abbrev told : ℕ → ℕ → ℕ → ℕ → Option ℕ → ℕ → Summary
told number slices entries points least bytes = record {
  number = number;
  slices = slices;
  entries = entries;
  points = points;
  least = least;
  bytes = bytes;
}

same_told : (number s e p b s2 e2 p2 b2 : ℕ) (l l2 : Option ℕ) → s ≡ s2 → e ≡ e2 → p ≡ p2 → l ≡ l2 → b ≡ b2 →
    told number s e p l b ≡ told number s2 e2 p2 l2 b2
same_told number s e p b s2 e2 p2 b2 l l2 of_s of_e of_p of_l of_b = cc

-- what the window of the run tells is the summary of the run
pub summary_is : (image : ImageView) (number entries count bytes : ℕ) (w : WindowView) (least : Option ℕ) (points : List ℕ) → IsImage image →
    w ≡ window_of image (run image (make_script number)) → entries ≡ w.control.total → points ≡ points_of w → count ≡ length points →
    least ≡ slice_get (points_of w) 0 → bytes ≡ length_told image w least →
    told number 20000 entries count least bytes ≡ summary_of image number
summary_is image number entries count bytes w least points is of_run all_entries listed all_points first told_bytes =
    let script = make_script number in
    let of_points : points_of w ≡ points_of_run image script = ap points_of of_run in
    let least_is : least ≡ slice_get (points_of_run image script) 0 = first ∙ ap (λ (ps : List ℕ). slice_get ps 0) of_points in
    same_told number 20000 entries count bytes
    (length script) (length (controls image (run image script))) (length (points_of_run image script))
    (length_from image script (slice_get (points_of_run image script) 0)) least (slice_get (points_of_run image script) 0)
    (sym (length-slices number 20000))
    (all_entries ∙ ap (λ (v : WindowView). v.control.total) of_run)
    (all_points ∙ ap length (listed ∙ of_points))
    least_is
    (told_bytes ∙ length_is image script w least is of_run (least_found w least first) ∙ ap (length_from image script) least_is)
