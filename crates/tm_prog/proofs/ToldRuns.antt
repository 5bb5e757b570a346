-- The plain answers to `points` and `replay` on the dump of a run.
use Rattle.std.proofs.Common.{◌≡◌, ℕ, Bool, true, false, nat_le, List, length, Option, Some, None, Result, Ok, Err, refl, ap, ◌∙◌, subst, arith}
use Rattle.std.specs.Prelude.{is_none, IsOk, if◌then◌else◌}
use Rattle.std.specs.List.{flat_map}
use Rattle.std.proofs.lemmas.Bool.Decides.{nat_tests}
use Rattle.sha2.proofs.Facts256.{length-sha256}
use Rattle.tm_marker.specs.declared.entries.Slice.{Slice}
use Rattle.tm_lines.specs.declared.fault.Fault.{Fault}
use Rattle.tm_image.specs.Image.{ImageView, IsImage, image_of, image_digest, draft_of, image_with}
use Rattle.tm_lines.proofs.Steps.{bound}
use Rattle.tm_image.proofs.Wholes.{image_is}
use Rattle.tm_log.specs.Window.{WindowView}
use Rattle.tm_system.specs.Run.{run}
use Rattle.tm_system.specs.Telling.{text_of_run}
use Rattle.tm_system.specs.WindowOf.{window_of}
use Rattle.tm_system.specs.Accepted.{IsAccepted}
use Rattle.tm_system.specs.declared.diverged.Diverged.{Diverged}
use Rattle.tm_system.specs.Tracing.{Tracing}
use Rattle.tm_system.specs.Replaying.{replayed, text_of_window}
use Rattle.tm_points.specs.declared.finder.Lost.{Lost}
use Rattle.tm_points.specs.Finder.{lost_of}
use Rattle.tm_points.specs.Points.{is_accepted, points_of}
use Rattle.tm_widths.specs.Numbers.{FitsImage}
use Rattle.tm_widths.specs.Legible.{IsScript}
use Rattle.tm_widths.proofs.Images.{images_fit}
use Rattle.tm_widths.proofs.Windows.{dumps_of_runs_are_read}
use Rattle.tm_widths.proofs.Shortness.{dumps_of_runs_are_short}
use Rattle.tm_fidelity.proofs.Accepting.{scripts_are_found}
use Rattle.tm_fidelity.proofs.Closing.{replays_are_faithful}
use Rattle.tm_prog.specs.declared.limits.TheConstants.{IMAGE_LIMIT, DUMP_LIMIT}
use Rattle.tm_prog.specs.declared.status.Status.{Status}
use Rattle.tm_prog.specs.declared.status.Status.TheVariants.{Image, Point, TooLong}
use Rattle.tm_prog.specs.Made.{prints, text_alone}
use Rattle.tm_prog.specs.Reads.{◌>>=◌}
use Rattle.tm_prog.specs.Files.{said, image_said, image_in, window_file_in}
use Rattle.tm_prog.specs.RecordCommand.{dump_of_run}
use Rattle.tm_prog.specs.PointsCommand.{points_made, point_line}
use Rattle.tm_prog.specs.ReplayCommand.{told_from, unless_lost, replay_made}
use Rattle.tm_prog.specs.RunDumps.{HaveDumpOfRun, RunDumpsFit, AreAccepted}

-- what a text's lines make is an image
pub image_read_is : (bytes : List ℕ) (image : ImageView) → image_of bytes ≡ Ok image → IsImage image
unfolding image_of image_digest
image_read_is bytes image e =
    let d = bound (draft_of bytes) (λ d. Ok (image_with (image_digest bytes) d)) image e in
    let same : image_with (image_digest bytes) d.0 ≡ image = cc d.1.1 in
    subst IsImage same (image_is bytes (image_digest bytes) d.0 d.1.0 (length-sha256 bytes))

said_read : (r : Result ImageView Fault) (image : ImageView) → Some (said Image r) ≡ Some (Ok image) → r ≡ Ok image
said_read (Ok read) image e = cc
said_read (Err fault) image e = cc

-- the image of a first file: its bytes, and what they spell
pub record SpellsImage (file : Option (List ℕ)) (image : ImageView) : Type 0 where
  pub bytes : List ℕ
  pub there : file ≡ Some bytes
  pub spelled : image_of bytes ≡ Ok image

within_spells : (bytes : List ℕ) (image : ImageView) (within : Bool) →
    Some (if within then image_said bytes else Err (TooLong 1)) ≡ Some (Ok image) → image_of bytes ≡ Ok image
within_spells bytes image true e = said_read (image_of bytes) image e
within_spells bytes image false e = cc

spells_image : (file : Option (List ℕ)) (image : ImageView) → image_in file ≡ Some (Ok image) → SpellsImage file image
spells_image None image e = cc
spells_image (Some bytes) image e = record {
  bytes = bytes;
  there = refl;
  spelled = within_spells bytes image (nat_le (length bytes) IMAGE_LIMIT) e;
}

-- an image of a file is one, with numbers of 32 bits
file_fits : (file : Option (List ℕ)) (image : ImageView) → image_in file ≡ Some (Ok image) → FitsImage image
file_fits file image e =
    let s = spells_image file image e in images_fit s.bytes image s.spelled

pub file_is_image : (file : Option (List ℕ)) (image : ImageView) → image_in file ≡ Some (Ok image) → IsImage image
file_is_image file image e =
    let s = spells_image file image e in image_read_is s.bytes image s.spelled

pub run_dumps_fit : RunDumpsFit
run_dumps_fit = dumps_of_runs_are_short

-- the dump of a run is read as the run's window
dump_read : (image : ImageView) (script : List Slice) → IsImage image → FitsImage image → IsScript script →
    window_file_in image (Some (dump_of_run image script)) ≡ Some (Ok (window_of image (run image script)))
dump_read image script is fits script_is =
    let within = run_dumps_fit image script is fits script_is in
    let short : nat_le (length (dump_of_run image script)) DUMP_LIMIT ≡ true = grind (arith, nat_tests) in
    rw (short, dumps_of_runs_are_read image script is fits script_is) refl

-- how the two files of a call are read where the second is the dump of a run
pub files_read : {A : Type 0} (content : List ℕ → Option (List ℕ)) (image_name dump_name : List ℕ) (image : ImageView) (script : List Slice)
    (next : ImageView → WindowView → Option (Result A Status)) → HaveDumpOfRun content image_name dump_name image script →
    (image_in (content image_name) >>= λ i. window_file_in i (content dump_name) >>= λ w. next i w) ≡ next image (window_of image (run image script))
files_read content image_name dump_name image script next h =
    let is = file_is_image (content image_name) image h.image_there in
    rw (h.image_there, h.dump_there, dump_read image script is (file_fits (content image_name) image h.image_there) h.script_is) refl

-- a window that fits tells its text
pub fits_tell : (image : ImageView) (w : WindowView) (point : ℕ) (r : Result (List Tracing) Diverged) → IsOk r →
    told_from image w point r ≡ Ok (text_alone (text_of_window image w point))
fits_tell image w point (Ok tracings) fits = refl
fits_tell image w point (Err found) fits = cc

told : (image : ImageView) (script : List Slice) (point : ℕ) → IsImage image → IsAccepted image (run image script) point →
    told_from image (window_of image (run image script)) point (replayed image (window_of image (run image script)) point)
    ≡ Ok (text_alone (text_of_run image script point))
told image script point is accepted =
    let f = replays_are_faithful image script point is accepted in
    fits_tell image (window_of image (run image script)) point _ f.fits ∙ ap (λ text. Ok (text_alone text)) f.text

-- from an accepted point the text is the run's
pub replay_accepted : (content : List ℕ → Option (List ℕ)) (image_name dump_name : List ℕ) (image : ImageView) (script : List Slice) (point : ℕ) →
    HaveDumpOfRun content image_name dump_name image script → IsAccepted image (run image script) point →
    replay_made content image_name dump_name point ≡ prints (text_of_run image script point)
replay_accepted content image_name dump_name image script point h accepted =
    let is = file_is_image (content image_name) image h.image_there in
    files_read content image_name dump_name image script (λ i w. Some (unless_lost i w point (lost_of w point))) h ∙
    ap (λ lost. Some (unless_lost image (window_of image (run image script)) point lost)) ((scripts_are_found image script point is).1 accepted) ∙
    ap Some (told image script point is accepted)

-- a point from which the run can't be replayed is refused
pub replay_lost : (content : List ℕ → Option (List ℕ)) (image_name dump_name : List ℕ) (image : ImageView) (script : List Slice) (point : ℕ) (lost : Lost) →
    HaveDumpOfRun content image_name dump_name image script → lost_of (window_of image (run image script)) point ≡ Some lost →
    replay_made content image_name dump_name point ≡ Some (Err (Point lost))
replay_lost content image_name dump_name image script point lost h is_lost =
    files_read content image_name dump_name image script (λ i w. Some (unless_lost i w point (lost_of w point))) h ∙
    ap (λ lost. Some (unless_lost image (window_of image (run image script)) point lost)) is_lost

-- the points of the dump of a run
pub points_listed : (content : List ℕ → Option (List ℕ)) (image_name dump_name : List ℕ) (image : ImageView) (script : List Slice) →
    HaveDumpOfRun content image_name dump_name image script →
    points_made content image_name dump_name ≡ prints (flat_map point_line (points_of (window_of image (run image script))))
points_listed content image_name dump_name image script h =
    files_read content image_name dump_name image script (λ i w. prints (flat_map point_line (points_of w))) h

none_is : (o : Option Lost) → is_none o ≡ true → o ≡ None
none_is None e = refl
none_is (Some lost) e = cc

pub points_accepted : (image : ImageView) (script : List Slice) → IsImage image → AreAccepted image script (points_of (window_of image (run image script)))
points_accepted image script is = record {
  test = is_accepted (window_of image (run image script));
  exactly = λ point. (
    λ passes. (scripts_are_found image script point is).0 (none_is _ passes),
    λ accepted. ap is_none ((scripts_are_found image script point is).1 accepted),
  );
  listed = refl;
}
