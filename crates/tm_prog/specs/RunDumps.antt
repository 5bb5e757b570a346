-- What `points` and `replay` do on the dump of a run: they tell the run itself.
use Rattle.std.specs.Prelude.{◌≡◌, ℕ, ◌+◌, ◌≤◌, ◌⊎◌, ◌↔◌, Bool, true, List, length, filter, Option, Some, Ok}
use Rattle.std.specs.List.{range_with_len, flat_map}
use Rattle.tm_marker.specs.declared.entries.Slice.{Slice}
use Rattle.tm_image.specs.Image.{ImageView, IsImage}
use Rattle.tm_system.specs.Run.{run}
use Rattle.tm_system.specs.Controls.{controls}
use Rattle.tm_system.specs.Telling.{text_of_run}
use Rattle.tm_system.specs.Accepted.{IsAccepted}
use Rattle.tm_widths.specs.Numbers.{FitsImage}
use Rattle.tm_widths.specs.Legible.{IsScript}
use Rattle.tm_prog.specs.declared.limits.TheConstants.{DUMP_LIMIT}
use Rattle.tm_prog.specs.declared.status.Status.{Status}
use Rattle.tm_prog.specs.declared.status.Status.TheVariants as status
use Rattle.tm_words.specs.declared.command.Command.{Command}
use Rattle.tm_words.specs.declared.command.Command.TheVariants.{Points, Replay}
use Rattle.tm_prog.specs.Made.{MadeView, text_alone}
use Rattle.tm_prog.specs.Files.{image_in}
use Rattle.tm_prog.specs.RecordCommand.{dump_of_run}
use Rattle.tm_prog.specs.PointsCommand.{point_line}
use Rattle.tm_prog.specs.World.{World, all_done, IsHalfDone, IsReady}
use Rattle.tm_prog.specs.Outcome.{NoneRose, IsDone}

-- the files have an image, and the dump of a script's run on it
pub record HaveDumpOfRun (content : List ℕ → Option (List ℕ)) (image_name dump_name : List ℕ) (image : ImageView) (script : List Slice) : Type 0 where
  pub image_there : image_in (content image_name) ≡ Some (Ok image)
  pub dump_there : content dump_name ≡ Some (dump_of_run image script)
  pub script_is : IsScript script

-- the dump of every run is within the limit of a dump's file
abbrev pub RunDumpsFit : Type 0
RunDumpsFit = (image : ImageView) (script : List Slice) → IsImage image → FitsImage image → IsScript script →
    length (dump_of_run image script) ≤ DUMP_LIMIT

-- the call asks for a replay of the dump of a run, from a point, by any number of workers
pub record IsReplayOf (command : Option Command) (content : List ℕ → Option (List ℕ)) (image : ImageView) (script : List Slice) (point : ℕ) : Type 0 where
  pub image_name : List ℕ
  pub dump_name : List ℕ
  pub workers : ℕ
  pub asked : command ≡ Some (Replay image_name dump_name point workers)
  pub files : HaveDumpOfRun content image_name dump_name image script

-- the call asks for the points of the dump of a run
pub record IsListOf (command : Option Command) (content : List ℕ → Option (List ℕ)) (image : ImageView) (script : List Slice) : Type 0 where
  pub image_name : List ℕ
  pub dump_name : List ℕ
  pub asked : command ≡ Some (Points image_name dump_name)
  pub files : HaveDumpOfRun content image_name dump_name image script

-- the text was written, or a proper beginning of it after a fault of writing; a fault of reading and want of
-- memory may come in its place, and no refusal
abbrev pub TellsText : Status → List ℕ → World → World → Type 0
TellsText status.Ok text before after = after ≡ all_done (text_alone text) before
TellsText status.WriteFault text before after = IsHalfDone (text_alone text) before after
TellsText status.ReadFault text before after = Unit {0}
TellsText status.Memory text before after = Unit {0}
TellsText _ text before after = ⊥

-- with Ok the run can be replayed from the point, and the sink gained exactly the text of the run from there;
-- the point is refused only where the run can't be replayed from it; and there is no other refusal
abbrev pub TellsRun : Status → ImageView → List Slice → ℕ → World → World → Type 0
TellsRun status.Ok image script point before after =
    IsAccepted image (run image script) point × (after ≡ all_done (text_alone (text_of_run image script point)) before)
TellsRun status.WriteFault image script point before after =
    IsAccepted image (run image script) point × IsHalfDone (text_alone (text_of_run image script point)) before after
TellsRun (status.Point lost) image script point before after = ¬ IsAccepted image (run image script) point
TellsRun status.ReadFault image script point before after = Unit {0}
TellsRun status.Memory image script point before after = Unit {0}
TellsRun _ image script point before after = ⊥

-- no count rose in the call, or all was ready before it
abbrev pub IsQuiet : MadeView → World → World → Type 0
IsQuiet made before after = NoneRose before after ⊎ IsReady made before

-- a replay of the dump of a run tells the run; and from each point from which the run can be replayed it is
-- done in a quiet call, unless memory is wanting
pub record ReplaysRun (status : Status) (image : ImageView) (script : List Slice) (point : ℕ) (before after : World) : Type 0 where
  pub tells : TellsRun status image script point before after
  pub done : IsAccepted image (run image script) point →
      IsQuiet (text_alone (text_of_run image script point)) before after → IsDone status

-- the points of a run, from 0 up to the number of its control entries, from which it can be replayed
pub record AreAccepted (image : ImageView) (script : List Slice) (points : List ℕ) : Type 0 where
  pub test : ℕ → Bool
  pub exactly : (point : ℕ) → (test point ≡ true) ↔ IsAccepted image (run image script) point
  pub listed : points ≡ filter test (range_with_len 0 (length (controls image (run image script)) + 1))

-- the points of the dump of a run are those from which the run can be replayed, rising
pub record ListsRun (status : Status) (image : ImageView) (script : List Slice) (before after : World) : Type 0 where
  pub points : List ℕ
  pub accepted : AreAccepted image script points
  pub tells : TellsText status (flat_map point_line points) before after
  pub done : IsQuiet (text_alone (flat_map point_line points)) before after → IsDone status
