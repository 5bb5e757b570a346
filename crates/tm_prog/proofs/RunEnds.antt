-- How calls of `points` and `replay` end on the dump of a run.
use Rattle.std.proofs.Common.{◌≡◌, ℕ, List, Option, Some, None, Ok, Err, IsTrue, inl, inr, refl, ap, ◌∙◌, subst}
use Rattle.std.specs.List.{flat_map}
use Rattle.tm_marker.specs.declared.entries.Slice.{Slice}
use Rattle.tm_image.specs.Image.{ImageView}
use Rattle.tm_system.specs.Run.{run}
use Rattle.tm_system.specs.WindowOf.{window_of}
use Rattle.tm_system.specs.Telling.{text_of_run}
use Rattle.tm_system.specs.Accepted.{IsAccepted}
use Rattle.tm_points.specs.declared.finder.Lost.{Lost}
use Rattle.tm_points.specs.Finder.{lost_of}
use Rattle.tm_points.specs.Points.{points_of}
use Rattle.tm_prog.specs.declared.status.Status.{Status}
use Rattle.tm_prog.specs.declared.status.Status.TheVariants as status
use Rattle.tm_words.specs.declared.command.Command.{Command}
use Rattle.tm_words.specs.declared.command.Command.TheVariants.{Points, Replay}
use Rattle.tm_prog.specs.Class.{class_of}
use Rattle.tm_prog.specs.Gained.{Gained}
use Rattle.tm_prog.specs.Made.{MadeView, prints, text_alone}
use Rattle.tm_prog.specs.Answer.{answer_of}
use Rattle.tm_prog.specs.PointsCommand.{point_line}
use Rattle.tm_prog.specs.World.{World, all_done, IsHalfDone, IsReady}
use Rattle.tm_prog.specs.Outcome.{Ends, IsAnswer, NoneRose, IsDone}
use Rattle.tm_prog.specs.RunDumps.{IsReplayOf, IsListOf, TellsText, TellsRun, IsQuiet, ReplaysRun, ListsRun}
use Rattle.tm_prog.proofs.ToldRuns.{file_is_image, replay_accepted, replay_lost, points_listed, points_accepted}
use Rattle.tm_fidelity.proofs.Accepting.{scripts_are_found}

-- the plain answer to the call is this text
pub record IsText (command : Option Command) (gained : Gained) (before : World) (text : List ℕ) : Type 0 where
  pub asks : Command
  pub command_is : command ≡ Some asks
  pub tells : IsTrue before.shelf.tells
  pub plain : answer_of command gained before.shelf.content ≡ prints text

-- what was made is that text
same_made : (command : Option Command) (gained : Gained) (before : World) (text : List ℕ) (made : MadeView) → IsText command gained before text →
    (IsTrue before.shelf.tells → answer_of command gained before.shelf.content ≡ Some (Ok made)) → made ≡ text_alone text
same_made command gained before text made t told = let is = told t.tells in let plain = t.plain in cc

made_told : (command : Option Command) (gained : Gained) (made : MadeView) (before : World) → IsAnswer command gained made before →
    IsTrue before.shelf.tells → answer_of command gained before.shelf.content ≡ Some (Ok made)
made_told None gained made before none = absurd none
made_told (Some command) gained made before is = is.1

-- how a call ends whose plain answer is a text
pub ends_text : (s : Status) (command : Option Command) (gained : Gained) (before after : World) (text : List ℕ) → IsText command gained before text →
    Ends (class_of s) s command gained before after → TellsText s text before after
ends_text status.Ok command gained before after text t e =
    subst (λ made. after ≡ all_done made before) (same_made command gained before text e.0 t (made_told command gained e.0 before e.1)) e.2
ends_text status.WriteFault command gained before after text t e =
    subst (λ made. IsHalfDone made before after) (same_made command gained before text e.0 t (made_told command gained e.0 before e.1)) e.2
ends_text status.Words command gained before after text t e = let asks = t.command_is in let none = e.1 in cc
ends_text status.ReadFault command gained before after text t e = tt
ends_text status.Memory command gained before after text t e = tt
ends_text (status.Image fault) command gained before after text t e = let plain = t.plain in let refused = e.0.2 t.tells in cc
ends_text (status.Plan fault) command gained before after text t e = let plain = t.plain in let refused = e.0.2 t.tells in cc
ends_text (status.Dump fault) command gained before after text t e = let plain = t.plain in let refused = e.0.2 t.tells in cc
ends_text (status.Point lost) command gained before after text t e = let plain = t.plain in let refused = e.0.2 t.tells in cc
ends_text (status.Diverged found) command gained before after text t e = let plain = t.plain in let refused = e.0.2 t.tells in cc
ends_text (status.TooLong file) command gained before after text t e = let plain = t.plain in let refused = e.0.2 t.tells in cc
ends_text (status.Elf fault) command gained before after text t e = let plain = t.plain in let refused = e.0.2 t.tells in cc
ends_text (status.NoTask number) command gained before after text t e = let plain = t.plain in let refused = e.0.2 t.tells in cc

-- where the run can be replayed from the point
from_accepted : (s : Status) (image : ImageView) (script : List Slice) (point : ℕ) (before after : World) →
    IsAccepted image (run image script) point → TellsText s (text_of_run image script point) before after → TellsRun s image script point before after
from_accepted status.Ok image script point before after accepted t = (accepted, t)
from_accepted status.WriteFault image script point before after accepted t = (accepted, t)
from_accepted status.Words image script point before after accepted t = absurd t
from_accepted status.ReadFault image script point before after accepted t = tt
from_accepted status.Memory image script point before after accepted t = tt
from_accepted (status.Image fault) image script point before after accepted t = absurd t
from_accepted (status.Plan fault) image script point before after accepted t = absurd t
from_accepted (status.Dump fault) image script point before after accepted t = absurd t
from_accepted (status.Point lost) image script point before after accepted t = absurd t
from_accepted (status.Diverged found) image script point before after accepted t = absurd t
from_accepted (status.TooLong file) image script point before after accepted t = absurd t
from_accepted (status.Elf fault) image script point before after accepted t = absurd t
from_accepted (status.NoTask number) image script point before after accepted t = absurd t

-- the plain answer to the call is that the point is refused
record IsLost (command : Option Command) (gained : Gained) (before : World) (lost : Lost) : Type 0 where
  asks : Command
  command_is : command ≡ Some asks
  tells : IsTrue before.shelf.tells
  plain : answer_of command gained before.shelf.content ≡ Some (Err (status.Point lost))

-- where it can't
from_lost : (s : Status) (command : Option Command) (gained : Gained) (image : ImageView) (script : List Slice) (point : ℕ) (before after : World) (lost : Lost) →
    ¬ IsAccepted image (run image script) point → IsLost command gained before lost → Ends (class_of s) s command gained before after →
    TellsRun s image script point before after
from_lost status.Ok command gained image script point before after lost not l e =
    let plain = l.plain in let made = made_told command gained e.0 before e.1 l.tells in cc
from_lost status.WriteFault command gained image script point before after lost not l e =
    let plain = l.plain in let made = made_told command gained e.0 before e.1 l.tells in cc
from_lost status.Words command gained image script point before after lost not l e = let asks = l.command_is in let none = e.1 in cc
from_lost status.ReadFault command gained image script point before after lost not l e = tt
from_lost status.Memory command gained image script point before after lost not l e = tt
from_lost (status.Image fault) command gained image script point before after lost not l e = let plain = l.plain in let refused = e.0.2 l.tells in cc
from_lost (status.Plan fault) command gained image script point before after lost not l e = let plain = l.plain in let refused = e.0.2 l.tells in cc
from_lost (status.Dump fault) command gained image script point before after lost not l e = let plain = l.plain in let refused = e.0.2 l.tells in cc
from_lost (status.Point other) command gained image script point before after lost not l e = not
from_lost (status.Diverged found) command gained image script point before after lost not l e = let plain = l.plain in let refused = e.0.2 l.tells in cc
from_lost (status.TooLong file) command gained image script point before after lost not l e = let plain = l.plain in let refused = e.0.2 l.tells in cc
from_lost (status.Elf fault) command gained image script point before after lost not l e = let plain = l.plain in let refused = e.0.2 l.tells in cc
from_lost (status.NoTask number) command gained image script point before after lost not l e = let plain = l.plain in let refused = e.0.2 l.tells in cc

replay_is_text : (command : Option Command) (gained : Gained) (image : ImageView) (script : List Slice) (point : ℕ) (before : World) →
    IsTrue before.shelf.tells → IsReplayOf command before.shelf.content image script point → IsAccepted image (run image script) point →
    IsText command gained before (text_of_run image script point)
replay_is_text command gained image script point before tells r accepted = record {
  asks = Replay r.image_name r.dump_name point r.workers;
  command_is = r.asked;
  tells = tells;
  plain = ap (λ (q : Option Command). answer_of q gained before.shelf.content) r.asked ∙
      replay_accepted before.shelf.content r.image_name r.dump_name image script point r.files accepted;
}

replay_ends : (s : Status) (command : Option Command) (gained : Gained) (image : ImageView) (script : List Slice) (point : ℕ) (before after : World) →
    IsTrue before.shelf.tells → IsReplayOf command before.shelf.content image script point → Ends (class_of s) s command gained before after →
    (lost : Option Lost) → lost_of (window_of image (run image script)) point ≡ lost → TellsRun s image script point before after
replay_ends s command gained image script point before after tells r e None is =
    let image_is = file_is_image (before.shelf.content r.image_name) image r.files.image_there in
    let accepted = (scripts_are_found image script point image_is).0 is in
    from_accepted s image script point before after accepted
    (ends_text s command gained before after (text_of_run image script point) (replay_is_text command gained image script point before tells r accepted) e)
replay_ends s command gained image script point before after tells r e (Some lost) is =
    let image_is = file_is_image (before.shelf.content r.image_name) image r.files.image_there in
    from_lost s command gained image script point before after lost
    (λ accepted. let none = (scripts_are_found image script point image_is).1 accepted in cc)
    (record {
      asks = Replay r.image_name r.dump_name point r.workers;
      command_is = r.asked;
      tells = tells;
      plain = ap (λ (q : Option Command). answer_of q gained before.shelf.content) r.asked ∙
          replay_lost before.shelf.content r.image_name r.dump_name image script point lost r.files is;
    })
    e

-- a call that is quiet, and whose plain answer is a text, is done
pub record Completes (s : Status) (command : Option Command) (gained : Gained) (before after : World) : Type 0 where
  pub undisturbed : IsTrue before.shelf.tells → (made : MadeView) → answer_of command gained before.shelf.content ≡ Some (Ok made) → NoneRose before after → IsDone s
  pub ready : (made : MadeView) → answer_of command gained before.shelf.content ≡ Some (Ok made) → IsReady made before → IsDone s

quiet_done : (s : Status) (command : Option Command) (gained : Gained) (before after : World) (text : List ℕ) → Completes s command gained before after →
    IsText command gained before text → IsQuiet (text_alone text) before after → IsDone s
quiet_done s command gained before after text c t (inl none) = c.undisturbed t.tells (text_alone text) t.plain none
quiet_done s command gained before after text c t (inr ready) = c.ready (text_alone text) t.plain ready

-- a call of `replay` on the dump of a run
pub replays_run : (s : Status) (command : Option Command) (gained : Gained) (image : ImageView) (script : List Slice) (point : ℕ) (before after : World) →
    Completes s command gained before after → Ends (class_of s) s command gained before after →
    IsTrue before.shelf.tells → IsReplayOf command before.shelf.content image script point → ReplaysRun s image script point before after
replays_run s command gained image script point before after c e tells r = record {
  tells = replay_ends s command gained image script point before after tells r e _ refl;
  done = λ accepted quiet. quiet_done s command gained before after (text_of_run image script point) c
      (replay_is_text command gained image script point before tells r accepted) quiet;
}

-- a call of `points` on the dump of a run
pub lists_run : (s : Status) (command : Option Command) (gained : Gained) (image : ImageView) (script : List Slice) (before after : World) →
    Completes s command gained before after → Ends (class_of s) s command gained before after →
    IsTrue before.shelf.tells → IsListOf command before.shelf.content image script → ListsRun s image script before after
lists_run s command gained image script before after c e tells l =
    let image_is = file_is_image (before.shelf.content l.image_name) image l.files.image_there in
    let points = points_of (window_of image (run image script)) in
    let text : IsText command gained before (flat_map point_line points) = record {
      asks = Points l.image_name l.dump_name;
      command_is = l.asked;
      tells = tells;
      plain = ap (λ (q : Option Command). answer_of q gained before.shelf.content) l.asked ∙
          points_listed before.shelf.content l.image_name l.dump_name image script l.files;
    } in
    record {
      points = points;
      accepted = points_accepted image script image_is;
      tells = ends_text s command gained before after (flat_map point_line points) text e;
      done = quiet_done s command gained before after (flat_map point_line points) c text;
    }
