-- What a window that is well formed and can be replayed gives to the writing of its text.
use Rattle.std.proofs.Common.{◌≡◌, ℕ, ◌≤◌, ◌<◌, List, [], ◌∷◌, length, All, get_or, Fits, w8, Ok, sym, ap, ◌∙◌, subst, arith}
use Rattle.std.proofs.lemmas.Option.{get_or_from_slice_get}
use Rattle.std.proofs.lemmas.List.Elements.{All-from_get_or}
use Rattle.tm_marker.specs.declared.shape.Shape.{Shape}
use Rattle.tm_marker.specs.declared.entries.Switch.{Switch}
use Rattle.tm_marker.specs.declared.entries.Kind.{Kind}
use Rattle.tm_marker.specs.declared.entries.Kind.TheVariants.{Preempted, Waits, Ends, Fault, Shutdown, Idle}
use Rattle.tm_image.specs.Image.{ImageView}
use Rattle.tm_log.specs.Window.{WindowView, IsWindow}
use Rattle.tm_log.specs.WellFormed.{IsWellFormed, ended_by, ended_last}
use Rattle.tm_points.specs.Finder.{lost_of}
use Rattle.tm_system.specs.Replaying.{replayed, text_of_window}
use Rattle.tm_spelling.specs.Story.{spelled}
use Rattle.tm_text.specs.Views.{replay_story}
use Rattle.tm_text.specs.declared.seen.Replay.{Replay}
use Rattle.tm_replay.specs.Answers.{IsReplay}
use Rattle.tm_prog.specs.ReplayCommand.{unless_lost}
use Rattle.tm_prog.specs.Made.{text_alone}
use Rattle.tm_prog.proofs.ToldRuns.{fits_tell}

ends_small : (kind : Kind) → ended_by kind ≤ 2
ends_small Preempted = omega arith
ends_small Waits = omega arith
ends_small Ends = omega arith
ends_small Fault = omega arith
ends_small Shutdown = omega arith
ends_small Idle = omega arith

last_small : (entries : List Switch) → ended_last entries ≤ 2
last_small [] = omega arith
last_small (entry ∷ []) = ends_small entry.kind
last_small (entry ∷ after ∷ rest) = last_small (after ∷ rest)

-- how a run stands at the end of a window
pub ended_small : (w : WindowView) (shape : Shape) → IsWellFormed w shape → w.tail.ended ≤ 2
ended_small w shape well = subst (λ n. n ≤ 2) (sym well.ended) (last_small w.control.items)

-- each task's state
pub states_small : (w : WindowView) (shape : Shape) → IsWindow w → IsWellFormed w shape → All (λ state. state ≤ 3) w.tail.state
states_small w shape window well = All-from_get_or (λ state. state ≤ 3) w.tail.state 0
    (λ task below.
    let there : task < length w.shape.words = omega (arith, window.state) in
    let of_task = well.tasks task there in
    let same : get_or w.tail.state task 0 ≡ of_task.state = get_or_from_slice_get w.tail.state task of_task.state 0 of_task.state_is in
    omega (arith, same, of_task.state_number))

-- the text of a replay is that of the window
pub text_is : (image : ImageView) (w : WindowView) (point : ℕ) (replay : Replay) → IsReplay image w point replay →
    spelled (replay_story replay w) ≡ text_of_window image w point
unfolding text_of_window
text_is image w point replay r = ap spelled r.story

-- a replay that fits is what is told
pub told_is : (image : ImageView) (w : WindowView) (point : ℕ) (replay : Replay) → IsReplay image w point replay →
    unless_lost image w point (lost_of w point) ≡ Ok (text_alone (text_of_window image w point))
told_is image w point replay r =
    ap (unless_lost image w point) r.accepted ∙ fits_tell image w point (replayed image w point) r.fits

fits_byte : (n : ℕ) → Fits w8 n → n < 256
fits_byte n fits = omega arith

-- bytes are below 256
pub bytes_small : (bytes : List ℕ) → ((i : ℕ) → Fits w8 (get_or bytes i 0)) → All (λ byte. byte < 256) bytes
bytes_small bytes fits = All-from_get_or (λ byte. byte < 256) bytes 0 (λ i below. fits_byte _ (fits i))
