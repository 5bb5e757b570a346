-- The replays of all tasks, one after another, and the outputs held to those of the window.
use Rattle.std.proofs.Common.{◌≡◌, ℕ, zero, suc, ◌+◌, ◌<◌, ◌≤◌, List, [], ◌∷◌, ◌++◌, length, map, refl, ap, sym, ◌∙◌, subst, arith, inl, inr, Option, Some, None, length-append}
use Rattle.std.specs.Prelude.{Result, Ok, Err, IsOk}
use Rattle.std.proofs.lemmas.Bool.{cases_lt}
use Rattle.std.proofs.lemmas.List.{map-append, length-map}
use Rattle.tm_log.specs.Points.{entries_from}
use Rattle.tm_log.specs.Window.{WindowView}
use Rattle.tm_spelling.specs.Tracks.{story_by}
use Rattle.tm_image.specs.Image.{ImageView}
use Rattle.tm_system.specs.declared.diverged.Diverged.{Diverged}
use Rattle.tm_system.specs.Tracing.{Tracing, track_of}
use Rattle.tm_system.specs.Replaying.{replayed_task, all_below, one_more, replayed_tasks, runs_at_point, story_of, shown_in, other_output, agreed, with_outputs, replayed, tracings_of}
use Rattle.tm_system.proofs.Meeting.{all_none, all_more, all_error}
use Rattle.tm_points.specs.Finder.{lost_of}
use Rattle.tm_text.specs.declared.seen.Replay.{Replay}
use Rattle.tm_text.specs.declared.seen.Track.{Track}
use Rattle.tm_text.specs.Views.{track_view, replay_story}
use Rattle.tm_replay.specs.declared.fault.ReplayFault.{ReplayFault}
use Rattle.tm_replay.specs.declared.fault.ReplayFault.TheVariants.{Lost, Memory, Diverged as HasDiverged}
use Rattle.tm_ring.specs.Kept.{first_of}
use Rattle.tm_points.proofs.Replayable.{needed}
use Rattle.tm_replay.specs.Meeting.{IsTold, Tells}
use Rattle.tm_replay.specs.Answers.{AreTold, TellsAll, IsReplay, Answers}

-- no task yet, and one more
pub told_none : (f : ℕ → Result Tracing Diverged) → AreTold (all_below 0 f) []
told_none f = record { tracings = []; replay = all_none f; told = refl }

pub told_more : (n : ℕ) (f : ℕ → Result Tracing Diverged) (tracks more : List Track) (track : Track) → AreTold (all_below n f) tracks →
    IsTold (f n) track → more ≡ tracks ++ track ∷ [] → AreTold (all_below (n + 1) f) more
told_more n f tracks more track all one is = record {
  tracings = all.tracings ++ one.tracing ∷ [];
  replay = all_more n f ∙ ap (λ r. one_more r (f n)) all.replay ∙ ap (one_more (Ok all.tracings)) one.replays;
  told = ap (map track_view) is ∙ map-append track_view tracks (track ∷ []) ∙ ap (λ l. l ++ track_view track ∷ []) all.told
      ∙ ap (λ x. map track_of all.tracings ++ x ∷ []) one.told ∙ sym (map-append track_of all.tracings (one.tracing ∷ []));
}

-- the first task that diverges is the answer
pub told_error : (n m : ℕ) (f : ℕ → Result Tracing Diverged) (tracks : List Track) (d : Diverged) → AreTold (all_below n f) tracks →
    f n ≡ Err d → n < m → all_below m f ≡ Err d
told_error n m f tracks d all one within =
    all_error (n + 1) m f d (omega arith) (all_more n f ∙ ap (λ r. one_more r (f n)) all.replay ∙ ap (one_more (Ok all.tracings)) one)

-- as many as tasks
many_more : (n : ℕ) (front : Result (List Tracing) Diverged) (last : Result Tracing Diverged) (xs : List Tracing) →
    ((ys : List Tracing) → front ≡ Ok ys → length ys ≡ n) → one_more front last ≡ Ok xs → length xs ≡ suc n
many_more n (Ok front) (Ok last) xs before is =
    let same : front ++ last ∷ [] ≡ xs = cc in
    omega (arith, ap length same, length-append front (last ∷ []), before front refl)
many_more n (Ok front) (Err e) xs before is = absurd (cc)
many_more n (Err e) last xs before is = absurd (cc)

pub told_many : (n : ℕ) (f : ℕ → Result Tracing Diverged) (xs : List Tracing) → all_below n f ≡ Ok xs → length xs ≡ n
unfolding all_below
told_many zero f xs is = let none : [] ≡ xs = cc in sym (ap length none)
told_many (suc n) f xs is = many_more n (all_below n f) (f n) xs (λ ys front. told_many n f ys front) is

pub told_tracks : (n : ℕ) (f : ℕ → Result Tracing Diverged) (tracks : List Track) → AreTold (all_below n f) tracks → length tracks ≡ n
told_tracks n f tracks all =
    sym (length-map tracks track_view) ∙ ap length all.told ∙ length-map all.tracings track_of ∙ told_many n f all.tracings all.replay

-- an error of a task is one of all
pub tells_error : (n m : ℕ) (f : ℕ → Result Tracing Diverged) (tracks : List Track) (fault : ReplayFault) → AreTold (all_below n f) tracks →
    n < m → Tells (f n) (Err fault) → TellsAll (all_below m f) (Err fault)
tells_error n m f tracks (Lost l) all within one = one
tells_error n m f tracks (HasDiverged d) all within one = told_error n m f tracks d all one within
tells_error n m f tracks Memory all within one = tt

-- a task that diverges is the whole's answer
pub task_differs : (image : ImageView) (w : WindowView) (p : ℕ) (d : Diverged) → replayed_tasks image w p ≡ Err d → replayed image w p ≡ Err d
unfolding replayed
task_differs image w p d is = ap (with_outputs w p) is

-- and so is every error
pub all_answers : (image : ImageView) (w : WindowView) (p : ℕ) (fault : ReplayFault) → lost_of w p ≡ None →
    TellsAll (replayed_tasks image w p) (Err fault) → Answers image w p (Err fault)
all_answers image w p (Lost l) accepted one = absurd one
all_answers image w p (HasDiverged d) accepted one = (accepted, task_differs image w p d one)
all_answers image w p Memory accepted one = tt

-- the control entries after an accepted point are kept
pub entries_kept : (w : WindowView) (p : ℕ) → lost_of w p ≡ None → first_of w.control ≤ p
entries_kept w p accepted = elim (cases_lt 0 (first_of w.control)) [
  | inl some ↦ omega (arith, (needed w p accepted).entries some)
  | inr none ↦ omega (arith, none)
]

-- the story of a replay
pub story_is : (image : ImageView) (w : WindowView) (r : Replay) (xs : List Tracing) → r.running ≡ runs_at_point w.control r.from →
    map track_view r.tracks ≡ map track_of xs → replay_story r w ≡ story_of w r.from xs
story_is image w r xs runs told =
    ap (λ k. story_by r.from k (map track_view r.tracks) (entries_from w.control r.from) w.tail) runs
    ∙ ap (λ l. story_by r.from (runs_at_point w.control r.from) l (entries_from w.control r.from) w.tail) told

is_ok : (r : Result (List Tracing) Diverged) (xs : List Tracing) → r ≡ Ok xs → IsOk r
is_ok r xs e = subst IsOk (sym e) refl

agreed_by : (o : Option Diverged) (xs : List Tracing) → o ≡ None → agreed o xs ≡ Ok xs
agreed_by o xs e = ap (λ x. agreed x xs) e

differs_by : (o : Option Diverged) (d : Diverged) (xs : List Tracing) → o ≡ Some d → agreed o xs ≡ Err d
differs_by o d xs e = ap (λ x. agreed x xs) e

-- the outputs agree, or the oldest that doesn't is the answer
pub replay_fits : (image : ImageView) (w : WindowView) (r : Replay) → lost_of w r.from ≡ None → AreTold (replayed_tasks image w r.from) r.tracks →
    r.running ≡ runs_at_point w.control r.from → None ≡ other_output (shown_in (w.control.total + 1) (replay_story r w)) w.outputs.items →
    IsReplay image w r.from r
unfolding replayed
replay_fits image w r accepted all runs agree =
    let story = story_is image w r all.tracings runs all.told in
    let same : other_output (shown_in (w.control.total + 1) (story_of w r.from all.tracings)) w.outputs.items ≡ None =
    sym (agree ∙ ap (λ s. other_output (shown_in (w.control.total + 1) s) w.outputs.items) story) in
    record {
      accepted = accepted;
      fits = is_ok _ all.tracings (ap (with_outputs w r.from) all.replay ∙ agreed_by _ all.tracings same);
      from = refl;
      tasks = told_tracks (length w.shape.words) (replayed_task image w r.from) r.tracks all;
      story = story ∙ sym (ap (λ x. story_of w r.from (tracings_of x)) all.replay);
    }

pub replay_differs : (image : ImageView) (w : WindowView) (r : Replay) (d : Diverged) → AreTold (replayed_tasks image w r.from) r.tracks →
    r.running ≡ runs_at_point w.control r.from → Some d ≡ other_output (shown_in (w.control.total + 1) (replay_story r w)) w.outputs.items →
    replayed image w r.from ≡ Err d
unfolding replayed
replay_differs image w r d all runs other =
    let story = story_is image w r all.tracings runs all.told in
    let same : other_output (shown_in (w.control.total + 1) (story_of w r.from all.tracings)) w.outputs.items ≡ Some d =
    sym (other ∙ ap (λ s. other_output (shown_in (w.control.total + 1) s) w.outputs.items) story) in
    ap (with_outputs w r.from) all.replay ∙ differs_by _ d all.tracings same
