-- Where each task's replay tells what the task did in the run, the window fits and tells what the run tells.
use Rattle.std.proofs.Common.{◌≡◌, ℕ, zero, suc, ◌+◌, ◌<◌, ◌≤◌, List, [], ◌∷◌, ◌++◌, length, map, refl, ap, ◌∙◌, arith, Option, None}
use Rattle.std.specs.Prelude.{Result, Ok}
use Rattle.std.proofs.lemmas.List.{map-append}
use Rattle.tm_log.specs.Points.{entries_from}
use Rattle.tm_spelling.specs.Tracks.{Track, story_by}
use Rattle.tm_image.specs.Image.{ImageView, IsImage}
use Rattle.tm_system.specs.declared.diverged.Diverged.{Diverged}
use Rattle.tm_system.specs.History.{History}
use Rattle.tm_system.specs.Controls.{controls}
use Rattle.tm_system.specs.Telling.{below, story}
use Rattle.tm_system.specs.Accepted.{IsPointKept}
use Rattle.tm_system.specs.Follows.{IsRun}
use Rattle.tm_system.specs.Laws.{IsSoundAt}
use Rattle.tm_system.specs.WindowOf.{window_of}
use Rattle.tm_system.specs.Tracing.{Tracing, track_of}
use Rattle.tm_system.specs.Replaying.{replayed_task, one_more, all_below, replayed_tasks, runs_at_point, story_of, shown_in, other_output, agreed, with_outputs, replayed, tracings_of, window_story}
use Rattle.tm_fidelity.proofs.Reading.{tasks_are}
use Rattle.tm_fidelity.proofs.Tracks.{run_track}
use Rattle.tm_fidelity.proofs.Agreeing.{outputs_agree}
use Rattle.tm_fidelity.proofs.Stories.{run_tracks, stories_are_told}

-- a replay tells this of a task
pub record Tells (replay : Result Tracing Diverged) (track : Track) : Type 0 where
  pub tracing : Tracing
  pub is : replay ≡ Ok tracing
  pub tells : track_of tracing ≡ track

record AllTell (replays : Result (List Tracing) Diverged) (tracks : List Track) : Type 0 where
  tracings : List Tracing
  are : replays ≡ Ok tracings
  tell : map track_of tracings ≡ tracks

all_tell : (n : ℕ) (replays : ℕ → Result Tracing Diverged) (tracks : ℕ → Track) → ((t : ℕ) → t < n → Tells (replays t) (tracks t)) →
    AllTell (all_below n replays) (below n tracks)
unfolding all_below
all_tell zero replays tracks each = record { tracings = []; are = refl; tell = refl }
all_tell (suc n) replays tracks each =
    let front : AllTell (all_below n replays) (below n tracks) = all_tell n replays tracks (λ t before. each t (omega (arith, before))) in
    let last : Tells (replays n) (tracks n) = each n (omega arith) in
    record {
      tracings = front.tracings ++ last.tracing ∷ [];
      are = ap (λ r. one_more r (replays n)) front.are ∙ ap (one_more (Ok front.tracings)) last.is;
      tell = map-append track_of front.tracings (last.tracing ∷ []) ∙ ap (λ l. l ++ track_of last.tracing ∷ []) front.tell
          ∙ ap (λ x. below n tracks ++ x ∷ []) last.tells;
    }

-- the replay of a window: the tracings of its tasks, which tell this story
pub record IsReplay (image : ImageView) (h : History) (p : ℕ) : Type 0 where
  pub tracings : List Tracing
  pub tasks : replayed_tasks image (window_of image h) p ≡ Ok tracings
  pub fits : replayed image (window_of image h) p ≡ Ok tracings
  pub tells : window_story image (window_of image h) p ≡ story image p h

agreed_ok : (other : Option Diverged) (tracings : List Tracing) → other ≡ None → agreed other tracings ≡ Ok tracings
agreed_ok other tracings none = ap (λ o. agreed o tracings) none

replayed_is : (image : ImageView) (h : History) (p : ℕ) (tracings : List Tracing) → replayed_tasks image (window_of image h) p ≡ Ok tracings →
    other_output (shown_in (length (controls image h) + 1) (story_of (window_of image h) p tracings)) (window_of image h).outputs.items ≡ None →
    replayed image (window_of image h) p ≡ Ok tracings
unfolding replayed
replayed_is image h p tracings tasks none = ap (with_outputs (window_of image h) p) tasks ∙ agreed_ok _ tracings none

pub replay_is : (image : ImageView) (h : History) (p : ℕ) → IsImage image → IsRun image h → IsSoundAt image h → p ≤ length (controls image h) →
    IsPointKept image h p → ((t : ℕ) → t < length image.loads → Tells (replayed_task image (window_of image h) p t) (run_track image p h t)) →
    IsReplay image h p
replay_is image h p i r s reached kept each =
    let w = window_of image h in
    let all : AllTell (all_below (length image.loads) (replayed_task image w p)) (run_tracks image p h) =
    all_tell (length image.loads) (replayed_task image w p) (run_track image p h) each in
    let tasks : replayed_tasks image w p ≡ Ok all.tracings = ap (λ n. all_below n (replayed_task image w p)) (tasks_are image h) ∙ all.are in
    let told : story_of w p all.tracings ≡ story image p h =
    ap (λ tracks. story_by p (runs_at_point w.control p) tracks (entries_from w.control p) w.tail) all.tell
    ∙ stories_are_told image h p i r s reached kept in
    record {
      tracings = all.tracings;
      tasks = tasks;
      fits = replayed_is image h p all.tracings tasks
          (ap (λ x. other_output (shown_in (length (controls image h) + 1) x) w.outputs.items) told
          ∙ outputs_agree image h p (length (controls image h) + 1) i r reached);
      tells = ap (λ x. story_of w p (tracings_of x)) tasks ∙ told;
    }
