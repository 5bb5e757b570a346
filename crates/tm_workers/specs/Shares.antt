-- Which tasks workers share, and what the replays of these come to.
use Rattle.std.specs.Prelude.{◌≡◌, ℕ, ◌+◌, ◌-◌, ◌/◌, ◌<◌, ◌≤◌, List, ◌++◌, Result, Ok, Err, None}
use Rattle.tm_image.specs.Image.{ImageView, shape_of}
use Rattle.tm_log.specs.Window.{WindowView}
use Rattle.tm_log.specs.WellFormed.{IsWellFormed}
use Rattle.tm_points.specs.Finder.{lost_of}
use Rattle.tm_system.specs.Replaying.{all_below, replayed_task}
use Rattle.tm_system.specs.Tracing.{Tracing}
use Rattle.tm_system.specs.declared.diverged.Diverged.{Diverged}
use Rattle.tm_workers.specs.declared.share.Share.{Share}

-- a share is some of so many tasks
pub record IsShare (share : Share) (tasks : ℕ) : Type 0 where
  pub rising : share.start ≤ share.end
  pub within : share.end ≤ tasks

-- two shares have the lower half and the rest of one's tasks, and as many workers, each some
pub record AreHalves (whole : Share) (halves : Share × Share) : Type 0 where
  pub first : halves.0.start ≡ whole.start
  pub middle : halves.0.end ≡ whole.start + (whole.end - whole.start) / 2
  pub next : halves.1.start ≡ halves.0.end
  pub last : halves.1.end ≡ whole.end
  pub workers : halves.0.workers + halves.1.workers ≡ whole.workers
  pub low : 0 < halves.0.workers
  pub high : 0 < halves.1.workers

-- a window is well formed for an image, and the replay's point is accepted
pub record IsReady (image : ImageView) (w : WindowView) (point : ℕ) : Type 0 where
  pub formed : IsWellFormed w (shape_of image)
  pub accepted : lost_of w point ≡ None

-- the replays of a share's tasks in rising number, or where the least of them that doesn't fit diverges
abbrev pub replayed_share : ImageView → WindowView → ℕ → Share → Result (List Tracing) Diverged
replayed_share image w point share =
    all_below (share.end - share.start) (λ k. replayed_task image w point (share.start + k))

-- some values and those after them, or the first error
abbrev pub in_order : {X E : Type 0} → Result (List X) E → Result (List X) E → Result (List X) E
in_order (Ok xs) (Ok ys) = Ok (xs ++ ys)
in_order (Ok xs) (Err e) = Err e
in_order (Err e) others = Err e
