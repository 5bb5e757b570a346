-- What each task's replay tells, put together: the window of a script's run is faithful.
use Rattle.std.proofs.Common.{ℕ, ◌<◌, length}
use Rattle.std.specs.Prelude.{List}
use Rattle.tm_marker.specs.declared.entries.Slice.{Slice}
use Rattle.tm_image.specs.Image.{ImageView, IsImage}
use Rattle.tm_system.specs.History.{History}
use Rattle.tm_system.specs.Run.{run}
use Rattle.tm_system.specs.Accepted.{IsAccepted}
use Rattle.tm_system.specs.Follows.{IsRun}
use Rattle.tm_system.specs.WindowOf.{window_of}
use Rattle.tm_system.specs.Replaying.{replayed_task}
use Rattle.tm_system.proofs.Following.{scripts_are_runs, scripts_are_sound}
use Rattle.tm_fidelity.specs.Fidelity.{ReplaysEndLive, ReplaysAreFaithful, WholeRunsReplay}
use Rattle.tm_fidelity.proofs.Accepting.{finder_is_right}
use Rattle.tm_fidelity.proofs.Tracks.{run_track}
use Rattle.tm_fidelity.proofs.Fitting.{Tells, IsReplay, replay_is}
use Rattle.tm_fidelity.proofs.Faithful.{faithful, boot_accepted}
use Rattle.tm_fidelity.proofs.Traced.{IsTraced, traced}

pub replays_end_live : ReplaysEndLive
replays_end_live image h point task i r a below =
    let x : IsTraced image h point task = traced image h point task i r a below in
    record { tracing = x.tracing; replayed = x.is; live = x.standing }

told : (image : ImageView) (h : History) (p t : ℕ) → IsImage image → IsRun image h → IsAccepted image h p → t < length image.loads →
    Tells (replayed_task image (window_of image h) p t) (run_track image p h t)
told image h p t i r a below =
    let x : IsTraced image h p t = traced image h p t i r a below in
    record { tracing = x.tracing; is = x.is; tells = x.track }

-- the replay of the window of a script's run
pub script_replays : (image : ImageView) (script : List Slice) (p : ℕ) → IsImage image → IsAccepted image (run image script) p →
    IsReplay image (run image script) p
script_replays image script p i a =
    let r : IsRun image (run image script) = scripts_are_runs image script i in
    replay_is image (run image script) p i r (scripts_are_sound image script i) a.reached a.entry
    (λ t below. told image (run image script) p t i r a below)

pub replays_are_faithful : ReplaysAreFaithful
replays_are_faithful image script point i a = faithful image script point (script_replays image script point i a)

pub whole_runs_replay : WholeRunsReplay
whole_runs_replay image script i whole =
    let a : IsAccepted image (run image script) 0 = boot_accepted image (run image script) whole in
    record {
      found = (finder_is_right image (run image script) 0 i (scripts_are_runs image script i)).1 a;
      faithful = replays_are_faithful image script 0 i a;
    }
