-- Replays of tasks of small images, held to what they must tell.
use Rattle.std.specs.Prelude.{◌≡◌, ℕ, false, List, [], ◌∷◌, replicate, Ok, Err, Result}
use Rattle.tm_marker.specs.declared.entries.Kind.TheVariants.{Preempted, Ends, Idle}
use Rattle.tm_marker.specs.declared.entries.Switch.{Switch}
use Rattle.tm_ring.specs.Kept.{kept}
use Rattle.tm_check.specs.Checkpoint.{checkpoint}
use Rattle.tm_task.specs.Standing.{boot_body}
use Rattle.tm_kernel.specs.State.{nobody}
use Rattle.tm_spelling.specs.Story.{View}
use Rattle.tm_spelling.specs.Tracks.{Track}
use Rattle.tm_system.specs.declared.diverged.Why.TheVariants.{Passed, Moved}
use Rattle.tm_system.specs.declared.diverged.Diverged.{Diverged}
use Rattle.tm_system.specs.Examples.{preempting, at, switch}
use Rattle.tm_system.specs.Wanted.{Starts, Leaves, Stands, Runs, wanted_of}
use Rattle.tm_system.specs.Tracing.{Tracing, track_of}
use Rattle.tm_system.specs.Replaying.{replayed_from}

-- task 0 jumps to itself five times, is preempted, and runs again
abbrev pub preempting_entries : List Switch
preempting_entries =
    switch nobody Idle (at 0 0 0) 0 (at 0 0 0)
    ∷ switch 0 Preempted (at 0 5 0) 1 (at 0 0 0)
    ∷ switch 1 Ends (at 1 0 0) 0 (at 0 5 0) ∷ []

-- what is demanded of task 0 from boot
abbrev pub PreemptingWants : Type 0
PreemptingWants =
    wanted_of 0 0 (at 0 0 0) preempting_entries 3 0 (at 0 5 0)
    ≡ (record { seq = 0; at = at 0 0 0; way = Starts })
    ∷ (record { seq = 1; at = at 0 0 0; way = Stands })
    ∷ (record { seq = 2; at = at 0 5 0; way = Leaves false })
    ∷ (record { seq = 3; at = at 0 5 0; way = Stands })
    ∷ (record { seq = 4; at = at 0 5 0; way = Runs }) ∷ []

-- task 0 as it is printed at every moment, at a marker
abbrev pub looping : List ℕ → ℕ → View
looping regs count = record { task = 0; at = at 0 count 0; regs = regs; changed = [] }

-- the registers of a task with one data word that never wrote one
abbrev pub boot_regs : List ℕ
boot_regs = 0 ∷ 0x10000004 ∷ replicate 29 0

-- the replay of task 0 with these control entries, by what its text tells
abbrev pub replay_0 : List Switch → Result Tracing Diverged
replay_0 entries =
    replayed_from preempting 0 0 (kept entries 3 256) 0 (at 0 0 0) (at 0 5 0) (kept [] 0 256)
    (checkpoint (boot_body 0 (0 ∷ [])) 0 0)

abbrev pub told : Result Tracing Diverged → Result Track Diverged
told (Ok t) = Ok (track_of t)
told (Err x) = Err x

-- it starts at boot, stops once after five jumps, and stands there at the end
abbrev pub PreemptingReplays : Type 0
PreemptingReplays =
    told (replay_0 preempting_entries)
    ≡ Ok (record {
      start = looping boot_regs 0;
      stops = (record { seq = 2; leave = record { cause = 0; view = looping boot_regs 5; outputs = [] } }) ∷ [];
      last = looping boot_regs 5;
      outputs = [];
    })

-- with one bit of the marker of its stop changed, it goes past the marker; or it stops too early, and does
-- not stand where it is resumed
abbrev pub PreemptingPasses : Type 0
PreemptingPasses =
    told (replay_0 (switch nobody Idle (at 0 0 0) 0 (at 0 0 0)
    ∷ switch 0 Preempted (at 0 5 4) 1 (at 0 0 0)
    ∷ switch 1 Ends (at 1 0 0) 0 (at 0 5 0) ∷ []))
    ≡ Err (record { seq = 2; task = 0; reached = at 0 6 0; wanted = at 0 5 4; why = Passed })

abbrev pub PreemptingMoves : Type 0
PreemptingMoves =
    told (replay_0 (switch nobody Idle (at 0 0 0) 0 (at 0 0 0)
    ∷ switch 0 Preempted (at 0 4 0) 1 (at 0 0 0)
    ∷ switch 1 Ends (at 1 0 0) 0 (at 0 5 0) ∷ []))
    ≡ Err (record { seq = 3; task = 0; reached = at 0 4 0; wanted = at 0 5 0; why = Moved })
