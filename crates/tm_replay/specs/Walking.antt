-- A task that is replayed, as the code holds it, and the task by itself that it is.
use Rattle.std.specs.Prelude.{◌≡◌, ℕ, ◌+◌, ◌-◌, ◌<◌, ◌≤◌, ◌⊎◌, true, false, length, Result, Ok, Err, Option, Some, None}
use Rattle.tm_marker.specs.declared.marker.Marker.{Marker}
use Rattle.tm_marker.specs.Order.{marker_eq}
use Rattle.tm_ring.specs.Kept.{first_of}
use Rattle.tm_log.specs.Points.{items_from}
use Rattle.tm_task.specs.Exec.{exec}
use Rattle.tm_task.specs.Place.{Place}
use Rattle.tm_task.specs.Standing.{Standing, marker_of}
use Rattle.tm_system.specs.Alone.{Alone, Walk, Comes, Sticks, next_or_why, walk_to, height}
use Rattle.tm_system.specs.ReplayLaws.{IsWalker}
use Rattle.tm_system.specs.Tracing.{Tracing, On, Off, meet_walk, meet_fault, stopped}
use Rattle.tm_system.specs.Wanted.{Way, Demand}
use Rattle.tm_system.specs.declared.diverged.Diverged.{Diverged}
use Rattle.tm_system.specs.declared.diverged.Why.{Why}
use Rattle.tm_system.specs.declared.diverged.Why.TheVariants.{Moved}
use Rattle.tm_replay.specs.declared.fault.ReplayFault.{ReplayFault}
use Rattle.tm_replay.specs.declared.fault.ReplayFault.TheVariants.{Lost, Memory, Diverged as HasDiverged}
use Rattle.tm_replay.specs.declared.walker.Walker.{Walker}

abbrev pub alone_of : Walker → Alone
alone_of w = record {
  task = w.number;
  entry = w.task.entry;
  text = w.text.now;
  log = items_from w.log.now w.first;
  first = w.first;
  total = w.log.now.total;
}

abbrev pub place_of : Walker → Place
place_of w = record { standing = w.task.standing; used = w.used; made = w.made }

-- the task has a text, and of its data entries all are kept from the first on, of which no more were
-- used than there are
pub record IsSound (w : Walker) : Type 0 where
  pub walker : IsWalker (alone_of w) (place_of w)
  pub some : 0 < length w.text.now.words
  pub kept : first_of w.log.now ≤ w.first
  pub used : w.first + w.used ≤ w.log.now.total

-- the task went on by one instruction, or there is no next place for this reason
abbrev pub WentOn : {E : Type 0} → Walker → Result (Option Why) E → Walker → Type 0
WentOn old (Ok None) new = next_or_why (alone_of old) (place_of old) ≡ Ok (place_of new)
WentOn old (Ok (Some why)) new = (next_or_why (alone_of old) (place_of old) ≡ Err why) × (place_of new ≡ place_of old)
WentOn old (Err e) new = Unit {0}

-- the task went on to where it comes, or to where it sticks for this reason
abbrev pub Walked : {E : Type 0} → Walk → Result (Option Why) E → Walker → Type 0
Walked walk (Ok None) new = walk ≡ Comes (place_of new)
Walked walk (Ok (Some why)) new = walk ≡ Sticks (place_of new) why
Walked walk (Err e) new = Unit {0}

-- a demand of a number is not met by a task that stands so
abbrev pub diverged_at : Alone → ℕ → Marker → Standing → Why → Diverged
diverged_at a seq wanted s why = record { seq = seq; task = a.task; reached = marker_of s; wanted = wanted; why = why }

-- the task has come to the marker
pub record IsReached (a : Alone) (wanted : Marker) (p : Place) (new : Walker) : Type 0 where
  pub walked : walk_to a wanted p ≡ Comes (place_of new)
  pub at : marker_eq (marker_of new.task.standing) wanted ≡ true

-- it has come to the marker, or the demand, in whichever way it is to be met by going on, is not met so
abbrev pub Reached : Alone → ℕ → Marker → Place → Result (Unit {0}) ReplayFault → Walker → Type 0
Reached a seq wanted p (Ok u) new = IsReached a wanted p new
Reached a seq wanted p (Err (Lost l)) new = ⊥
Reached a seq wanted p (Err (HasDiverged d)) new =
    (way : Way) (t : Tracing) → meet_walk a (record { seq = seq; at = wanted; way = way }) t (walk_to a wanted p) ≡ Off d
Reached a seq wanted p (Err Memory) new = Unit {0}

-- it stands at the marker, or does not
abbrev pub Stood : Alone → ℕ → Marker → Place → Result (Unit {0}) ReplayFault → Type 0
Stood a seq wanted p (Ok u) = marker_eq (marker_of p.standing) wanted ≡ true
Stood a seq wanted p (Err (Lost l)) = ⊥
Stood a seq wanted p (Err (HasDiverged d)) =
    (marker_eq (marker_of p.standing) wanted ≡ false) × (d ≡ diverged_at a seq wanted p.standing Moved)
Stood a seq wanted p (Err Memory) = ⊥

-- its instruction faults for the cause of this number, or does not fault
abbrev pub DidFault : Alone → ℕ → Marker → Place → Result ℕ ReplayFault → Type 0
DidFault a seq wanted p (Ok cause) =
    (d : Demand) (t : Tracing) → meet_fault a d t p (exec a.text p.standing.body) ≡ On (stopped a.task d.seq t p cause)
DidFault a seq wanted p (Err (Lost l)) = ⊥
DidFault a seq wanted p (Err (HasDiverged d)) =
    (way : Way) (t : Tracing) → meet_fault a (record { seq = seq; at = wanted; way = way }) t p (exec a.text p.standing.body) ≡ Off d
DidFault a seq wanted p (Err Memory) = ⊥

-- a task at a marker that goes on in its epoch by so many instructions is before another marker until the
-- last of them
abbrev pub IsSafe : Marker → Marker → ℕ → Type 0
IsSafe at wanted most =
    (most ≡ 0) ⊎ ((at.epoch < wanted.epoch) ⊎ ((at.epoch ≡ wanted.epoch) × (at.count + most ≤ wanted.count)))

-- the task went on, and comes from here where it came from before
pub record RunsTo (old : Walker) (wanted : Marker) (new : Walker) : Type 0 where
  pub same : alone_of new ≡ alone_of old
  pub words : length new.task.standing.body.words ≡ length old.task.standing.body.words
  pub walks : walk_to (alone_of old) wanted (place_of new) ≡ walk_to (alone_of old) wanted (place_of old)
  pub nearer : height wanted - height (marker_of new.task.standing) ≤ height wanted - height (marker_of old.task.standing)
  pub epoch : new.task.standing.epoch ≡ old.task.standing.epoch
