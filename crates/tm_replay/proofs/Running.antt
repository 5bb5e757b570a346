-- A task that goes on by several instructions, as many as surely don't take it past a marker.
use Rattle.std.proofs.Common.{◌≡◌, ℕ, zero, suc, ◌+◌, ◌<◌, ◌≤◌, Bool, true, false, ◌⊎◌, List, Ok, ap, sym, subst, ◌∙◌, arith, inl, inr}
use Rattle.std.proofs.lemmas.Bool.{cases_Bool}
use Rattle.std.proofs.lemmas.Bool.Decides.{nat_tests}
use Rattle.tm_marker.specs.Order.{marker_lt}
use Rattle.tm_marker.specs.declared.body.Body.{Body}
use Rattle.tm_marker.specs.declared.entries.OutputEntry.{OutputEntry}
use Rattle.tm_marker.specs.declared.marker.Marker.{Marker}
use Rattle.tm_task.specs.Place.{Place}
use Rattle.tm_task.specs.RunsOn.{RunsOn}
use Rattle.tm_task.specs.Standing.{Standing, TaskView, went, is_full, marker_of}
use Rattle.tm_task.specs.Stepped.{DidRun}
use Rattle.tm_system.specs.Alone.{Alone, next_or_why, walk_to, height}
use Rattle.tm_system.specs.ReplayLaws.{IsWalker}
use Rattle.tm_system.proofs.Walking.{next_ran, walks_go_on, walkers_stay, rises}
use Rattle.tm_replay.specs.declared.walker.Walker.{Walker}
use Rattle.tm_replay.specs.Walking.{alone_of, IsSafe}

abbrev pub place_by : ℕ → List OutputEntry → TaskView → Place
place_by used made t = record { standing = t.standing; used = used; made = made }

-- one instruction raises the count by one at most
went_count : (s : Standing) (next : Body) (back : Bool) → (went s next back).count ≤ s.count + 1
went_count s next false = omega arith
went_count s next true = elim (cases_Bool (is_full s)) [
  | inl full ↦ rw full (omega arith)
  | inr room ↦ rw room (omega arith)
]

-- a marker before another, by its parts
before_by : (e c p f d q : ℕ) → (e < f) ⊎ ((e ≡ f) × (c < d)) →
    marker_lt (record { epoch = e; count = c; pc = p }) (record { epoch = f; count = d; pc = q }) ≡ true
before_by e c p f d q (inl less) = grind (arith, nat_tests)
before_by e c p f d q (inr both) = grind (arith, nat_tests, both.0, both.1)

-- the task has gone on by so many
pub record HasRun (a : Alone) (used : ℕ) (made : List OutputEntry) (wanted : Marker) (n : ℕ) (old new : TaskView) : Type 0 where
  pub entry : new.entry ≡ old.entry
  pub epoch : new.standing.epoch ≡ old.standing.epoch
  pub count : new.standing.count ≤ old.standing.count + n
  pub walker : IsWalker a (place_by used made new)
  pub walks : walk_to a wanted (place_by used made new) ≡ walk_to a wanted (place_by used made old)
  pub higher : height (marker_of old.standing) ≤ height (marker_of new.standing)

still_before : (wanted : Marker) (most n : ℕ) (old between : TaskView) → IsSafe (marker_of old.standing) wanted most → n < most →
    between.standing.epoch ≡ old.standing.epoch → between.standing.count ≤ old.standing.count + n →
    marker_lt (marker_of between.standing) wanted ≡ true
still_before wanted most n old between (inl none) less epoch count = absurd (omega arith)
still_before wanted most n old between (inr (inl early)) less epoch count =
    before_by between.standing.epoch between.standing.count between.standing.body.pc wanted.epoch wanted.count wanted.pc (inl (omega arith))
still_before wanted most n old between (inr (inr both)) less epoch count =
    let e : between.standing.epoch ≡ wanted.epoch = epoch ∙ both.0 in
    let room : old.standing.count + most ≤ wanted.count = both.1 in
    before_by between.standing.epoch between.standing.count between.standing.body.pc wanted.epoch wanted.count wanted.pc (inr (e, omega arith))

pub has_run : (a : Alone) (used : ℕ) (made : List OutputEntry) (wanted : Marker) (most n : ℕ) (old new : TaskView) → IsWalker a (place_by used made old) →
    IsSafe (marker_of old.standing) wanted most → n ≤ most → RunsOn a.text n old new → HasRun a used made wanted n old new
unfolding RunsOn
has_run a used made wanted most zero old new walker safe few ran = record {
  entry = ap (λ (t : TaskView). t.entry) ran;
  epoch = ap (λ (t : TaskView). t.standing.epoch) ran;
  count = let same : new.standing.count ≡ old.standing.count = ap (λ (t : TaskView). t.standing.count) ran in omega arith;
  walker = subst (λ (t : TaskView). IsWalker a (place_by used made t)) (sym ran) walker;
  walks = ap (λ (t : TaskView). walk_to a wanted (place_by used made t)) ran;
  higher = let same : height (marker_of new.standing) ≡ height (marker_of old.standing) = ap (λ (t : TaskView). height (marker_of t.standing)) ran in omega arith;
}
has_run a used made wanted most (suc n) old new walker safe few ran =
    let between : TaskView = ran.0 in
    let did : DidRun a.text between new = ran.1.1 in
    let h : HasRun a used made wanted n old between = has_run a used made wanted most n old between walker safe (omega arith) ran.1.0 in
    let before : marker_lt (marker_of between.standing) wanted ≡ true = still_before wanted most n old between safe (omega arith) h.epoch h.count in
    let next : next_or_why a (place_by used made between) ≡ Ok (place_by used made new) =
    next_ran a (place_by used made between) new.standing.body did.goes.back did.goes.executed
    ∙ ap (λ (s : Standing). Ok (record { standing = s; used = used; made = made })) (sym did.goes.standing) in
    let rise : height (marker_of between.standing) < height (marker_of new.standing) = rises a (place_by used made between) (place_by used made new) h.walker next in
    let counted : new.standing.count ≤ between.standing.count + 1 =
    subst (λ (s : Standing). s.count ≤ between.standing.count + 1) (sym did.goes.standing) (went_count between.standing new.standing.body did.goes.back) in
    record {
      entry = did.goes.entry ∙ h.entry;
      epoch = did.epoch ∙ h.epoch;
      count = omega (arith, h.count);
      walker = walkers_stay a (place_by used made between) (place_by used made new) h.walker next;
      walks = sym (walks_go_on a wanted (place_by used made between) (place_by used made new) h.walker before next) ∙ h.walks;
      higher = omega (arith, h.higher);
    }

-- it is the same task by itself
pub same_alone : (w : Walker) (t : TaskView) → t.entry ≡ w.task.entry → alone_of (record w { task = t }) ≡ alone_of w
same_alone w t entry = cc

-- it is in no later epoch than the marker
pub safe_epoch : (at wanted : Marker) (most limit : ℕ) → IsSafe at wanted most → (most ≡ 0 → ⊥) → wanted.epoch < limit → at.epoch < limit
safe_epoch at wanted most limit (inl none) some below = absurd (some none)
safe_epoch at wanted most limit (inr (inl early)) some below = omega arith
safe_epoch at wanted most limit (inr (inr both)) some below = let e : at.epoch ≡ wanted.epoch = both.0 in omega arith
