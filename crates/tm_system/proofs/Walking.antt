-- A task by itself: its next place, and where it comes that goes on to a marker.
use Rattle.std.proofs.Common.{◌≡◌, ℕ, zero, suc, ◌+◌, ◌^◌, ◌<◌, ◌≤◌, Bool, true, false, ◌==◌, refl, ap, sym, ◌∙◌, arith, inl, inr, Option, Some, None, Result, Ok, Err, slice_get, ◌++◌}
use Rattle.std.specs.Prelude.{ok_or}
use Rattle.std.proofs.lemmas.Bool.{cases_Bool}
use Rattle.std.proofs.lemmas.Bool.Decides.{nat_tests}
use Rattle.tm_marker.specs.Order.{marker_lt, IsBefore}
use Rattle.tm_marker.specs.declared.body.Body.{Body}
use Rattle.tm_marker.specs.declared.entries.DataEntry.{DataEntry}
use Rattle.tm_marker.specs.declared.marker.Marker.{Marker}
use Rattle.tm_marker.specs.declared.marker.TheConstants.{EPOCH_LENGTH}
use Rattle.tm_task.specs.declared.outcome.Cause.{Cause}
use Rattle.tm_task.specs.Exec.{Faults, Calls, Goes, exec}
use Rattle.tm_task.specs.Standing.{marker_of, went, answered}
use Rattle.tm_task.specs.Place.{Place, next_place, output_of}
use Rattle.tm_task.proofs.Rising.{places_rise_lem, places_stay_lem}
use Rattle.tm_system.specs.declared.diverged.Why.{Why}
use Rattle.tm_system.specs.declared.diverged.Why.TheVariants.{Faulted, NoEntry, OtherService}
use Rattle.tm_system.specs.Alone.{Alone, Walk, Comes, next_or_why, walk, walk_to, walk_by, height}
use Rattle.tm_system.specs.ReplayLaws.{IsWalker, WalksEnd, WalksGoOn, WalksStick, WalkersStay}

-- the next place by what the instruction does
pub next_ran : (a : Alone) (p : Place) (next : Body) (back : Bool) → exec a.text p.standing.body ≡ Goes next back →
    next_or_why a p ≡ Ok (record p { standing = went p.standing next back })
unfolding next_or_why next_place
next_ran a p next back e = rw e refl

pub next_faults : (a : Alone) (p : Place) (cause : Cause) → exec a.text p.standing.body ≡ Faults cause →
    next_or_why a p ≡ Err (Faulted cause)
unfolding next_or_why next_place
next_faults a p cause e = rw e refl

pub next_no_entry : (a : Alone) (p : Place) (service : ℕ) → exec a.text p.standing.body ≡ Calls service →
    slice_get a.log p.used ≡ None → next_or_why a p ≡ Err (NoEntry a.total)
unfolding next_or_why next_place
next_no_entry a p service e none = rw (e, none) refl

pub next_other : (a : Alone) (p : Place) (service : ℕ) (d : DataEntry) → exec a.text p.standing.body ≡ Calls service →
    slice_get a.log p.used ≡ Some d → (d.service == service) ≡ false → next_or_why a p ≡ Err (OtherService d.service service)
unfolding next_or_why next_place
next_other a p service d e some differs = rw (e, some, differs) refl

pub next_answered : (a : Alone) (p : Place) (service : ℕ) (d : DataEntry) → exec a.text p.standing.body ≡ Calls service →
    slice_get a.log p.used ≡ Some d → (d.service == service) ≡ true →
    next_or_why a p ≡ Ok (record {
      standing = answered a.entry p.standing d;
      used = p.used + 1;
      made = p.made ++ output_of a.task p.standing.body d;
    })
unfolding next_or_why next_place
next_answered a p service d e some same = rw (e, some, same) refl

-- a next place is one of those of the task
some_next : (o : Option Place) (why : Why) (q : Place) → ok_or o why ≡ Ok q → o ≡ Some q
some_next None why q is = cc
some_next (Some r) why q is = cc

next_there : (a : Alone) (p q : Place) → next_or_why a p ≡ Ok q → next_place a.entry a.task a.text a.log p ≡ Some q
unfolding next_or_why
next_there a p q is = some_next _ _ q is

pub walkers_stay : WalkersStay
walkers_stay a p q w is = record {
  few = w.few;
  task = places_stay_lem a.entry a.task a.text a.log p q w.few w.task (next_there a p q is);
}

-- its marker is greater
pub walkers_rise : (a : Alone) (p q : Place) → IsWalker a p → next_or_why a p ≡ Ok q → IsBefore (marker_of p.standing) (marker_of q.standing)
walkers_rise a p q w is = places_rise_lem a.entry a.task a.text a.log p q w.few w.task (next_there a p q is)

-- a marker before another has the lesser number
before_lower : (e c p f d q : ℕ) → c < EPOCH_LENGTH → p < 2 ^ 32 →
    marker_lt (record { epoch = e; count = c; pc = p }) (record { epoch = f; count = d; pc = q }) ≡ true →
    height (record { epoch = e; count = c; pc = p }) < height (record { epoch = f; count = d; pc = q })
before_lower e c p f d q count pc before = grind (arith, nat_tests)

pub lower : (a : Alone) (p : Place) (wanted : Marker) → IsWalker a p → marker_lt (marker_of p.standing) wanted ≡ true →
    height (marker_of p.standing) < height wanted
lower a p wanted w before =
    before_lower p.standing.epoch p.standing.count p.standing.body.pc wanted.epoch wanted.count wanted.pc w.task.count w.task.pc.1 before

pub rises : (a : Alone) (p q : Place) → IsWalker a p → next_or_why a p ≡ Ok q → height (marker_of p.standing) < height (marker_of q.standing)
rises a p q w is = lower a p (marker_of q.standing) w (walkers_rise a p q w is)

-- one instruction more or none, by where the task is
walk_here : (a : Alone) (wanted : Marker) (n : ℕ) (p : Place) → marker_lt (marker_of p.standing) wanted ≡ false → walk a wanted n p ≡ Comes p
unfolding walk
walk_here a wanted zero p here = refl
walk_here a wanted (suc n) p here = rw here refl

walk_on : (a : Alone) (wanted : Marker) (n : ℕ) (p : Place) → marker_lt (marker_of p.standing) wanted ≡ true →
    walk a wanted (suc n) p ≡ walk_by (walk a wanted n) p true (next_or_why a p)
unfolding walk
walk_on a wanted n p before = rw before refl

-- two ways on agree where they agree at the next place
same_on : (f g : Place → Walk) (p : Place) (r : Result Place Why) → ((q : Place) → r ≡ Ok q → f q ≡ g q) →
    walk_by f p true r ≡ walk_by g p true r
same_on f g p (Ok q) same = same q refl
same_on f g p (Err why) same = refl

-- any two numbers of instructions that are enough lead to one place
same_walks : (a : Alone) (wanted : Marker) (n m : ℕ) (p : Place) → IsWalker a p →
    height wanted ≤ n + height (marker_of p.standing) → height wanted ≤ m + height (marker_of p.standing) →
    walk a wanted n p ≡ walk a wanted m p
same_walks a wanted zero m p w enough much = elim (cases_Bool (marker_lt (marker_of p.standing) wanted)) [
  | inl before ↦ absurd (omega (arith, lower a p wanted w before, enough))
  | inr here ↦ walk_here a wanted zero p here ∙ sym (walk_here a wanted m p here)
]
same_walks a wanted (suc n) zero p w enough much = elim (cases_Bool (marker_lt (marker_of p.standing) wanted)) [
  | inl before ↦ absurd (omega (arith, lower a p wanted w before, much))
  | inr here ↦ walk_here a wanted (suc n) p here ∙ sym (walk_here a wanted zero p here)
]
same_walks a wanted (suc n) (suc m) p w enough much = elim (cases_Bool (marker_lt (marker_of p.standing) wanted)) [
  | inl before ↦
      walk_on a wanted n p before
      ∙ same_on (walk a wanted n) (walk a wanted m) p (next_or_why a p)
      (λ q is. same_walks a wanted n m q (walkers_stay a p q w is)
      (omega (arith, rises a p q w is, enough)) (omega (arith, rises a p q w is, much)))
      ∙ sym (walk_on a wanted m p before)
  | inr here ↦ walk_here a wanted (suc n) p here ∙ sym (walk_here a wanted (suc m) p here)
]

pub walks_end : WalksEnd
unfolding walk_to
walks_end a wanted p here = walk_here a wanted (height wanted) p here

-- a number above another is one more than some number
more_than : (n k : ℕ) → k < n → (m : ℕ) × (n ≡ suc m)
more_than zero k lt = absurd (omega arith)
more_than (suc m) k lt = (m, refl)

pub walks_go_on : WalksGoOn
unfolding walk_to
walks_go_on a wanted p q w before is =
    let some = more_than (height wanted) (height (marker_of p.standing)) (lower a p wanted w before) in
    ap (λ n. walk a wanted n p) some.1
    ∙ walk_on a wanted some.0 p before
    ∙ ap (walk_by (walk a wanted some.0) p true) is
    ∙ same_walks a wanted some.0 (height wanted) q (walkers_stay a p q w is)
    (omega (arith, rises a p q w is, some.1)) (omega arith)

pub walks_stick : WalksStick
unfolding walk_to
walks_stick a wanted p why w before is =
    let some = more_than (height wanted) (height (marker_of p.standing)) (lower a p wanted w before) in
    ap (λ n. walk a wanted n p) some.1
    ∙ walk_on a wanted some.0 p before
    ∙ ap (walk_by (walk a wanted some.0) p true) is
