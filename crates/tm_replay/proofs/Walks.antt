-- A task that goes on by itself, one instruction after another.
use Rattle.std.proofs.Common.{◌≡◌, ℕ, zero, suc, ◌+◌, ◌-◌, ◌<◌, ◌≤◌, ◌++◌, List, [], ◌∷◌, length, drop, slice_get, Some, Ok, Err, true, false, refl, ap, sym, ◌∙◌, arith, inl, inr}
use Rattle.std.proofs.lemmas.Bool.{cases_Bool, eq-eqb}
use Rattle.std.proofs.lemmas.Grind.{common_steps}
use Rattle.tm_marker.specs.Order.{marker_lt}
use Rattle.tm_marker.specs.declared.body.Body.{Body}
use Rattle.tm_marker.specs.declared.entries.DataEntry.{DataEntry}
use Rattle.tm_marker.specs.declared.marker.Marker.{Marker}
use Rattle.tm_marker.specs.declared.entries.OutputEntry.{OutputEntry}
use Rattle.tm_ring.specs.Kept.{Kept, first_of, item_of}
use Rattle.tm_log.specs.Points.{items_from}
use Rattle.tm_task.specs.Exec.{Calls, exec}
use Rattle.tm_task.specs.Place.{Place, output_of}
use Rattle.tm_task.specs.Standing.{Standing, TaskView, answered, reply, begins_epoch, is_end, marker_of}
use Rattle.tm_task.specs.Stepped.{Went}
use Rattle.tm_system.specs.declared.diverged.Why.{Why}
use Rattle.tm_system.specs.Alone.{Alone, Comes, Sticks, next_or_why, walk_to, height}
use Rattle.tm_system.specs.ReplayLaws.{IsWalker}
use Rattle.tm_system.proofs.Walking.{next_ran, next_answered, walks_end, walks_go_on, walks_stick, rises, lower}
use Rattle.tm_replay.specs.declared.walker.Walker.{Walker}
use Rattle.tm_replay.specs.Walking.{alone_of, place_of}

get_drop : {X : Type 0} (xs : List X) (k i : ℕ) → slice_get (drop k xs) i ≡ slice_get xs (k + i)
get_drop xs zero i = let none : 0 + i ≡ i = omega arith in ap (slice_get xs) (sym none)
get_drop [] (suc k) i = refl
get_drop (x ∷ xs) (suc k) i =
    let one : suc k + i ≡ suc (k + i) = omega arith in
    get_drop xs k i ∙ ap (slice_get (x ∷ xs)) (sym one)

-- the next data entry, by its number
pub next_entry : (log : Kept DataEntry) (first used : ℕ) → first_of log ≤ first →
    slice_get (items_from log first) used ≡ item_of log (first + used)
next_entry log first used kept =
    let place : first - first_of log + used ≡ first + used - first_of log = omega arith in
    get_drop log.items (first - first_of log) used
    ∙ ap (slice_get log.items) place
    ∙ grind (arith, common_steps)

-- the task after an instruction that neither called nor faulted
pub ran : (w : Walker) (t : TaskView) → Went w.text.now w.task t →
    next_or_why (alone_of w) (place_of w) ≡ Ok (record { standing = t.standing; used = w.used; made = w.made })
ran w t went =
    next_ran (alone_of w) (place_of w) t.standing.body went.back went.executed
    ∙ ap (λ s. Ok (record { standing = s; used = w.used; made = w.made })) (sym went.standing)

-- the task after its call was answered
pub answers : (w : Walker) (t : TaskView) (service : ℕ) (d : DataEntry) (outputs made : List OutputEntry) → first_of w.log.now ≤ w.first →
    exec w.text.now w.task.standing.body ≡ Calls service → item_of w.log.now (w.first + w.used) ≡ Some d → d.service ≡ service →
    outputs ≡ output_of w.number w.task.standing.body d →
    t ≡ record w.task { standing = answered w.task.entry w.task.standing d } → made ≡ w.made ++ outputs →
    next_or_why (alone_of w) (place_of w) ≡ Ok (record { standing = t.standing; used = w.used + 1; made = made })
answers w t service d outputs made kept calls there is output task all =
    next_answered (alone_of w) (place_of w) service d calls (next_entry w.log.now w.first w.used kept ∙ there) (eq-eqb d.service service is)
    ∙ ap (λ os. Ok (record { standing = answered w.task.entry w.task.standing d; used = w.used + 1; made = w.made ++ os })) (sym output)
    ∙ ap (λ os. Ok (record { standing = answered w.task.entry w.task.standing d; used = w.used + 1; made = os })) (sym all)
    ∙ ap (λ (x : TaskView). Ok (record { standing = x.standing; used = w.used + 1; made = made })) (sym task)

-- the walk from the next place is that from the start
pub walks_on : (a b : Alone) (wanted : Marker) (p q start : Place) → b ≡ a → IsWalker b p → marker_lt (marker_of p.standing) wanted ≡ true →
    next_or_why b p ≡ Ok q → walk_to a wanted p ≡ walk_to a wanted start → walk_to a wanted q ≡ walk_to a wanted start
walks_on a b wanted p q start same walker before next walks =
    ap (λ x. walk_to x wanted q) (sym same)
    ∙ sym (walks_go_on b wanted p q walker before next)
    ∙ ap (λ x. walk_to x wanted p) same
    ∙ walks

-- it sticks where there is no next place
pub sticks : (a b : Alone) (wanted : Marker) (p q start : Place) (why : Why) → b ≡ a → IsWalker b p →
    marker_lt (marker_of p.standing) wanted ≡ true → next_or_why b p ≡ Err why → q ≡ p →
    walk_to a wanted p ≡ walk_to a wanted start → walk_to a wanted start ≡ Sticks q why
sticks a b wanted p q start why same walker before none stays walks =
    sym walks
    ∙ ap (λ x. walk_to x wanted p) (sym same)
    ∙ walks_stick b wanted p why walker before none
    ∙ ap (λ x. Sticks x why) (sym stays)

-- it ends where the task is not before the marker
pub comes : (a : Alone) (wanted : Marker) (p start : Place) → marker_lt (marker_of p.standing) wanted ≡ false →
    walk_to a wanted p ≡ walk_to a wanted start → walk_to a wanted start ≡ Comes p
comes a wanted p start here walks = sym walks ∙ walks_end a wanted p here

-- each instruction brings the task nearer to the marker
pub nearer : (a : Alone) (wanted : Marker) (p q : Place) → IsWalker a p → marker_lt (marker_of p.standing) wanted ≡ true →
    next_or_why a p ≡ Ok q → height wanted - height (marker_of q.standing) < height wanted - height (marker_of p.standing)
nearer a wanted p q walker before next =
    omega (arith, lower a p wanted walker before, rises a p q walker next)

-- an answer leaves the number of data words
pub words_answered : (entry : ℕ) (s : Standing) (d : DataEntry) → length (answered entry s d).body.words ≡ length s.body.words
words_answered entry s d = elim (cases_Bool (begins_epoch d)) [
  | inl begins ↦ rw begins (replied entry s.body d)
  | inr goes ↦ rw goes (replied entry s.body d)
]
  where
    replied : (entry : ℕ) (b : Body) (d : DataEntry) → length (reply entry b d).words ≡ length b.words
    replied entry b d = elim (cases_Bool (is_end d)) [
      | inl ends ↦ rw ends refl
      | inr on ↦ rw on refl
    ]
