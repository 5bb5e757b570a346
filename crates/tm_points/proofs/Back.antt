-- One pass back over the control entries.
use Rattle.std.proofs.Common.{◌≡◌, ℕ, ◌+◌, ◌-◌, ◌<◌, ◌≤◌, List, [], ◌∷◌, ◌++◌, Some, None, length, drop, slice_get, get_or, cond, ap, subst, sym, ◌∙◌, arith, add-one, inl, inr}
use Rattle.std.specs.Prelude.{unwrap_or, ◌==◌, true, false, Option, Result, Ok, Err, is_err, IsSomeAnd}
use Rattle.std.specs.Result.{result_err}
use Rattle.std.proofs.lemmas.Grind.{common_steps}
use Rattle.std.proofs.lemmas.Bool.{cases_lt}
use Rattle.std.proofs.lemmas.Bool.Decides.{eqb_tells}
use Rattle.std.proofs.lemmas.List.{length_push, get_or_append_left}
use Rattle.std.proofs.lemmas.Option.{slice_get-get_or, unwrap_or-slice_get}
use Rattle.std.proofs.Math.Seq.{get_or-append_seam}
use Rattle.tm_marker.specs.declared.marker.Marker.{Marker}
use Rattle.tm_marker.specs.declared.entries.Switch.{Switch}
use Rattle.tm_ring.specs.Kept.{Kept, first_of, item_of}
use Rattle.tm_log.specs.Window.{WindowView, zero_marker}
use Rattle.tm_points.specs.Finder.{entries_from, resumed_in, marker_at_point, lost_of_epoch, lost_of_task, least_answer, lost_of}
use Rattle.tm_points.specs.Epochs.{AreEpochs, AreTasksEpochs}
use Rattle.tm_points.specs.Points.{is_accepted}
use Rattle.tm_points.specs.declared.finder.Lost.{Lost}
use Rattle.tm_points.proofs.Least.{least_found}
use Rattle.tm_points.proofs.Scanning.{reads_here, reads_later}

-- a list with one more item, read before it and at it
get_front : {X : Type 0} (xs : List X) (y : X) (k : ℕ) → k < length xs → slice_get (xs ++ y ∷ []) k ≡ slice_get xs k
get_front xs y k inside =
    slice_get-get_or (xs ++ y ∷ []) k y (omega (arith, length_push xs y))
    ∙ ap Some (get_or_append_left xs (y ∷ []) y k inside)
    ∙ sym (slice_get-get_or xs k y inside)

get_last : {X : Type 0} (xs : List X) (y : X) → slice_get (xs ++ y ∷ []) (length xs) ≡ Some y
get_last xs y =
    slice_get-get_or (xs ++ y ∷ []) (length xs) y (omega (arith, length_push xs y))
    ∙ ap Some (get_or-append_seam xs y [] y)

-- the epoch in which a task stands by the entries from a number on, where its last markers are these
abbrev pub epoch_after : Kept Switch → List Marker → ℕ → ℕ → ℕ
epoch_after control ats task number =
    (unwrap_or (resumed_in (entries_from control number) task) (unwrap_or (slice_get ats task) zero_marker)).epoch

-- the pass has come down to a number: the epoch there, and all epochs from there on
pub record IsBack (control : Kept Switch) (task : ℕ) (ats : List Marker) (number epoch : ℕ) (epochs : List ℕ) : Type 0 where
  pub now : epoch ≡ epoch_after control ats task number
  pub long : length epochs + number ≡ control.total + 1
  pub each : (k : ℕ) → number ≤ k → k ≤ control.total →
      slice_get epochs (control.total - k) ≡ Some (epoch_after control ats task k)

-- past the last entry a task stands as at the last moment
after_all : (control : Kept Switch) (ats : List Marker) (task : ℕ) → length control.items ≤ control.total →
    epoch_after control ats task control.total ≡ (unwrap_or (slice_get ats task) zero_marker).epoch
after_all control ats task among =
    let all : control.total - first_of control ≡ length control.items = omega arith in
    ap (λ n. (unwrap_or (resumed_in (drop n control.items) task) (unwrap_or (slice_get ats task) zero_marker)).epoch) all
    ∙ grind (arith, common_steps)

pub back_starts : (control : Kept Switch) (ats : List Marker) (task epoch : ℕ) → length control.items ≤ control.total →
    epoch ≡ (unwrap_or (slice_get ats task) zero_marker).epoch → IsBack control task ats control.total epoch (epoch ∷ [])
back_starts control ats task epoch among is =
    let now : epoch ≡ epoch_after control ats task control.total = is ∙ sym (after_all control ats task among) in
    record {
      now = now;
      long = grind (arith, common_steps);
      each = λ k reached made.
          let same : k ≡ control.total = omega arith in
          let none : control.total - k ≡ 0 = omega arith in
          ap (slice_get (epoch ∷ [])) none
          ∙ ap Some now
          ∙ ap (λ n. Some (epoch_after control ats task n)) (sym same);
    }

-- the epoch by one more entry
now_here : (control : Kept Switch) (ats : List Marker) (task number epoch : ℕ) (entry : Switch) → first_of control ≤ number →
    item_of control number ≡ Some entry → epoch ≡ epoch_after control ats task (number + 1) →
    cond (entry.to == task) entry.to_at.epoch epoch ≡ epoch_after control ats task number
now_here control ats task number epoch entry reached is now =
    elim (eqb_tells entry.to task) [
      | inl same ↦
          rw same.0
          (sym (ap (λ o. (unwrap_or o (unwrap_or (slice_get ats task) zero_marker)).epoch)
          (reads_here control number entry task reached is same.1)))
      | inr other ↦
          rw other.0
          (now ∙ ap (λ o. (unwrap_or o (unwrap_or (slice_get ats task) zero_marker)).epoch)
          (reads_later control number entry task reached is other.1))
    ]

pub back_more : (control : Kept Switch) (task : ℕ) (ats : List Marker) (before number epoch next : ℕ) (epochs : List ℕ) (entry : Switch) →
    IsBack control task ats before epoch epochs → before ≡ number + 1 → first_of control ≤ number → number < control.total →
    item_of control number ≡ Some entry → next ≡ cond (entry.to == task) entry.to_at.epoch epoch →
    IsBack control task ats number next (epochs ++ next ∷ [])
back_more control task ats before number epoch next epochs entry back one reached made is told =
    let here : epoch ≡ epoch_after control ats task (number + 1) = back.now ∙ ap (epoch_after control ats task) one in
    let now : next ≡ epoch_after control ats task number = told ∙ now_here control ats task number epoch entry reached is here in
    record {
      now = now;
      long = omega (arith, length_push epochs next);
      each = λ k down up.
          elim (cases_lt number k) [
            | inl later ↦
                let inside : control.total - k < length epochs = omega (arith, back.long) in
                get_front epochs next (control.total - k) inside
                ∙ back.each k (omega arith) up
            | inr last ↦
                let same : k ≡ number = omega arith in
                let end : control.total - k ≡ length epochs = omega (arith, back.long) in
                ap (slice_get (epochs ++ next ∷ [])) end
                ∙ get_last epochs next
                ∙ ap Some now
                ∙ ap (λ n. Some (epoch_after control ats task n)) (sym same)
          ];
    }

-- what was read at an index is what is told of the item there
read_there : {X : Type 0} (P : X → Type 0) (o : Option X) (x : X) → IsSomeAnd o P → unwrap_or o x ≡ x → P x
read_there P None x told same = absurd told
read_there P (Some y) x told same = subst P same told

-- what a task lacks by its epoch in the list is what it lacks at the point
pub lacks_at : (w : WindowView) (all : List (List ℕ)) (epochs : List ℕ) (task place point later epoch : ℕ) →
    AreTasksEpochs w all (length w.shape.words) → task < length w.shape.words → place ≡ task → epochs ≡ get_or all place epochs →
    slice_get epochs later ≡ Some epoch → later ≡ w.control.total - (point - 1) → first_of w.control ≤ point - 1 →
    point - 1 ≤ w.control.total → lost_of_epoch w task epoch ≡ lost_of_task w point task
lacks_at w all epochs task place point later epoch are below here read at is reached made =
    let own : AreEpochs w task epochs =
    read_there (AreEpochs w task) (slice_get all task) epochs (are task below)
    (unwrap_or-slice_get all task epochs ∙ ap (λ k. get_or all k epochs) (sym here) ∙ sym read) in
    let told : Some epoch ≡ Some (marker_at_point w point task).epoch =
    sym at ∙ ap (slice_get epochs) is ∙ own.each (point - 1) reached made in
    let same : epoch ≡ (marker_at_point w point task).epoch = cc in
    ap (lost_of_epoch w task) same

-- a task's answer is a refusal where it is an error, and none where it isn't
refused : (r : Result (Unit {0}) Lost) (o : Option Lost) → result_err r ≡ o → is_err r ≡ true → (x : Lost) × (o ≡ Some x)
refused (Ok u) o is err = absurd (cc)
refused (Err x) o is err = (x, sym is)

passed : (r : Result (Unit {0}) Lost) (o : Option Lost) → result_err r ≡ o → is_err r ≡ false → o ≡ None
passed (Ok u) o is err = sym is
passed (Err x) o is err = absurd (cc)

-- a point of which a task lacks something isn't accepted
pub refuses : (w : WindowView) (point task : ℕ) (r : Result (Unit {0}) Lost) → least_answer (lost_of_task w point) task ≡ None →
    task < length w.shape.words → point ≤ w.control.total → first_of w.control ≤ point - 1 →
    result_err r ≡ lost_of_task w point task → is_err r ≡ true → false ≡ is_accepted w point
unfolding lost_of
refuses w point task r before below made reached is err =
    let x : (x : Lost) × (lost_of_task w point task ≡ Some x) = refused r (lost_of_task w point task) is err in
    let found : least_answer (lost_of_task w point) (length w.shape.words) ≡ Some x.0 =
    least_found (lost_of_task w point) task (length w.shape.words) x.0 before x.1 below in
    grind (arith, common_steps, found)

-- one more task lacks nothing
pub passes_on : (w : WindowView) (point task : ℕ) (r : Result (Unit {0}) Lost) → least_answer (lost_of_task w point) task ≡ None →
    result_err r ≡ lost_of_task w point task → is_err r ≡ false → least_answer (lost_of_task w point) (task + 1) ≡ None
passes_on w point task r before is err =
    let none : lost_of_task w point task ≡ None = passed r (lost_of_task w point task) is err in
    rw (add-one, before) none
