-- How one moment moves the marks of a task.
use Rattle.std.proofs.Common.{◌≡◌, ◌≢◌, ℕ, ◌+◌, Bool, true, false, ◌&&◌, ◌==◌, List, ◌∷◌, refl, ap, sym, ◌∙◌, inl, inr, Option, None, slice_get, unwrap_or}
use Rattle.std.proofs.lemmas.Bool.{cases_Bool, eq-eqb, ne_eqb}
use Rattle.tm_marker.specs.declared.body.Body.{Body}
use Rattle.tm_marker.specs.declared.entries.DataEntry.{DataEntry}
use Rattle.tm_marker.specs.declared.entries.OutputEntry.{OutputEntry}
use Rattle.tm_marker.specs.declared.entries.Kind.{Kind}
use Rattle.tm_marker.specs.declared.marker.TheConstants.{EPOCH_LENGTH}
use Rattle.tm_task.specs.declared.outcome.Cause.{Cause}
use Rattle.tm_task.specs.Standing.{Standing, went, answered, begins_epoch, reply}
use Rattle.tm_image.specs.Image.{ImageView, entry_of}
use Rattle.tm_system.specs.History.{Deed, Arrives, Steps, Answers, Faulted, Whole, Moment, History}
use Rattle.tm_system.specs.Run.{now, body_at, no_body}
use Rattle.tm_system.specs.Marks.{is_back, begins, is_start, backs, epochs, standing_at}

-- the marks after a moment, by whether it starts an epoch of the task
pub epochs_start : (t : ℕ) (m : Moment) (h : History) → is_start t m.deed (backs t h) ≡ true → epochs t (m ∷ h) ≡ epochs t h + 1
unfolding epochs
epochs_start t m h e = rw e refl

pub epochs_stay : (t : ℕ) (m : Moment) (h : History) → is_start t m.deed (backs t h) ≡ false → epochs t (m ∷ h) ≡ epochs t h
unfolding epochs
epochs_stay t m h e = rw e refl

pub backs_start : (t : ℕ) (m : Moment) (h : History) → is_start t m.deed (backs t h) ≡ true → backs t (m ∷ h) ≡ 0
unfolding backs
backs_start t m h e = rw e refl

pub backs_more : (t : ℕ) (m : Moment) (h : History) → is_start t m.deed (backs t h) ≡ false → is_back t m.deed ≡ true →
    backs t (m ∷ h) ≡ backs t h + 1
unfolding backs
backs_more t m h e f = rw e (rw f refl)

pub backs_stay : (t : ℕ) (m : Moment) (h : History) → is_start t m.deed (backs t h) ≡ false → is_back t m.deed ≡ false →
    backs t (m ∷ h) ≡ backs t h
unfolding backs
backs_stay t m h e f = rw e (rw f refl)

-- a deed that moves no mark of the task
pub record IsApart (t : ℕ) (deed : Deed) : Type 0 where
  pub back : is_back t deed ≡ false
  pub begins : begins t deed ≡ false

pub apart_starts : (t : ℕ) (deed : Deed) (count : ℕ) → IsApart t deed → is_start t deed count ≡ false
apart_starts t deed count a = rw a.begins (rw a.back refl)

pub arrives_apart : (t mask : ℕ) (ports : List ℕ) → IsApart t (Arrives mask ports)
arrives_apart t mask ports = record { back = refl; begins = refl }

pub faulted_apart : (t r : ℕ) (cause : Cause) → IsApart t (Faulted r cause)
faulted_apart t r cause = record { back = refl; begins = refl }

pub steps_apart : (t r : ℕ) (back : Bool) → t ≢ r → IsApart t (Steps r back)
steps_apart t r back other = record { back = rw (ne_eqb r t (λ e. other (sym e))) refl; begins = refl }

pub answers_apart : (t r : ℕ) (entry : DataEntry) (output : Option OutputEntry) → t ≢ r → IsApart t (Answers r entry output)
answers_apart t r entry output other = record { back = refl; begins = rw (ne_eqb r t (λ e. other (sym e))) refl }

-- two standings of equal parts
pub same_standing : (b b' : Body) (e e' c c' : ℕ) → b ≡ b' → e ≡ e' → c ≡ c' →
    (let s : Standing = record { body = b; epoch = e; count = c } in s) ≡ record { body = b'; epoch = e'; count = c' }
same_standing b b' e e' c c' p q r = cc

-- a task that a moment leaves as it was
pub rests_at : (image : ImageView) (m : Moment) (h : History) (t : ℕ) → IsApart t m.deed →
    slice_get m.after.bodies t ≡ slice_get (now image h).bodies t → standing_at image (m ∷ h) t ≡ standing_at image h t
rests_at image m h t apart same =
    let stays : is_start t m.deed (backs t h) ≡ false = apart_starts t m.deed (backs t h) apart in
    same_standing _ _ _ _ _ _ (ap (λ o. unwrap_or o no_body) same) (epochs_stay t m h stays) (backs_stay t m h stays apart.back)

-- the running task after an instruction that went on
step_starts : (r : ℕ) (back : Bool) (count : ℕ) → is_start r (Steps r back) count ≡ (back && (count + 1 == EPOCH_LENGTH))
step_starts r back count = rw (eq-eqb r r refl) refl

step_backs : (r : ℕ) (back : Bool) → is_back r (Steps r back) ≡ back
step_backs r back = rw (eq-eqb r r refl) refl

-- a moment of an instruction that went on
abbrev pub step_moment : ℕ → Bool → Whole → Moment
step_moment r back w = record { deed = Steps r back; leaves = None; after = w }

went_on : (image : ImageView) (h : History) (r : ℕ) (next : Body) (w : Whole) (back : Bool) →
    body_at image (step_moment r back w ∷ h) r ≡ next →
    standing_at image (step_moment r back w ∷ h) r ≡ went (standing_at image h r) next back
went_on image h r next w false body =
    same_standing _ _ _ _ _ _ body
    (epochs_stay r (step_moment r false w) h (step_starts r false (backs r h)))
    (backs_stay r (step_moment r false w) h (step_starts r false (backs r h)) (step_backs r false))
went_on image h r next w true body = elim (cases_Bool (backs r h + 1 == EPOCH_LENGTH)) [
  | inl full ↦
      let starts : is_start r (Steps r true) (backs r h) ≡ true = step_starts r true (backs r h) ∙ full in
      rw full (same_standing _ _ _ _ _ _ body (epochs_start r (step_moment r true w) h starts) (backs_start r (step_moment r true w) h starts))
  | inr more ↦
      let stays : is_start r (Steps r true) (backs r h) ≡ false = step_starts r true (backs r h) ∙ more in
      rw more (same_standing _ _ _ _ _ _ body (epochs_stay r (step_moment r true w) h stays)
      (backs_more r (step_moment r true w) h stays (step_backs r true)))
]

pub went_at : (image : ImageView) (h : History) (r : ℕ) (next : Body) (w : Whole) (back : Bool) →
    body_at image (step_moment r back w ∷ h) r ≡ next →
    standing_at image (step_moment r back w ∷ h) r ≡ went (standing_at image h r) next back
went_at image h r next w back body = went_on image h r next w back body

-- a moment of an answered call
abbrev pub answer_moment : ℕ → DataEntry → Option OutputEntry → Option Kind → Whole → Moment
answer_moment r entry output leaves w = record { deed = Answers r entry output; leaves = leaves; after = w }

-- the caller after the answer of its call
pub answered_at : (image : ImageView) (h : History) (r : ℕ) (entry : DataEntry) (output : Option OutputEntry)
    (leaves : Option Kind) (w : Whole) →
    body_at image (answer_moment r entry output leaves w ∷ h) r ≡ reply (entry_of image r) (body_at image h r) entry →
    standing_at image (answer_moment r entry output leaves w ∷ h) r ≡ answered (entry_of image r) (standing_at image h r) entry
answered_at image h r entry output leaves w body =
    let m : Moment = answer_moment r entry output leaves w in
    elim (cases_Bool (begins_epoch entry)) [
      | inl starts ↦
          let start : is_start r (Answers r entry output) (backs r h) ≡ true = rw (eq-eqb r r refl) (rw starts refl) in
          rw starts (same_standing _ _ _ _ _ _ body (epochs_start r m h start) (backs_start r m h start))
      | inr stays ↦
          let stay : is_start r (Answers r entry output) (backs r h) ≡ false = rw (eq-eqb r r refl) (rw stays refl) in
          rw stays (same_standing _ _ _ _ _ _ body (epochs_stay r m h stay) (backs_stay r m h stay refl))
    ]
