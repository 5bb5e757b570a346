-- A task that does not run has made no output since it stopped, and is printed as it stands.
use Rattle.std.proofs.Common.{◌≡◌, ◌≢◌, ℕ, ◌<◌, ◌≤◌, Bool, true, false, ◌&&◌, ◌==◌, [], ◌∷◌, ◌++◌, length, refl, ap, sym, ◌∙◌, inl, inr}
use Rattle.std.proofs.lemmas.Bool.{cases_Bool, cases_eq, cases_lt, eq-eqb, ne_eqb, lt-ltb, le-ltb}
use Rattle.tm_task.specs.Standing.{Standing}
use Rattle.tm_image.specs.Image.{ImageView}
use Rattle.tm_system.specs.History.{Deed, Arrives, Steps, Answers, Faulted, Moment, History}
use Rattle.tm_system.specs.Run.{running_at, body_at}
use Rattle.tm_system.specs.Controls.{controls, is_switch}
use Rattle.tm_system.specs.Telling.{upto, is_stop, printed, made, pending}
use Rattle.tm_system.specs.Follows.{DidDeed, IsRun, Boots, GoesOn}
use Rattle.tm_system.proofs.Texts.{pending_more, pending_none}
use Rattle.tm_fidelity.proofs.Still.{stands_still, runs_on}
use Rattle.tm_fidelity.proofs.Upto.{upto_before, upto_here, boot_upto}
use Rattle.tm_fidelity.proofs.Outputs.{boot_pending}

-- another task's moment makes none
pub others_made : (image : ImageView) (h : History) (m : Moment) (t : ℕ) → running_at image h ≢ t → (d : Deed) → DidDeed image h m d → made t d ≡ []
others_made image h m t rests (Arrives mask ports) did = refl
others_made image h m t rests (Steps task back) did = refl
others_made image h m t rests (Answers task entry output) did = rw (ne_eqb task t (λ e. rests (did.turn.runs ∙ e))) refl
others_made image h m t rests (Faulted task cause) did = refl

pub rests_pending : (image : ImageView) (h : History) (t : ℕ) → IsRun image h → running_at image h ≢ t → pending image t h ≡ []
rests_pending image [] t Boots rests = boot_pending image t
rests_pending image (m ∷ h) t (GoesOn r f) rests = elim (cases_Bool (is_switch image m h)) [
  | inl e ↦ pending_none image t m h e
  | inr e ↦
      let before : running_at image h ≢ t = λ q. rests (runs_on image h m e ∙ q) in
      pending_more image t m h e ∙ ap (λ l. l ++ made t m.deed) (rests_pending image h t r before)
      ∙ others_made image h m t before m.deed f.did
]

-- the words as printed last, one moment on
pub boot_printed : (image : ImageView) (p t : ℕ) → printed image p t [] ≡ (body_at image [] t).words
unfolding printed
boot_printed image p t = refl

pub printed_before : (image : ImageView) (p t : ℕ) (m : Moment) (h : History) → length (controls image h) < p →
    printed image p t (m ∷ h) ≡ (body_at image (m ∷ h) t).words
unfolding printed
printed_before image p t m h later = rw (lt-ltb (length (controls image h)) p later) refl

pub printed_stop : (image : ImageView) (p t : ℕ) (m : Moment) (h : History) → is_stop image t m h ≡ true → p ≤ length (controls image h) →
    printed image p t (m ∷ h) ≡ (body_at image (m ∷ h) t).words
unfolding printed
printed_stop image p t m h e before = rw (le-ltb (length (controls image h)) p before, e) refl

pub printed_stay : (image : ImageView) (p t : ℕ) (m : Moment) (h : History) → is_stop image t m h ≡ false → p ≤ length (controls image h) →
    printed image p t (m ∷ h) ≡ printed image p t h
unfolding printed
printed_stay image p t m h e before = rw (le-ltb (length (controls image h)) p before, e) refl

-- a task that leaves the processor stops
pub stops_if : (image : ImageView) (m : Moment) (h : History) (t : ℕ) → running_at image h ≡ t → running_at image (m ∷ h) ≢ t →
    is_stop image t m h ≡ true
stops_if image m h t runs rests = elim (cases_Bool (is_switch image m h)) [
  | inl e ↦ rw (e, eq-eqb (running_at image h) t runs) refl
  | inr e ↦ absurd (rests (runs_on image h m e ∙ runs))
]

pub no_stop : (image : ImageView) (m : Moment) (h : History) (t : ℕ) → running_at image h ≢ t → is_stop image t m h ≡ false
no_stop image m h t rests = both (is_switch image m h) (running_at image h == t) (ne_eqb (running_at image h) t rests)
  where
    both : (a b : Bool) → b ≡ false → (a && b) ≡ false
    both true b e = e
    both false b e = refl

-- from the point on
pub rests_printed : (image : ImageView) (p : ℕ) (h : History) (t : ℕ) → IsRun image h → p ≤ length (controls image h) → running_at image h ≢ t →
    printed image p t h ≡ (body_at image h t).words
rests_printed image p [] t Boots reached rests = boot_printed image p t
rests_printed image p (m ∷ h) t (GoesOn r f) reached rests = elim (cases_lt (length (controls image h)) p) [
  | inl later ↦ printed_before image p t m h later
  | inr before ↦ elim (cases_eq (running_at image h) t) [
    | inl runs ↦ printed_stop image p t m h (stops_if image m h t runs rests) before
    | inr other ↦
        printed_stay image p t m h (no_stop image m h t other) before ∙ rests_printed image p h t r before other
        ∙ ap (λ (s : Standing). s.body.words) (sym (stands_still image h m t f other))
  ]
]

-- at the point every task is printed
pub printed_at : (image : ImageView) (p : ℕ) (h : History) (t : ℕ) → printed image p t (upto image p h) ≡ (body_at image (upto image p h) t).words
printed_at image p [] t =
    ap (λ (g : History). printed image p t g) (boot_upto image p) ∙ boot_printed image p t
    ∙ ap (λ (g : History). (body_at image g t).words) (sym (boot_upto image p))
printed_at image p (m ∷ h) t = elim (cases_lt (length (controls image h)) p) [
  | inl later ↦
      ap (λ (g : History). printed image p t g) (upto_here image p m h later) ∙ printed_before image p t m h later
      ∙ ap (λ (g : History). (body_at image g t).words) (sym (upto_here image p m h later))
  | inr before ↦
      ap (λ (g : History). printed image p t g) (upto_before image p m h before) ∙ printed_at image p h t
      ∙ ap (λ (g : History). (body_at image g t).words) (sym (upto_before image p m h before))
]
