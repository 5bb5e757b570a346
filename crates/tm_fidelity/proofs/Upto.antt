-- The history at a point, one moment on.
use Rattle.std.proofs.Common.{◌≡◌, ℕ, ◌+◌, ◌-◌, ◌<◌, ◌≤◌, true, false, [], ◌∷◌, ◌++◌, length, drop, refl, ap, sym, ◌∙◌, subst, arith, inl, inr, length-append}
use Rattle.std.proofs.lemmas.Bool.{cases_Bool, cases_lt, le-leb, lt-leb}
use Rattle.std.proofs.lemmas.List.{drop-append-le}
use Rattle.std.proofs.Math.Seq.{drop-append_seam}
use Rattle.tm_image.specs.Image.{ImageView}
use Rattle.tm_system.specs.History.{Moment, History}
use Rattle.tm_system.specs.Controls.{controls, is_switch, switch_at}
use Rattle.tm_system.specs.Telling.{upto}
use Rattle.tm_system.specs.Follows.{IsRun, Boots, GoesOn}
use Rattle.tm_system.proofs.Texts.{controls_stay, controls_more}

-- a point that was reached before stays where it is
pub upto_before : (image : ImageView) (p : ℕ) (m : Moment) (h : History) → p ≤ length (controls image h) →
    upto image p (m ∷ h) ≡ upto image p h
unfolding upto
upto_before image p m h before = rw (le-leb p (length (controls image h)) before) refl

-- another is here
pub upto_here : (image : ImageView) (p : ℕ) (m : Moment) (h : History) → length (controls image h) < p →
    upto image p (m ∷ h) ≡ m ∷ h
unfolding upto
upto_here image p m h later = rw (lt-leb p (length (controls image h)) later) refl

pub boot_upto : (image : ImageView) (p : ℕ) → upto image p [] ≡ []
unfolding upto
boot_upto image p = refl

pub no_controls : (image : ImageView) → controls image [] ≡ []
unfolding controls
no_controls image = refl

-- a point that is reached by a moment, and not before it, is the one after the moment's own control entry
pub record IsHere (image : ImageView) (p : ℕ) (m : Moment) (h : History) : Type 0 where
  pub switch : is_switch image m h ≡ true
  pub number : p ≡ length (controls image h) + 1
  pub own : drop (p - 1) (controls image (m ∷ h)) ≡ switch_at image m h ∷ []

pub here : (image : ImageView) (p : ℕ) (m : Moment) (h : History) → length (controls image h) < p → p ≤ length (controls image (m ∷ h)) →
    IsHere image p m h
here image p m h later reached = elim (cases_Bool (is_switch image m h)) [
  | inl e ↦
      let more : controls image (m ∷ h) ≡ controls image h ++ switch_at image m h ∷ [] = controls_more image m h e in
      let long = length-append (controls image h) (switch_at image m h ∷ []) in
      let number : p ≡ length (controls image h) + 1 = omega (arith, later, reached, ap length more, long) in
      let before : p - 1 ≡ length (controls image h) = omega (arith, number) in
      record {
        switch = e;
        number = number;
        own = ap (λ n. drop n (controls image (m ∷ h))) before ∙ ap (drop (length (controls image h))) more
            ∙ drop-append_seam (controls image h) (switch_at image m h ∷ []);
      }
  | inr e ↦
      let same : controls image (m ∷ h) ≡ controls image h = controls_stay image m h e in
      absurd (omega (arith, later, reached, ap length same))
]

-- the control entries from a point on, one moment later
pub later_stay : (image : ImageView) (p : ℕ) (m : Moment) (h : History) → is_switch image m h ≡ false →
    drop p (controls image (m ∷ h)) ≡ drop p (controls image h)
later_stay image p m h e = ap (drop p) (controls_stay image m h e)

pub later_more : (image : ImageView) (p : ℕ) (m : Moment) (h : History) → is_switch image m h ≡ true → p ≤ length (controls image h) →
    drop p (controls image (m ∷ h)) ≡ drop p (controls image h) ++ switch_at image m h ∷ []
later_more image p m h e before = ap (drop p) (controls_more image m h e) ∙ drop-append-le p (controls image h) (switch_at image m h ∷ []) before

-- a run at a point is a run
pub upto_run : (image : ImageView) (p : ℕ) (h : History) → IsRun image h → IsRun image (upto image p h)
upto_run image p [] Boots = subst (IsRun image) (sym (boot_upto image p)) Boots
upto_run image p (m ∷ h) (GoesOn r f) = elim (cases_lt (length (controls image h)) p) [
  | inl later ↦ subst (IsRun image) (sym (upto_here image p m h later)) (GoesOn r f)
  | inr before ↦ subst (IsRun image) (sym (upto_before image p m h before)) (upto_run image p h r)
]
