-- The control entries after a point, one moment on.
use Rattle.std.proofs.Common.{◌≡◌, ℕ, ◌<◌, ◌≤◌, true, false, [], ◌∷◌, ◌++◌, length, refl, ap, ◌∙◌, arith, inl, inr, length-append}
use Rattle.std.proofs.lemmas.Bool.{cases_Bool, le-leb, lt-leb}
use Rattle.tm_image.specs.Image.{ImageView}
use Rattle.tm_system.specs.History.{Moment, History}
use Rattle.tm_system.specs.Controls.{controls, is_switch, switch_at}
use Rattle.tm_system.specs.Telling.{blocks, block_at}
use Rattle.tm_system.proofs.Texts.{controls_stay, controls_more}

pub blocks_stay : (image : ImageView) (p : ℕ) (m : Moment) (h : History) → is_switch image m h ≡ false → blocks image p (m ∷ h) ≡ blocks image p h
unfolding blocks
blocks_stay image p m h e = rw e refl

pub blocks_more : (image : ImageView) (p : ℕ) (m : Moment) (h : History) → is_switch image m h ≡ true → p ≤ length (controls image h) →
    blocks image p (m ∷ h) ≡ blocks image p h ++ block_at image p m h ∷ []
unfolding blocks
blocks_more image p m h e before = rw (e, le-leb p (length (controls image h)) before) refl

-- a moment before the point adds none
pub blocks_before : (image : ImageView) (p : ℕ) (m : Moment) (h : History) → length (controls image h) < p →
    blocks image p (m ∷ h) ≡ blocks image p h
unfolding blocks
blocks_before image p m h later = elim (cases_Bool (is_switch image m h)) [
  | inl e ↦ rw (e, lt-leb p (length (controls image h)) later) refl
  | inr e ↦ rw e refl
]

pub boot_blocks : (image : ImageView) (p : ℕ) → blocks image p [] ≡ []
unfolding blocks
boot_blocks image p = refl

pub controls_rise : (image : ImageView) (m : Moment) (h : History) → length (controls image h) ≤ length (controls image (m ∷ h))
controls_rise image m h = elim (cases_Bool (is_switch image m h)) [
  | inl e ↦ omega (arith, ap length (controls_more image m h e), length-append (controls image h) (switch_at image m h ∷ []))
  | inr e ↦ omega (arith, ap length (controls_stay image m h e))
]

-- there is none before the point
pub no_blocks : (image : ImageView) (p : ℕ) (h : History) → length (controls image h) < p → blocks image p h ≡ []
no_blocks image p [] before = boot_blocks image p
no_blocks image p (m ∷ h) before =
    let later : length (controls image h) < p = omega (arith, before, controls_rise image m h) in
    blocks_before image p m h later ∙ no_blocks image p h later
