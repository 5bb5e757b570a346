-- What one more moment adds to the text from boot.
use Rattle.std.proofs.Common.{◌≡◌, ℕ, ◌≤◌, true, false, nat_lt, nat_le, [], ◌∷◌, ◌++◌, length, refl, arith, length-append, inl, inr}
use Rattle.std.proofs.lemmas.Bool.{cases_Bool, le-ltb, le-leb}
use Rattle.tm_image.specs.Image.{ImageView}
use Rattle.tm_system.specs.History.{Moment, History}
use Rattle.tm_system.specs.Run.{body_at}
use Rattle.tm_system.specs.Controls.{is_switch, switch_at, controls}
use Rattle.tm_system.specs.Telling.{upto, is_stop, printed, made, pending, blocks, block_at}

none_below : (n : ℕ) → nat_lt n 0 ≡ false
none_below n = le-ltb n 0 (omega arith)

all_from : (n : ℕ) → nat_le 0 n ≡ true
all_from n = le-leb 0 n (omega arith)

-- point 0 is boot
pub upto_boot : (image : ImageView) (h : History) → upto image 0 h ≡ []
unfolding upto
upto_boot image [] = refl
upto_boot image (m ∷ h) = rw (all_from (length (controls image h))) (upto_boot image h)

-- a moment without a control entry adds none
pub controls_stay : (image : ImageView) (m : Moment) (h : History) → is_switch image m h ≡ false → controls image (m ∷ h) ≡ controls image h
unfolding controls
controls_stay image m h e = rw e refl

-- a moment with a control entry adds it
pub controls_more : (image : ImageView) (m : Moment) (h : History) → is_switch image m h ≡ true →
    controls image (m ∷ h) ≡ controls image h ++ switch_at image m h ∷ []
unfolding controls
controls_more image m h e = rw e refl

-- there is at most one control entry for each moment
pub controls_few : (image : ImageView) (h : History) → length (controls image h) ≤ length h
unfolding controls
controls_few image [] = omega arith
controls_few image (m ∷ h) =
    let few = controls_few image h in
    elim (cases_Bool (is_switch image m h)) [
      | inl e ↦ rw e (rw length-append (omega arith))
      | inr e ↦ rw e (omega arith)
    ]

pub blocks_stay : (image : ImageView) (m : Moment) (h : History) → is_switch image m h ≡ false → blocks image 0 (m ∷ h) ≡ blocks image 0 h
unfolding blocks
blocks_stay image m h e = rw e refl

pub blocks_more : (image : ImageView) (m : Moment) (h : History) → is_switch image m h ≡ true →
    blocks image 0 (m ∷ h) ≡ blocks image 0 h ++ block_at image 0 m h ∷ []
unfolding blocks
blocks_more image m h e = rw (e, all_from (length (controls image h))) refl

-- a task that stops is printed as it stands then, and another stays as it was printed
pub printed_stop : (image : ImageView) (task : ℕ) (m : Moment) (h : History) → is_stop image task m h ≡ true →
    printed image 0 task (m ∷ h) ≡ (body_at image (m ∷ h) task).words
unfolding printed
printed_stop image task m h e = rw (none_below (length (controls image h)), e) refl

pub printed_stay : (image : ImageView) (task : ℕ) (m : Moment) (h : History) → is_stop image task m h ≡ false →
    printed image 0 task (m ∷ h) ≡ printed image 0 task h
unfolding printed
printed_stay image task m h e = rw (none_below (length (controls image h)), e) refl

pub pending_more : (image : ImageView) (task : ℕ) (m : Moment) (h : History) → is_switch image m h ≡ false →
    pending image task (m ∷ h) ≡ pending image task h ++ made task m.deed
unfolding pending
pending_more image task m h e = rw e refl

pub pending_none : (image : ImageView) (task : ℕ) (m : Moment) (h : History) → is_switch image m h ≡ true →
    pending image task (m ∷ h) ≡ []
unfolding pending
pending_none image task m h e = rw e refl
