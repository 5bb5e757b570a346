-- Turns, one after another.
use Rattle.std.proofs.Common.{◌≡◌, ℕ, zero, suc, ◌+◌, refl, ap, ◌∙◌, add-zero, add-suc}
use Rattle.tm_image.specs.Image.{ImageView}
use Rattle.tm_system.specs.History.{History}
use Rattle.tm_system.specs.Run.{turned, turns}
use Rattle.tm_system.specs.Turns.{TurnsAdd}

turns_next : (image : ImageView) (n : ℕ) (h : History) → turns image (suc n) h ≡ turned image (turns image n h)
unfolding turns
turns_next image n h = refl

turns_none : (image : ImageView) (h : History) → turns image zero h ≡ h
unfolding turns
turns_none image h = refl

add_turns : (image : ImageView) (a b : ℕ) (h : History) → turns image (a + b) h ≡ turns image b (turns image a h)
add_turns image a zero h = rw add-zero (rw turns_none refl)
add_turns image a (suc b) h =
    ap (λ (n : ℕ). turns image n h) (add-suc a b) ∙ turns_next image (a + b) h ∙
    ap (λ (x : History). turned image x) (add_turns image a b h) ∙
    (let last : turned image (turns image b (turns image a h)) ≡ turns image (suc b) (turns image a h) = rw turns_next refl in last)

pub turns_add : TurnsAdd
turns_add = add_turns
