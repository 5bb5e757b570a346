-- How the moments and slices of a script follow one another.
use Rattle.std.proofs.Common.{◌≡◌, ◌≢◌, ℕ, zero, suc, ◌+◌, List, [], ◌∷◌, ◌++◌, refl, ap, ◌∙◌, arith, add-one, add-zero}
use Rattle.std.proofs.lemmas.Bool.{ne_eqb, eq-eqb}
use Rattle.tm_marker.specs.declared.entries.Slice.{Slice}
use Rattle.tm_kernel.specs.State.{nobody}
use Rattle.tm_image.specs.Image.{ImageView}
use Rattle.tm_system.specs.History.{History}
use Rattle.tm_system.specs.Run.{running_at, next_moment, turned, turns, sliced, played}

-- a task that runs makes the next moment
pub turned_on : (image : ImageView) (h : History) → running_at image h ≢ nobody → turned image h ≡ next_moment image h ∷ h
turned_on image h somebody = rw (ne_eqb _ _ somebody) refl

pub turns_next : (image : ImageView) (n : ℕ) (h : History) → turned image (turns image n h) ≡ turns image (suc n) h
unfolding turns
turns_next image n h = refl

pub turns_more : (image : ImageView) (n : ℕ) (h : History) → turns image (n + 1) h ≡ turned image (turns image n h)
unfolding turns
turns_more image n h = rw add-one refl

pub turns_none : (image : ImageView) (h : History) → turns image 0 h ≡ h
unfolding turns
turns_none image h = refl

-- where nobody runs, no instruction follows
pub turns_idle : (image : ImageView) (n k : ℕ) (h : History) → running_at image (turns image n h) ≡ nobody →
    turns image (n + k) h ≡ turns image n h
turns_idle image n zero h idle = ap (λ m. turns image m h) (add-zero n)
turns_idle image n (suc k) h idle =
    let same = turns_idle image n k h idle in
    let next : turns image (n + suc k) h ≡ turned image (turns image (n + k) h) = ap (λ m. turns image m h) (omega arith) ∙ turns_more image (n + k) h in
    next ∙ ap (turned image) same ∙ rw (eq-eqb _ _ idle) refl

-- one more slice at the end of a script
pub played_more : (image : ImageView) (xs : List Slice) (x : Slice) (h : History) → played image h (xs ++ x ∷ []) ≡ sliced image (played image h xs) x
played_more image [] x h = refl
played_more image (y ∷ ys) x h = played_more image ys x (sliced image h y)
