-- A short list, and zeros behind it.
use Rattle.std.proofs.Common.{◌≡◌, ℕ, ◌+◌, ◌-◌, ◌<◌, ◌≤◌, ◌++◌, List, [], ◌∷◌, length, map, take, replicate, set, get_or, refl, ap, sym, ◌∙◌, arith, zero, suc, append_assoc}
use Rattle.std.proofs.lemmas.List.{length-map, length-take-le, map_more}
use Rattle.tm_kernel.specs.declared.spec.TaskSpec.{TaskSpec}

-- what is put behind a list
put_behind : (xs : List ℕ) (i x y : ℕ) (ys : List ℕ) → length xs ≡ i → set (xs ++ y ∷ ys) i x ≡ xs ++ x ∷ ys
put_behind [] zero x y ys e = refl
put_behind [] (suc i) x y ys e = absurd (omega arith)
put_behind (z ∷ xs) zero x y ys e = absurd (omega arith)
put_behind (z ∷ xs) (suc i) x y ys e = ap (λ zs. z ∷ zs) (put_behind xs i x y ys (omega arith))

-- one priority more, and one zero fewer
pub priority_put : (tasks : List TaskSpec) (i : ℕ) (t : TaskSpec) (priorities : List ℕ) → i < length tasks → length tasks ≤ 16 →
    priorities ≡ map (λ (t : TaskSpec). t.priority) (take i tasks) ++ replicate (16 - i) 0 →
    set priorities i (get_or tasks i t).priority ≡ map (λ (t : TaskSpec). t.priority) (take (i + 1) tasks) ++ replicate (16 - (i + 1)) 0
priority_put tasks i t priorities within few is =
    let before : List ℕ = map (λ (t : TaskSpec). t.priority) (take i tasks) in
    let x : ℕ = (get_or tasks i t).priority in
    let number : length before ≡ i = length-map (take i tasks) (λ (t : TaskSpec). t.priority) ∙ length-take-le i tasks (omega arith) in
    let one : 16 - i ≡ suc (16 - (i + 1)) = omega arith in
    let zeros : replicate (16 - i) 0 ≡ 0 ∷ replicate (16 - (i + 1)) 0 = ap (λ (n : ℕ). replicate n 0) one in
    let more : map (λ (t : TaskSpec). t.priority) (take (i + 1) tasks) ≡ before ++ x ∷ [] = map_more (λ (t : TaskSpec). t.priority) tasks i t within in
    ap (λ (ps : List ℕ). set ps i x) (is ∙ ap (λ (zs : List ℕ). before ++ zs) zeros)
    ∙ put_behind before i x 0 (replicate (16 - (i + 1)) 0) number
    ∙ sym (ap (λ (ps : List ℕ). ps ++ replicate (16 - (i + 1)) 0) more ∙ append_assoc before (x ∷ []) (replicate (16 - (i + 1)) 0))
