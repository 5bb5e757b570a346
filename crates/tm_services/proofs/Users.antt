-- One pass over the tasks that a mask names.
use Rattle.std.proofs.Common.{◌≡◌, ℕ, ◌+◌, ◌<◌, true, false, max, fold, List, ◌∷◌, length, drop, get_or, ◌⊎◌, inl, inr, subst}
use Rattle.std.proofs.lemmas.List.{drop_more}
use Rattle.tm_services.specs.Ceilings.{is_user, user_priorities}

-- the greatest priority from a task on
abbrev pub greatest_from : ℕ → ℕ → ℕ → List ℕ → ℕ
greatest_from best mask task priorities = fold max best (user_priorities mask task priorities)

-- one task more
pub task_seen : (all : List ℕ) (mask task end best best' : ℕ) →
    end ≡ greatest_from best mask task (drop task all) → task < length all →
    ((is_user mask task ≡ true) × (best' ≡ max best (get_or all task 0))) ⊎ ((is_user mask task ≡ false) × (best' ≡ best)) →
    end ≡ greatest_from best' mask (task + 1) (drop (task + 1) all)
task_seen all mask task end best best' before there (inl user) =
    let P : List ℕ → Type 0 = λ xs. end ≡ greatest_from best mask task xs in
    let now : end ≡ greatest_from best mask task (get_or all task 0 ∷ drop (task + 1) all) = subst P (drop_more all task 0 there) before in
    rw user.1 (rw user.0 at now)
task_seen all mask task end best best' before there (inr other) =
    let P : List ℕ → Type 0 = λ xs. end ≡ greatest_from best mask task xs in
    let now : end ≡ greatest_from best mask task (get_or all task 0 ∷ drop (task + 1) all) = subst P (drop_more all task 0 there) before in
    rw other.1 (rw other.0 at now)
