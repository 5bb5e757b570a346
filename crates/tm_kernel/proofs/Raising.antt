-- One pass over the lines of an arrival, and one over the alarms of a tick.
use Rattle.std.proofs.Common.{◌≡◌, ℕ, ◌+◌, ◌<◌, ◌≤◌, ◌/◌, ◌%◌, ◌^◌, ◌++◌, Bool, true, false, List, [], ◌∷◌, ap, arith, length, drop, get_or, add-one, drop-cons, subst, refl, ◌⊎◌, inl, inr}
use Rattle.std.specs.List.{fold}
use Rattle.std.proofs.lemmas.List.{drop_all}
use Rattle.std.proofs.lemmas.Bool.{eq-eqb, ne_eqb}
use Rattle.tm_kernel.specs.declared.spec.Action.{Action}
use Rattle.tm_kernel.specs.State.{KernelState}
use Rattle.tm_kernel.specs.Schedule.{acted, due_actions, performed, raised_actions}

-- the last state from a line on
abbrev pub performed_from : KernelState → ℕ → ℕ → List Action → KernelState
performed_from k mask line actions = fold performed k (raised_actions mask line actions)

-- one line more
pub line_performed : (all : List Action) (mask line : ℕ) (a : Action) (end k k' : KernelState) →
    end ≡ performed_from k mask line (drop line all) → line < length all →
    ((mask / 2 ^ line % 2 ≡ 1) × (k' ≡ performed k (get_or all line a))) ⊎ ((mask / 2 ^ line % 2 ≡ 1 → ⊥) × (k' ≡ k)) →
    end ≡ performed_from k' mask (line + 1) (drop (line + 1) all)
line_performed all mask line a end k k' before there (inl set) =
    let P : List Action → Type 0 = λ xs. end ≡ performed_from k mask line xs in
    let from : drop line all ≡ get_or all line a ∷ drop (line + 1) all = rw (add-one, drop-cons all line a) refl in
    let now : end ≡ performed_from k mask line (get_or all line a ∷ drop (line + 1) all) = subst P from before in
    rw set.1 (rw (eq-eqb (mask / 2 ^ line % 2) 1 set.0) at now)
line_performed all mask line a end k k' before there (inr clear) =
    let P : List Action → Type 0 = λ xs. end ≡ performed_from k mask line xs in
    let from : drop line all ≡ get_or all line a ∷ drop (line + 1) all = rw (add-one, drop-cons all line a) refl in
    let now : end ≡ performed_from k mask line (get_or all line a ∷ drop (line + 1) all) = subst P from before in
    rw clear.1 (rw (ne_eqb (mask / 2 ^ line % 2) 1 clear.0) at now)

-- no line is left
pub lines_performed : (all : List Action) (mask line : ℕ) (end k : KernelState) →
    end ≡ performed_from k mask line (drop line all) → length all ≤ line → end ≡ k
lines_performed all mask line end k before past =
    let P : List Action → Type 0 = λ xs. end ≡ performed_from k mask line xs in
    subst P (drop_all line all past) before

-- one alarm more
pub alarm_acted : (due : List Bool) (actions : List Action) (alarm : ℕ) (a : Action) (end k k' : KernelState) →
    end ≡ fold acted k (due_actions (drop alarm due) (drop alarm actions)) → alarm < length due → alarm < length actions →
    ((get_or due alarm false ≡ true) × (k' ≡ acted k (get_or actions alarm a))) ⊎ ((get_or due alarm false ≡ false) × (k' ≡ k)) →
    end ≡ fold acted k' (due_actions (drop (alarm + 1) due) (drop (alarm + 1) actions))
alarm_acted due actions alarm a end k k' before d there step =
    let from : drop alarm actions ≡ get_or actions alarm a ∷ drop (alarm + 1) actions = rw (add-one, drop-cons actions alarm a) refl in
    let due_from : drop alarm due ≡ get_or due alarm false ∷ drop (alarm + 1) due = rw (add-one, drop-cons due alarm false) refl in
    let now : end ≡ fold acted k (due_actions (get_or due alarm false ∷ drop (alarm + 1) due) (get_or actions alarm a ∷ drop (alarm + 1) actions)) =
    subst (λ (xs : List Bool). end ≡ fold acted k (due_actions xs (get_or actions alarm a ∷ drop (alarm + 1) actions))) due_from
    (subst (λ (xs : List Action). end ≡ fold acted k (due_actions (drop alarm due) xs)) from before) in
    elim step [
      | inl set ↦ rw set.1 (rw set.0 at now)
      | inr clear ↦ rw clear.1 (rw clear.0 at now)
    ]

no_action : (due : List Bool) → due_actions due [] ≡ []
no_action [] = refl
no_action (d ∷ ds) = refl

-- no alarm is left
pub alarms_acted : (due : List Bool) (actions : List Action) (alarm : ℕ) (end k : KernelState) →
    end ≡ fold acted k (due_actions (drop alarm due) (drop alarm actions)) → length actions ≤ alarm → end ≡ k
alarms_acted due actions alarm end k before past =
    subst (λ (xs : List Action). end ≡ fold acted k xs) (no_action (drop alarm due))
    (subst (λ (xs : List Action). end ≡ fold acted k (due_actions (drop alarm due) xs)) (drop_all alarm actions past) before)

-- alarms that there are not are never due
pub due_padded : (due more : List Bool) (actions : List Action) → length due ≡ length actions → due_actions (due ++ more) actions ≡ due_actions due actions
due_padded [] more [] e = no_action more
due_padded [] more (a ∷ rest) e = absurd (omega arith)
due_padded (d ∷ ds) more [] e = refl
due_padded (true ∷ ds) more (a ∷ rest) e = ap (λ xs. a ∷ xs) (due_padded ds more rest (omega arith))
due_padded (false ∷ ds) more (a ∷ rest) e = due_padded ds more rest (omega arith)
