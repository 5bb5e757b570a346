-- The least of several answers.
use Rattle.std.proofs.Common.{◌≡◌, ℕ, ◌<◌, zero, suc, Option, Some, None, ap, ◌∙◌, arith, inl, inr, refl}
use Rattle.std.specs.Option.{option_or}
use Rattle.std.proofs.lemmas.Bool.{cases_lt}
use Rattle.tm_points.specs.Finder.{least_answer}
use Rattle.tm_points.specs.Laws.{IsLeast}

module _ {X : Type 0} where
  -- the answer of a number below which there is none is the least one
  pub least_found : (answer : ℕ → Option X) (number most : ℕ) (x : X) → least_answer answer number ≡ None →
      answer number ≡ Some x → number < most → least_answer answer most ≡ Some x
  least_found answer number zero x none found below = absurd (omega arith)
  least_found answer number (suc most) x none found below =
      elim (cases_lt number most) [
        | inl before ↦ ap (λ o. option_or o (answer most)) (least_found answer number most x none found before)
        | inr here ↦
            let same : most ≡ number = omega arith in
            ap (λ n. option_or (least_answer answer n) (answer n)) same
            ∙ ap (λ o. option_or o (answer number)) none
            ∙ found
      ]

  -- there is no answer where neither of two is one
  no_answers : (o p : Option X) → option_or o p ≡ None → (o ≡ None) × (p ≡ None)
  no_answers None p none = (refl, none)
  no_answers (Some x) p none = absurd (cc)

  -- where there is none, no number has one
  pub least_none : (answer : ℕ → Option X) (most : ℕ) → least_answer answer most ≡ None →
      (k : ℕ) → k < most → answer k ≡ None
  least_none answer zero none k below = absurd (omega arith)
  least_none answer (suc most) none k below =
      let both : (least_answer answer most ≡ None) × (answer most ≡ None) = no_answers (least_answer answer most) (answer most) none in
      elim (cases_lt k most) [
        | inl before ↦ least_none answer most both.0 k before
        | inr here ↦
            let same : k ≡ most = omega arith in
            ap answer same ∙ both.1
      ]

  -- where no number has one, there is none
  pub none_least : (answer : ℕ → Option X) (most : ℕ) → ((k : ℕ) → k < most → answer k ≡ None) →
      least_answer answer most ≡ None
  none_least answer zero none = refl
  none_least answer (suc most) none =
      ap (λ o. option_or o (answer most)) (none_least answer most (λ k below. none k (omega arith)))
      ∙ none most (omega arith)

  -- one more number, by the answer before it
  least_next : (answer : ℕ → Option X) (most : ℕ) (x : X) (o : Option X) → least_answer answer most ≡ o →
      ((y : X) → least_answer answer most ≡ Some y → IsLeast answer most y) →
      option_or o (answer most) ≡ Some x → IsLeast answer (suc most) x
  least_next answer most x None none before is =
      record { number = most; below = omega arith; answers = is; least = least_none answer most none }
  least_next answer most x (Some y) there before is =
      let l : IsLeast answer most y = before y there in
      record { number = l.number; below = omega arith; answers = l.answers ∙ is; least = l.least }

  pub least_is : (answer : ℕ → Option X) (most : ℕ) (x : X) → least_answer answer most ≡ Some x → IsLeast answer most x
  least_is answer zero x is = absurd (cc)
  least_is answer (suc most) x is =
      least_next answer most x (least_answer answer most) refl (λ y there. least_is answer most y there) is
