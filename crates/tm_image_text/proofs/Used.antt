-- The words up to the last that is not 0: with zeros behind them, they are all words.
use Rattle.std.proofs.Common.{◌≡◌, ◌≢◌, ℕ, zero, suc, ◌+◌, ◌-◌, ◌<◌, ◌≤◌, Bool, true, false, ◌&&◌, List, [], ◌∷◌, ◌++◌, ◌==◌, length, take, drop, replicate, slice_index, if◌then◌else◌, refl, ap, ap₂, sym, ◌∙◌, subst, All, arith, tests}
use Rattle.std.proofs.lemmas.Bool.{eqb-true}
use Rattle.std.proofs.lemmas.List.{nil_from_length}
use Rattle.std.proofs.lemmas.List.Elements.{All-nil, All-cons, All-head, All-tail}
use Rattle.tm_image.specs.Load.{written}
use Rattle.tm_image_text.specs.Lines.{onto_used, used}
use Rattle.tm_image_text.proofs.Tokens.{both}

-- how the last word and those before it stand, with one more before them
one_less : (word second : ℕ) (words : List ℕ) → length (word ∷ second ∷ words) - 1 ≡ suc (length (second ∷ words) - 1)
one_less word second words = omega arith

last_is : (word second : ℕ) (words : List ℕ) → slice_index (word ∷ second ∷ words) (length (word ∷ second ∷ words) - 1) ≡ slice_index (second ∷ words) (length (second ∷ words) - 1)
last_is word second words = ap (λ (k : ℕ). slice_index (word ∷ second ∷ words) k) (one_less word second words)

-- a 0 at the end is not used
pub used_less : (words : List ℕ) → 0 < length words → slice_index words (length words - 1) ≡ 0 → used (take (length words - 1) words) ≡ used words
used_less [] some e = absurd (omega arith)
used_less (word ∷ []) some e = let zero' : word ≡ 0 = e in rw zero' refl
used_less (word ∷ second ∷ words) some e =
    subst (λ (k : ℕ). used (take k (word ∷ second ∷ words)) ≡ used (word ∷ second ∷ words)) (sym (one_less word second words))
    (ap (onto_used word) (used_less (second ∷ words) (omega arith) (sym (last_is word second words) ∙ e)))

-- by cases: nothing is used, or a word and what is used behind it
onto_cases : (P : List ℕ → Type 0) (word : ℕ) (behind : List ℕ) → (word ≡ 0 → length behind ≡ 0 → P []) → P (word ∷ behind) → P (onto_used word behind)
onto_cases P word behind none some = go (word == 0 && length behind == 0) refl
  where
    go : (is : Bool) → (word == 0 && length behind == 0) ≡ is → P (if is then [] else word ∷ behind)
    go true e = let parts = both (word == 0) (length behind == 0) e in none (eqb-true _ _ parts.0) (eqb-true _ _ parts.1)
    go false e = some

-- all are used where the last is not 0
pub used_all : (words : List ℕ) → (0 < length words → slice_index words (length words - 1) ≢ 0) → used words ≡ words
used_all [] last = refl
used_all (word ∷ []) last = one (word == 0) refl
  where
    one : (is : Bool) → (word == 0) ≡ is → (if is && true then [] else word ∷ []) ≡ word ∷ []
    one true e = absurd (last (omega arith) (eqb-true _ _ e))
    one false e = refl
used_all (word ∷ second ∷ words) last =
    ap (onto_used word) (used_all (second ∷ words) (λ some e. last (omega arith) (last_is word second words ∙ e)))
    ∙ onto_cases (λ us. us ≡ word ∷ second ∷ words) word (second ∷ words) (λ _ none. absurd (omega arith)) refl

pub used_fits : (words : List ℕ) → length (used words) ≤ length words
used_fits [] = omega arith
used_fits (word ∷ words) = onto_cases (λ us. length us ≤ suc (length words)) word (used words) (λ _ _. omega arith) (omega (arith, used_fits words))

pub used_are : (P : ℕ → Type 0) (words : List ℕ) → All P words → All P (used words)
used_are P [] each = each
used_are P (word ∷ words) each =
    onto_cases (All P) word (used words) (λ _ _. All-nil P)
    (All-cons P word (used words) (All-head P word words each) (used_are P words (All-tail P word words each)))

used_zeros : (words : List ℕ) → used words ++ drop (length (used words)) (replicate (length words) 0) ≡ words
used_zeros [] = refl
used_zeros (word ∷ words) =
    onto_cases (λ us. us ++ drop (length us) (replicate (suc (length words)) 0) ≡ word ∷ words) word (used words)
    (λ zero' none. zeros zero' (nil_from_length (used words) none) (used_zeros words))
    (ap (λ ws. word ∷ ws) (used_zeros words))
  where
    zeros : word ≡ 0 → used words ≡ [] → used words ++ drop (length (used words)) (replicate (length words) 0) ≡ words → 0 ∷ replicate (length words) 0 ≡ word ∷ words
    zeros zero' none e = ap₂ (λ (w : ℕ) (ws : List ℕ). w ∷ ws) (sym zero') (rw none at e)

-- written from the start over zeros, they are all words
pub used_written : (words : List ℕ) → written (replicate (length words) 0) 0 (used words) ≡ words
used_written words = ap (λ (n : ℕ). used words ++ drop n (replicate (length words) 0)) (omega arith) ∙ used_zeros words
