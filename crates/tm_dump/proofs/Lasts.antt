-- The last control entry, and a test of every one.
use Rattle.std.proofs.Common.{◌≡◌, ℕ, ◌+◌, ◌≤◌, List, [], ◌∷◌, length, drop, sym, ap, ◌∙◌, arith, zero, suc, Bool, true, false, ◌&&◌}
use Rattle.std.specs.Prelude.{slice_get, Some}
use Rattle.std.specs.List.{list_all}
use Rattle.std.proofs.lemmas.List.{drop_all}
use Rattle.tm_marker.specs.declared.entries.Switch.{Switch}
use Rattle.tm_log.specs.WellFormed.{ended_by, runs_last, ended_last}
use Rattle.tm_dump.proofs.Writing.{drop_next}

pub runs_after : (entries : List Switch) (n : ℕ) (last : Switch) → slice_get entries n ≡ Some last → suc n ≡ length entries → runs_last entries ≡ last.to
runs_after [] n last there len = absurd (omega arith)
runs_after (entry ∷ []) zero last there len = cc
runs_after (entry ∷ []) (suc n) last there len = absurd (omega arith)
runs_after (entry ∷ after ∷ rest) zero last there len = absurd (omega arith)
runs_after (entry ∷ after ∷ rest) (suc n) last there len = runs_after (after ∷ rest) n last there (omega arith)

pub ended_after : (entries : List Switch) (n : ℕ) (last : Switch) → slice_get entries n ≡ Some last → suc n ≡ length entries → ended_last entries ≡ ended_by last.kind
ended_after [] n last there len = absurd (omega arith)
ended_after (entry ∷ []) zero last there len = cc
ended_after (entry ∷ []) (suc n) last there len = absurd (omega arith)
ended_after (entry ∷ after ∷ rest) zero last there len = absurd (omega arith)
ended_after (entry ∷ after ∷ rest) (suc n) last there len = ended_after (after ∷ rest) n last there (omega arith)

module _ {X : Type 0} where
  -- the item of an index passes the test
  pub all_next : (p : X → Bool) (xs : List X) (i : ℕ) (x : X) (whole : Bool) →
      list_all p (drop i xs) ≡ whole → slice_get xs i ≡ Some x → p x ≡ true → list_all p (drop (i + 1) xs) ≡ whole
  all_next p xs i x whole before there passes =
      sym (ap (list_all p) (drop_next xs i x there) ∙ ap (λ b. b && list_all p (drop (i + 1) xs)) passes) ∙ before

  -- the item of an index does not pass it
  pub all_fails : (p : X → Bool) (xs : List X) (i : ℕ) (x : X) (whole : Bool) →
      list_all p (drop i xs) ≡ whole → slice_get xs i ≡ Some x → p x ≡ false → whole ≡ false
  all_fails p xs i x whole before there fails =
      sym before ∙ ap (list_all p) (drop_next xs i x there) ∙ ap (λ b. b && list_all p (drop (i + 1) xs)) fails

  -- every item has passed it
  pub all_end : (p : X → Bool) (xs : List X) (n : ℕ) (whole : Bool) →
      list_all p (drop n xs) ≡ whole → length xs ≤ n → whole ≡ true
  all_end p xs n whole before past = sym before ∙ ap (list_all p) (drop_all n xs past)
