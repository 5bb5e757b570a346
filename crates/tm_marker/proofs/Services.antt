-- The service of a number has that number.
use Rattle.std.proofs.Common.{◌≡◌, ℕ, Bool, true, false, List, [], ◌∷◌, Some, if◌then◌else◌, refl, subst, ◌==◌}
use Rattle.std.specs.Prelude.{find}
use Rattle.std.proofs.lemmas.Bool.{eqb-true}
use Rattle.tm_marker.specs.declared.service.Service.{Service}
use Rattle.tm_marker.specs.Service.{service_number, services, service_of}

-- what is found passes the test
found_passes : {X : Type 0} (p : X → Bool) (xs : List X) (y : X) → find p xs ≡ Some y → p y ≡ true
found_passes p [] y found = cc
found_passes p (x ∷ xs) y found = go (p x) refl found (found_passes p xs y)
  where
    go : (b : Bool) → p x ≡ b → (if b then Some x else find p xs) ≡ Some y → (find p xs ≡ Some y → p y ≡ true) → p y ≡ true
    go true is here rest = let same : x ≡ y = cc in subst (λ z. p z ≡ true) same is
    go false is there rest = rest there

pub number_of_service : (number : ℕ) (service : Service) → service_of number ≡ Some service → service_number service ≡ number
unfolding service_of
number_of_service number service found =
    eqb-true (service_number service) number (found_passes (λ s. service_number s == number) services service found)
