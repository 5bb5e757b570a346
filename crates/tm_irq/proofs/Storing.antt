-- What stands in ports and latches stays stored while stores are only added.
use Rattle.std.proofs.Common.{◌≡◌, ℕ, ◌+◌, ◌<◌, ◌≤◌, List, [], ◌∷◌, ◌++◌, length, get_or, set, sym, subst, inl, inr, ⊎_elim, arith, length-append, get_or-set_same, get_or-set_other}
use Rattle.std.proofs.Math.Seq.{get_or-append_seam}
use Rattle.std.proofs.lemmas.List.{get_or_append_left}
use native.Mathlib.Decide.{ℕ_discrete}
use Rattle.std.specs.Prelude.{All}
use Rattle.tm_irq.specs.declared.views.View.{View}
use Rattle.tm_irq.specs.Views.{in_all, stored}
use Rattle.tm_irq.specs.Rule.{WasStored, WereStored, IsStored}

module _ (views after : List View) (more : (port value : ℕ) → in_all (stored port value) views ≤ in_all (stored port value) after) where
  pub was_still : (port value : ℕ) → WasStored views port value → WasStored after port value
  was_still port value was = (was.0, ⊎_elim (λ none. inl none) (λ some_store. let m = more port value in inr (omega arith)) was.1)

  pub were_still : (values : List ℕ) → WereStored views values → WereStored after values
  were_still values were port within = was_still port (get_or values port 0) (were port within)

  pub latches_still : (latches : List (List ℕ)) → All (WereStored views) latches → All (WereStored after) latches
  latches_still latches all k d within = were_still _ (all k d within)

  -- the words of the ports and the kernel's latches stay
  pub stored_stays : (kernel still : View) (words words' : List ℕ) → still.latches ≡ kernel.latches → still.latching ≡ kernel.latching
      → ((port : ℕ) → port < 4 → get_or words' (port + 1) 0 ≡ get_or words (port + 1) 0) → IsStored kernel words views → IsStored still words' after
  stored_stays kernel still words words' latches latching same s = record {
    ports = λ port within. subst (WasStored after port) (sym (same port within)) (was_still port _ (s.ports port within));
    latches = subst (All (WereStored after)) (sym latches) (latches_still kernel.latches s.latches);
    latching = subst (WereStored after) (sym latching) (were_still kernel.latching s.latching);
  }

were_when : (views : List View) (values : List ℕ) (x port : ℕ) → WereStored views values → WasStored views (length values) x → port < length (values ++ x ∷ []) → Dec (port ≡ length values)
    → WasStored views port (get_or (values ++ x ∷ []) port 0)
were_when views values x port old new within (yes e) =
    let P : ℕ → Type 0 = λ p. WasStored views p (get_or (values ++ x ∷ []) p 0) in
    subst P (sym e) (subst (WasStored views (length values)) (sym (get_or-append_seam values x [] 0)) new)
were_when views values x port old new within (no ne) =
    let less : port < length values = omega (arith, length-append values (x ∷ [])) in
    subst (WasStored views port) (sym (get_or_append_left values (x ∷ []) 0 port less)) (old port less)

-- one word more
pub were_more : (views : List View) (values : List ℕ) (x : ℕ) → WasStored views (length values) x → WereStored views values → WereStored views (values ++ x ∷ [])
were_more views values x new old port within = were_when views values x port old new within (ℕ_discrete port (length values))

-- the port that was set, and the others
pub port_set : (views : List View) (words : List ℕ) (port value p : ℕ) → Dec (p ≡ port) → port + 1 < length words → WasStored views port value → WasStored views p (get_or words (p + 1) 0)
    → WasStored views p (get_or (set words (port + 1) value) (p + 1) 0)
port_set views words port value p (yes e) within new old =
    let P : ℕ → Type 0 = λ k. WasStored views k (get_or (set words (port + 1) value) (k + 1) 0) in
    subst P (sym e) (subst (WasStored views port) (sym (get_or-set_same words (port + 1) value 0 within)) new)
port_set views words port value p (no ne) within new old = subst (WasStored views p) (sym (get_or-set_other words (port + 1) (p + 1) value 0 (λ e. ne (omega arith)))) old
