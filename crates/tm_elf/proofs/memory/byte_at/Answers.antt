use Rattle.std.proofs.Common.{◌≡◌, ℕ, ◌≤◌, Bool, true, false, cond, refl, sym, subst, List, [], ◌∷◌, Option, Some, arith}
use Rattle.std.specs.Prelude.{find}
use Rattle.std.proofs.lemmas.Bool.Decides.{nat_tests}
use Rattle.tm_elf.specs.declared.header.ProgramHeader.{ProgramHeader}
use Rattle.tm_elf.specs.Loads.{covers}
use Rattle.tm_elf.proofs.memory.byte_at.Goals as goal

found_first : {X : Type 0} (p : X → Bool) (x y : X) (rest : Option X) (b : Bool) → p y ≡ b → cond b (Some y) rest ≡ Some x → (rest ≡ Some x → p x ≡ true) → p x ≡ true
found_first {X} p x y rest true is found behind =
    let same : y ≡ x = cc found in
    subst (λ (z : X). p z ≡ true) same is
found_first p x y rest false is found behind = behind found

-- what is found passes the test
found_passes : {X : Type 0} (p : X → Bool) (xs : List X) (x : X) → find p xs ≡ Some x → p x ≡ true
found_passes p [] x found = absurd (cc found)
found_passes p (y ∷ ys) x found = found_first p x y (find p ys) (p y) refl found (found_passes p ys x)

covers_from : (address : ℕ) (load : ProgramHeader) → covers address load ≡ true → load.address ≤ address
covers_from address load is = grind (arith, nat_tests, is)

pub byte-requires : goal.byte-requires
byte-requires c =
    covers_from c.args.address c.in-Some.load
    (found_passes (covers c.args.address) c.args.loads.now c.in-Some.load (sym c.in-Some.ensures))
