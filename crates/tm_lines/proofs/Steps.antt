-- What follows of steps that gave a value.
use Rattle.std.proofs.Common.{◌≡◌, ℕ, Bool, true, false, ◌||◌, Result, Ok, Err, refl}
use Rattle.tm_lines.specs.declared.fault.Reason.{Reason}
use Rattle.tm_lines.specs.Steps.{◌>>=◌, tested, on_line}

-- both steps gave a value
pub bound : {A B E : Type 0} (r : Result A E) (next : A → Result B E) (y : B)
    → (r >>= next) ≡ Ok y
    → (x : A) × ((r ≡ Ok x) × (next x ≡ Ok y))
bound (Err e) next y is = cc is
bound (Ok x) next y is = (x, (refl, is))

-- a line that made something passed its three tests
pub record Passed {A : Type 0} (out_of_range repeated over : Bool) (made given : A) : Type 0 where
  pub in_range : out_of_range ≡ false
  pub fresh : repeated ≡ false
  pub room : over ≡ false
  pub is : made ≡ given

pub passed : {A : Type 0} (out_of_range repeated over : Bool) (made given : A)
    → tested out_of_range repeated over made ≡ Ok given
    → Passed out_of_range repeated over made given
passed true repeated over made given e = cc e
passed false true over made given e = cc e
passed false false true made given e = cc e
passed false false false made given e = record { in_range = refl; fresh = refl; room = refl; is = cc e }

-- neither of two tests held
pub both_not : (a b : Bool) → (a || b) ≡ false → (a ≡ false) × (b ≡ false)
both_not false b e = (refl, e)
both_not true b e = cc e

-- a line of some number that gave a value gave it without its number
pub on_line_gave : {A : Type 0} (number : ℕ) (r : Result A Reason) (x : A) → on_line number r ≡ Ok x → r ≡ Ok x
on_line_gave number (Ok y) x e = cc e
on_line_gave number (Err reason) x e = cc e
