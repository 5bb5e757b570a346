-- What the text of the image decides.
use Rattle.std.proofs.Common.{◌≡◌, ℕ, List, Result, Ok, Err, IfErr, IsErrAnd, refl, sym, ap, subst}
use Rattle.tm_lines.specs.declared.fault.Fault.{Fault}
use Rattle.tm_lines.specs.declared.fault.Reason.{Reason}
use Rattle.tm_lines.specs.declared.fault.Reason.TheVariants as reason
use Rattle.tm_lines.specs.Steps.{◌>>=◌, UnlessMemory}
use Rattle.tm_image.specs.Image.{ImageView, image_of}
use Rattle.tm_make.specs.declared.fault.MakeFault.{MakeFault}
use Rattle.tm_make.specs.Making.{cell_text, make_text, make_of, make_fault, Refuses}

-- on the image that is read, the summary
pub made_is : (image : ImageView) (number : ℕ) → image_of cell_text ≡ Ok image → make_of number ≡ Ok (make_text image number)
unfolding make_of
made_is image number read = ap (λ (r : Result ImageView Fault). r >>= λ image. Ok (make_text image number)) read

refused_is : (fault : Fault) (number : ℕ) → image_of cell_text ≡ Err fault → make_of number ≡ Err fault
unfolding make_of
refused_is fault number refused = ap (λ (r : Result ImageView Fault). r >>= λ image. Ok (make_text image number)) refused

refuses_by : (fault : Fault) (why : Reason) (number : ℕ) → fault.reason ≡ why → UnlessMemory why (image_of cell_text ≡ Err fault) →
    Refuses (make_fault fault why) (make_of number)
refuses_by fault reason.Memory number is said = tt
refuses_by fault reason.Form number is said = (refused_is fault number said, λ memory. cc)
refuses_by fault reason.Number number is said = (refused_is fault number said, λ memory. cc)
refuses_by fault reason.Range number is said = (refused_is fault number said, λ memory. cc)
refuses_by fault reason.Repeated number is said = (refused_is fault number said, λ memory. cc)
refuses_by fault reason.Missing number is said = (refused_is fault number said, λ memory. cc)
refuses_by fault reason.Limit number is said = (refused_is fault number said, λ memory. cc)

-- where the image is not read, its fault
pub refuses : (fault : Fault) (number : ℕ) → UnlessMemory fault.reason (image_of cell_text ≡ Err fault) →
    Refuses (make_fault fault fault.reason) (make_of number)
refuses fault number said = refuses_by fault fault.reason number refl said

-- a fault that was made of another
pub on_fault : {A : Type 0} (r : Result A MakeFault) (fault : MakeFault) (said : Result (List ℕ) Fault) → IsErrAnd r (λ made. made ≡ fault) →
    Refuses fault said → IfErr r (λ made. Refuses made said)
on_fault (Ok value) fault said is refuses = tt
on_fault (Err made) fault said is refuses = subst (λ (f : MakeFault). Refuses f said) (sym is) refuses
