-- An instruction that a word is decoded to is encodable, and that word is its word.
use Rattle.std.proofs.Common.{◌≡◌, ℕ, ◌+◌, ◌*◌, ◌/◌, ◌%◌, ◌^◌, ◌<◌, refl, sym, subst, ap, ◌∙◌, Bool, true, List, [], ◌∷◌, Option, Some, None, inl, inr, bit_and, arith}
use Rattle.std.proofs.lemmas.Bool.{and_parts, eqb-true, cases_Bool, cond-true, cond-false}
use Rattle.std.proofs.lemmas.Bool.Decides.{nat_tests}
use Rattle.std.proofs.lemmas.Option.{same_Some}
use Rattle.std.specs.Prelude.{◌==◌, ◌&&◌, find, map}
use Rattle.std.specs.Option.{option_map, IfSome}
use Rattle.tm_rv.specs.declared.instr.Op.{Op}
use Rattle.tm_rv.specs.declared.instr.Set.{Set}
use Rattle.tm_rv.specs.declared.instr.Instr.{Instr}
use Rattle.tm_rv.specs.Table.{Format, RType, IType, SType, BType, UType, JType, ShiftType, WordType, Row, row_for, operations, belongs, op_of}
use Rattle.tm_rv.specs.Instr.{IsRegister, IsSignExtended, field, sign_extend, split, instr_of, FitsFormat, IsEncodable}
use Rattle.tm_rv.specs.Word.{placed, joined, word_of}
use Rattle.tm_rv.proofs.Masks.{opcode_left, funct3_left, funct7_left, all_left}
use Rattle.tm_rv.proofs.Rows.{is_regular, row_is_regular, listed}

-- the row that is found first has the word
found : (p : Row → Bool) (ops : List Op) (op : Op) → option_map (λ (r : Row). r.op) (find p (map row_for ops)) ≡ Some op → p (row_for op) ≡ true
found p [] op h = cc
found p (o ∷ ops) op h =
    elim (cases_Bool (p (row_for o))) [
      | inl here ↦
          let first : find p (row_for o ∷ map row_for ops) ≡ Some (row_for o) = cond-true _ (Some (row_for o)) (find p (map row_for ops)) here in
          let same : o ≡ op = sym (listed o).own ∙ same_Some _ _ (sym (ap (option_map (λ (r : Row). r.op)) first) ∙ h) in
          subst (λ (x : Op). p (row_for x) ≡ true) same here
      | inr past ↦
          let later : find p (row_for o ∷ map row_for ops) ≡ find p (map row_for ops) = cond-false _ (Some (row_for o)) (find p (map row_for ops)) past in
          found p ops op (sym (ap (option_map (λ (r : Row). r.op)) later) ∙ h)
    ]

row_from_op : (w : ℕ) (set : Set) (op : Op) → op_of w set ≡ Some op → bit_and w (row_for op).mask ≡ (row_for op).bits
unfolding op_of
row_from_op w set op h = eqb-true _ _ (found (belongs w) (operations set) op h)

-- what a number's sign extension keeps
kept_12 : (n : ℕ) → n < 2 ^ 12 → sign_extend 12 n % 2 ^ 12 ≡ n
kept_12 n small = grind (arith, nat_tests)

kept_13 : (n : ℕ) → n < 2 ^ 13 → sign_extend 13 n % 2 ^ 13 ≡ n
kept_13 n small = grind (arith, nat_tests)

kept_21 : (n : ℕ) → n < 2 ^ 21 → sign_extend 21 n % 2 ^ 21 ≡ n
kept_21 n small = grind (arith, nat_tests)

-- the parts make the word again, and are in the format's range
pub record IsTakenApart (fmt : Format) (bits w : ℕ) (i : Instr) : Type 0 where
  pub again : joined bits i.rd i.rs1 i.rs2 (placed fmt i.imm) ≡ w
  pub fits : FitsFormat fmt i

apart_r : (bits w : ℕ) (op : Op) → w < 2 ^ 32 → bit_and w 0xfe00707f ≡ bits → IsTakenApart RType bits w (split RType op w)
apart_r bits w op small left =
    let e : w / 2 ^ 25 * 2 ^ 25 + (w / 2 ^ 12 % 2 ^ 3 * 2 ^ 12 + w % 2 ^ 7) ≡ bits = sym (funct7_left w small) ∙ left in
    record { again = omega arith; fits = (omega arith, omega arith, omega arith, refl) }

apart_shift : (bits w : ℕ) (op : Op) → w < 2 ^ 32 → bit_and w 0xfe00707f ≡ bits → IsTakenApart ShiftType bits w (split ShiftType op w)
apart_shift bits w op small left =
    let e : w / 2 ^ 25 * 2 ^ 25 + (w / 2 ^ 12 % 2 ^ 3 * 2 ^ 12 + w % 2 ^ 7) ≡ bits = sym (funct7_left w small) ∙ left in
    record { again = omega arith; fits = (omega arith, omega arith, refl, omega arith) }

apart_whole : (bits w : ℕ) (op : Op) → w < 2 ^ 32 → bit_and w 0xffffffff ≡ bits → IsTakenApart WordType bits w (split WordType op w)
apart_whole bits w op small left =
    let e : w ≡ bits = sym (all_left w small) ∙ left in
    record { again = omega arith; fits = (refl, refl, refl, refl) }

apart_u : (bits w : ℕ) (op : Op) → w < 2 ^ 32 → bit_and w 0x7f ≡ bits → IsTakenApart UType bits w (split UType op w)
apart_u bits w op small left =
    let e : w % 2 ^ 7 ≡ bits = sym (opcode_left w) ∙ left in
    record { again = omega arith; fits = (omega arith, refl, refl, omega arith, omega arith) }

again_i : (bits w x : ℕ) → w < 2 ^ 32 → w / 2 ^ 12 % 2 ^ 3 * 2 ^ 12 + w % 2 ^ 7 ≡ bits → x % 2 ^ 12 ≡ field w 31 20 →
    joined bits (field w 11 7) (field w 19 15) 0 (placed IType x) ≡ w
again_i bits w x small e kept = omega arith

apart_i : (bits w : ℕ) (op : Op) → w < 2 ^ 32 → bit_and w 0x707f ≡ bits → IsTakenApart IType bits w (split IType op w)
apart_i bits w op small left =
    let kept = kept_12 (field w 31 20) (omega arith) in
    record {
      again = again_i bits w _ small (sym (funct3_left w) ∙ left) kept;
      fits = (omega arith, omega arith, refl, ap (sign_extend 12) (sym kept));
    }

again_s : (bits w x : ℕ) → w < 2 ^ 32 → w / 2 ^ 12 % 2 ^ 3 * 2 ^ 12 + w % 2 ^ 7 ≡ bits → x % 2 ^ 12 ≡ field w 31 25 * 2 ^ 5 + field w 11 7 →
    joined bits 0 (field w 19 15) (field w 24 20) (placed SType x) ≡ w
again_s bits w x small e kept = omega arith

apart_s : (bits w : ℕ) (op : Op) → w < 2 ^ 32 → bit_and w 0x707f ≡ bits → IsTakenApart SType bits w (split SType op w)
apart_s bits w op small left =
    let kept = kept_12 (field w 31 25 * 2 ^ 5 + field w 11 7) (omega arith) in
    record {
      again = again_s bits w _ small (sym (funct3_left w) ∙ left) kept;
      fits = (refl, omega arith, omega arith, ap (sign_extend 12) (sym kept));
    }

again_b : (bits w x : ℕ) → w < 2 ^ 32 → w / 2 ^ 12 % 2 ^ 3 * 2 ^ 12 + w % 2 ^ 7 ≡ bits →
    x % 2 ^ 13 ≡ field w 31 31 * 2 ^ 12 + field w 7 7 * 2 ^ 11 + field w 30 25 * 2 ^ 5 + field w 11 8 * 2 ^ 1 →
    joined bits 0 (field w 19 15) (field w 24 20) (placed BType x) ≡ w
again_b bits w x small e kept = omega arith

even_13 : (x a b c d : ℕ) → x % 2 ^ 13 ≡ a * 2 ^ 12 + b * 2 ^ 11 + c * 2 ^ 5 + d * 2 ^ 1 → x % 2 ≡ 0
even_13 x a b c d kept = omega arith

apart_b : (bits w : ℕ) (op : Op) → w < 2 ^ 32 → bit_and w 0x707f ≡ bits → IsTakenApart BType bits w (split BType op w)
apart_b bits w op small left =
    let kept = kept_13 (field w 31 31 * 2 ^ 12 + field w 7 7 * 2 ^ 11 + field w 30 25 * 2 ^ 5 + field w 11 8 * 2 ^ 1) (omega arith) in
    record {
      again = again_b bits w _ small (sym (funct3_left w) ∙ left) kept;
      fits = (refl, omega arith, omega arith, ap (sign_extend 13) (sym kept), even_13 _ _ _ _ _ kept);
    }

again_j : (bits w x : ℕ) → w < 2 ^ 32 → w % 2 ^ 7 ≡ bits →
    x % 2 ^ 21 ≡ field w 31 31 * 2 ^ 20 + field w 19 12 * 2 ^ 12 + field w 20 20 * 2 ^ 11 + field w 30 21 * 2 ^ 1 →
    joined bits (field w 11 7) 0 0 (placed JType x) ≡ w
again_j bits w x small e kept = omega arith

even_21 : (x a b c d : ℕ) → x % 2 ^ 21 ≡ a * 2 ^ 20 + b * 2 ^ 12 + c * 2 ^ 11 + d * 2 ^ 1 → x % 2 ≡ 0
even_21 x a b c d kept = omega arith

apart_j : (bits w : ℕ) (op : Op) → w < 2 ^ 32 → bit_and w 0x7f ≡ bits → IsTakenApart JType bits w (split JType op w)
apart_j bits w op small left =
    let kept = kept_21 (field w 31 31 * 2 ^ 20 + field w 19 12 * 2 ^ 12 + field w 20 20 * 2 ^ 11 + field w 30 21 * 2 ^ 1) (omega arith) in
    record {
      again = again_j bits w _ small (sym (opcode_left w) ∙ left) kept;
      fits = (omega arith, refl, refl, ap (sign_extend 21) (sym kept), even_21 _ _ _ _ _ kept);
    }

-- the mask that a regular row has
mask_is : (mask wanted : ℕ) (test : Bool) (w bits : ℕ) → (mask == wanted && test) ≡ true → bit_and w mask ≡ bits → bit_and w wanted ≡ bits
mask_is mask wanted test w bits h left = sym (ap (bit_and w) (eqb-true _ _ (and_parts _ _ h).0)) ∙ left

is_taken_apart : (fmt : Format) (mask bits w : ℕ) (op : Op) → is_regular fmt mask bits ≡ true → w < 2 ^ 32 → bit_and w mask ≡ bits →
    IsTakenApart fmt bits w (split fmt op w)
is_taken_apart RType mask bits w op h small left = apart_r bits w op small (mask_is mask _ _ w bits h left)
is_taken_apart IType mask bits w op h small left = apart_i bits w op small (mask_is mask _ _ w bits h left)
is_taken_apart SType mask bits w op h small left = apart_s bits w op small (mask_is mask _ _ w bits h left)
is_taken_apart BType mask bits w op h small left = apart_b bits w op small (mask_is mask _ _ w bits h left)
is_taken_apart UType mask bits w op h small left = apart_u bits w op small (mask_is mask _ _ w bits h left)
is_taken_apart JType mask bits w op h small left = apart_j bits w op small (mask_is mask _ _ w bits h left)
is_taken_apart ShiftType mask bits w op h small left = apart_shift bits w op small (mask_is mask _ _ w bits h left)
is_taken_apart WordType mask bits w op h small left = apart_whole bits w op small (mask_is mask _ _ w bits h left)

split_op : (fmt : Format) (op : Op) (w : ℕ) → (split fmt op w).op ≡ op
split_op RType op w = refl
split_op IType op w = refl
split_op SType op w = refl
split_op BType op w = refl
split_op UType op w = refl
split_op JType op w = refl
split_op ShiftType op w = refl
split_op WordType op w = refl

-- an instruction of a word's operation comes from that operation's row
pub record IsDecoded (w : ℕ) (i : Instr) : Type 0 where
  pub again : word_of i ≡ w
  pub fits : IsEncodable i

from_op : (w : ℕ) (set : Set) (o : Option Op) (i : Instr) → w < 2 ^ 32 → op_of w set ≡ o →
    option_map (λ op. split (row_for op).format op w) o ≡ Some i → IsDecoded w i
from_op w set None i small is_op h = cc
from_op w set (Some op) i small is_op h =
    let apart = is_taken_apart (row_for op).format (row_for op).mask (row_for op).bits w op (row_is_regular op) small (row_from_op w set op is_op) in
    let same : split (row_for op).format op w ≡ i = same_Some _ _ h in
    let own : op ≡ i.op = sym (split_op (row_for op).format op w) ∙ ap (λ (x : Instr). x.op) same in
    let of_i : IsTakenApart (row_for op).format (row_for op).bits w i = subst (λ (x : Instr). IsTakenApart (row_for op).format (row_for op).bits w x) same apart in
    let of_op : IsTakenApart (row_for i.op).format (row_for i.op).bits w i = subst (λ (o : Op). IsTakenApart (row_for o).format (row_for o).bits w i) own of_i in
    record { again = of_op.again; fits = of_op.fits }

pub is_decoded : (w : ℕ) (set : Set) (i : Instr) → w < 2 ^ 32 → instr_of w set ≡ Some i → IsDecoded w i
unfolding instr_of
is_decoded w set i small h = from_op w set (op_of w set) i small refl h

-- what a word is decoded to is encodable
encodable_from : (w : ℕ) (set : Set) (o : Option Instr) → w < 2 ^ 32 → o ≡ instr_of w set → IfSome o IsEncodable
encodable_from w set None small h = tt
encodable_from w set (Some i) small h = (is_decoded w set i small (sym h)).fits

-- an encodable instruction's fields are in the range of their types, and registers below 32
pub record HasSmallFields (i : Instr) : Type 0 where
  pub registers : IsRegister i.rd × IsRegister i.rs1 × IsRegister i.rs2
  pub immediate : i.imm < 2 ^ 32

small_12 : (imm : ℕ) → IsSignExtended 12 imm → imm < 2 ^ 32
small_12 imm h = grind (arith, nat_tests)

small_13 : (imm : ℕ) → IsSignExtended 13 imm → imm < 2 ^ 32
small_13 imm h = grind (arith, nat_tests)

small_21 : (imm : ℕ) → IsSignExtended 21 imm → imm < 2 ^ 32
small_21 imm h = grind (arith, nat_tests)

small_fields : (fmt : Format) (i : Instr) → FitsFormat fmt i → HasSmallFields i
small_fields RType i fits = record { registers = (fits.0, fits.1, fits.2); immediate = omega arith }
small_fields IType i fits = record { registers = (fits.0, fits.1, omega arith); immediate = small_12 i.imm fits.3 }
small_fields SType i fits = record { registers = (omega arith, fits.1, fits.2); immediate = small_12 i.imm fits.3 }
small_fields BType i fits = record { registers = (omega arith, fits.1, fits.2); immediate = small_13 i.imm fits.3 }
small_fields UType i fits = record { registers = (fits.0, omega arith, omega arith); immediate = fits.3 }
small_fields JType i fits = record { registers = (fits.0, omega arith, omega arith); immediate = small_21 i.imm fits.3 }
small_fields ShiftType i fits = record { registers = (fits.0, fits.1, omega arith); immediate = omega arith }
small_fields WordType i fits = record { registers = (omega arith, omega arith, omega arith); immediate = omega arith }

registers_from : (o : Option Instr) → IfSome o IsEncodable → IfSome o (λ i. IsRegister i.rd × IsRegister i.rs1 × IsRegister i.rs2)
registers_from None h = tt
registers_from (Some i) h = (small_fields _ i h).registers

immediate_from : (o : Option Instr) → IfSome o IsEncodable → IfSome o (λ i. i.imm < 2 ^ 32)
immediate_from None h = tt
immediate_from (Some i) h = (small_fields _ i h).immediate

-- what is known of the instruction that a word is, where it is one
pub record AreSound (o : Option Instr) : Type 0 where
  pub encodable : IfSome o IsEncodable
  pub registers : IfSome o (λ i. IsRegister i.rd × IsRegister i.rs1 × IsRegister i.rs2)
  pub immediate : IfSome o (λ i. i.imm < 2 ^ 32)

pub decoded_from : (w : ℕ) (set : Set) (o : Option Instr) → w < 2 ^ 32 → o ≡ instr_of w set → AreSound o
decoded_from w set o small same =
    let fits : IfSome o IsEncodable = encodable_from w set o small same in
    record { encodable = fits; registers = registers_from o fits; immediate = immediate_from o fits }
