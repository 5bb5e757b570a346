-- The word of an encodable instruction is that instruction.
use Rattle.std.proofs.Common.{◌≡◌, ℕ, ◌+◌, ◌*◌, ◌/◌, ◌%◌, ◌^◌, ◌<◌, refl, sym, subst, ap, ◌∙◌, Bool, true, Some, bit_and, arith}
use Rattle.std.proofs.lemmas.Bool.{and_parts, eqb-true, eq-eqb, ltb-true}
use Rattle.std.specs.Prelude.{◌==◌, ◌&&◌, nat_lt}
use Rattle.std.specs.Option.{option_map}
use Rattle.tm_rv.specs.declared.instr.Op.{Op}
use Rattle.tm_rv.specs.declared.instr.Set.TheVariants as set
use Rattle.tm_rv.specs.declared.instr.Instr.{Instr}
use Rattle.tm_rv.specs.Table.{Format, RType, IType, SType, BType, UType, JType, ShiftType, WordType, Row, row_for, rows, op_of}
use Rattle.tm_rv.specs.Instr.{field, sign_extend, split, instr, instr_of, FitsFormat, IsEncodable}
use Rattle.tm_rv.specs.Word.{placed, joined, word_of}
use Rattle.tm_rv.proofs.Masks.{opcode_left, funct3_left, funct7_left, all_left}
use Rattle.tm_rv.proofs.Rows.{is_regular, in_opcode, in_funct3, in_funct7, row_is_regular, listed}
use Rattle.tm_rv.proofs.Apart.{first_row}

-- the parts of a word that is put together of six
pub record HasParts (w opcode rd funct3 rs1 rs2 funct7 : ℕ) : Type 0 where
  pub opcode_is : w % 2 ^ 7 ≡ opcode
  pub rd_is : w / 2 ^ 7 % 2 ^ 5 ≡ rd
  pub funct3_is : w / 2 ^ 12 % 2 ^ 3 ≡ funct3
  pub rs1_is : w / 2 ^ 15 % 2 ^ 5 ≡ rs1
  pub rs2_is : w / 2 ^ 20 % 2 ^ 5 ≡ rs2
  pub funct7_is : w / 2 ^ 25 ≡ funct7

has_parts : (w opcode rd funct3 rs1 rs2 funct7 : ℕ) → opcode < 2 ^ 7 → rd < 2 ^ 5 → funct3 < 2 ^ 3 → rs1 < 2 ^ 5 → rs2 < 2 ^ 5 →
    w ≡ opcode + rd * 2 ^ 7 + funct3 * 2 ^ 12 + rs1 * 2 ^ 15 + rs2 * 2 ^ 20 + funct7 * 2 ^ 25 → HasParts w opcode rd funct3 rs1 rs2 funct7
has_parts w opcode rd funct3 rs1 rs2 funct7 a b c d e h =
    record { opcode_is = omega arith; rd_is = omega arith; funct3_is = omega arith; rs1_is = omega arith; rs2_is = omega arith; funct7_is = omega arith }

-- the instruction is the one with these fields
same_instr : (i : Instr) (rd rs1 rs2 imm : ℕ) → rd ≡ i.rd → rs1 ≡ i.rs1 → rs2 ≡ i.rs2 → imm ≡ i.imm → instr i.op rd rs1 rs2 imm ≡ i
same_instr i rd rs1 rs2 imm a b c d =
    ap (λ x. instr i.op x rs1 rs2 imm) a ∙ (ap (λ x. instr i.op i.rd x rs2 imm) b ∙ (ap (λ x. instr i.op i.rd i.rs1 x imm) c ∙ ap (λ x. instr i.op i.rd i.rs1 i.rs2 x) d))

-- the word is of the row, and is split into the instruction
pub record IsWordFor (fmt : Format) (mask bits : ℕ) (i : Instr) (w : ℕ) : Type 0 where
  pub small : w < 2 ^ 32
  pub left : bit_and w mask ≡ bits
  pub parts : split fmt i.op w ≡ i

-- what regular bits are made of
pub record IsMadeOf (bits opcode funct3 funct7 : ℕ) : Type 0 where
  pub sum : bits ≡ opcode + funct3 * 2 ^ 12 + funct7 * 2 ^ 25
  pub opcode_fits : opcode < 2 ^ 7
  pub funct3_fits : funct3 < 2 ^ 3
  pub funct7_fits : funct7 < 2 ^ 7

of_funct3 : (bits : ℕ) → in_funct3 bits ≡ true → IsMadeOf bits (bits % 2 ^ 7) (bits / 2 ^ 12 % 2 ^ 3) 0
of_funct3 bits h =
    let e : bits ≡ bits / 2 ^ 12 % 2 ^ 3 * 2 ^ 12 + bits % 2 ^ 7 = eqb-true _ _ h in
    record { sum = omega arith; opcode_fits = omega arith; funct3_fits = omega arith; funct7_fits = omega arith }

of_funct7 : (bits : ℕ) → in_funct7 bits ≡ true → IsMadeOf bits (bits % 2 ^ 7) (bits / 2 ^ 12 % 2 ^ 3) (bits / 2 ^ 25)
of_funct7 bits h =
    let parts = and_parts (nat_lt bits (2 ^ 32)) (bits == bits / 2 ^ 25 * 2 ^ 25 + (bits / 2 ^ 12 % 2 ^ 3 * 2 ^ 12 + bits % 2 ^ 7)) h in
    let small : bits < 2 ^ 32 = ltb-true _ _ parts.0 in
    let e : bits ≡ bits / 2 ^ 25 * 2 ^ 25 + (bits / 2 ^ 12 % 2 ^ 3 * 2 ^ 12 + bits % 2 ^ 7) = eqb-true _ _ parts.1 in
    record { sum = omega arith; opcode_fits = omega arith; funct3_fits = omega arith; funct7_fits = omega arith }

left_short : (w opcode rd funct3 rs1 rs2 funct7 : ℕ) → HasParts w opcode rd funct3 rs1 rs2 funct7 → bit_and w 0x7f ≡ opcode
left_short w opcode rd funct3 rs1 rs2 funct7 p = opcode_left w ∙ p.opcode_is

left_middle : (w opcode rd funct3 rs1 rs2 funct7 : ℕ) → HasParts w opcode rd funct3 rs1 rs2 funct7 → bit_and w 0x707f ≡ opcode + funct3 * 2 ^ 12
left_middle w opcode rd funct3 rs1 rs2 funct7 p = funct3_left w ∙ omega arith

left_long : (w opcode rd funct3 rs1 rs2 funct7 : ℕ) → w < 2 ^ 32 → HasParts w opcode rd funct3 rs1 rs2 funct7 →
    bit_and w 0xfe00707f ≡ opcode + funct3 * 2 ^ 12 + funct7 * 2 ^ 25
left_long w opcode rd funct3 rs1 rs2 funct7 small p = funct7_left w small ∙ omega arith

word_of_r : (bits : ℕ) (i : Instr) → in_funct7 bits ≡ true → FitsFormat RType i → IsWordFor RType 0xfe00707f bits i (joined bits i.rd i.rs1 i.rs2 0)
word_of_r bits i h fits =
    let made = of_funct7 bits h in
    let w : ℕ = joined bits i.rd i.rs1 i.rs2 0 in
    let small : w < 2 ^ 32 = omega arith in
    let p : HasParts w (bits % 2 ^ 7) i.rd (bits / 2 ^ 12 % 2 ^ 3) i.rs1 i.rs2 (bits / 2 ^ 25) = has_parts _ _ _ _ _ _ _ made.opcode_fits fits.0 made.funct3_fits fits.1 fits.2 (omega arith) in
    record {
      small = small;
      left = left_long _ _ _ _ _ _ _ small p ∙ sym made.sum;
      parts = same_instr i _ _ _ _ p.rd_is p.rs1_is p.rs2_is (sym fits.3);
    }

word_of_i : (bits : ℕ) (i : Instr) → in_funct3 bits ≡ true → FitsFormat IType i → IsWordFor IType 0x707f bits i (joined bits i.rd i.rs1 i.rs2 (placed IType i.imm))
word_of_i bits i h fits =
    let made = of_funct3 bits h in
    let w : ℕ = joined bits i.rd i.rs1 i.rs2 (placed IType i.imm) in
    let small : w < 2 ^ 32 = omega arith in
    let p : HasParts w (bits % 2 ^ 7) i.rd (bits / 2 ^ 12 % 2 ^ 3) i.rs1 (field i.imm 4 0) (field i.imm 11 5) =
    has_parts _ _ _ _ _ _ _ made.opcode_fits fits.0 made.funct3_fits fits.1 (omega arith) (omega arith) in
    let e : field w 31 20 ≡ i.imm % 2 ^ 12 = omega arith in
    record {
      small = small;
      left = left_middle _ _ _ _ _ _ _ p ∙ omega arith;
      parts = same_instr i _ _ _ _ p.rd_is p.rs1_is (sym fits.2) (ap (sign_extend 12) e ∙ sym fits.3);
    }

word_of_s : (bits : ℕ) (i : Instr) → in_funct3 bits ≡ true → FitsFormat SType i → IsWordFor SType 0x707f bits i (joined bits i.rd i.rs1 i.rs2 (placed SType i.imm))
word_of_s bits i h fits =
    let made = of_funct3 bits h in
    let w : ℕ = joined bits i.rd i.rs1 i.rs2 (placed SType i.imm) in
    let small : w < 2 ^ 32 = omega arith in
    let p : HasParts w (bits % 2 ^ 7) (field i.imm 4 0) (bits / 2 ^ 12 % 2 ^ 3) i.rs1 i.rs2 (field i.imm 11 5) =
    has_parts _ _ _ _ _ _ _ made.opcode_fits (omega arith) made.funct3_fits fits.1 fits.2 (omega arith) in
    let e : field w 31 25 * 2 ^ 5 + field w 11 7 ≡ i.imm % 2 ^ 12 = omega arith in
    record {
      small = small;
      left = left_middle _ _ _ _ _ _ _ p ∙ omega arith;
      parts = same_instr i _ _ _ _ (sym fits.0) p.rs1_is p.rs2_is (ap (sign_extend 12) e ∙ sym fits.3);
    }

word_of_b : (bits : ℕ) (i : Instr) → in_funct3 bits ≡ true → FitsFormat BType i → IsWordFor BType 0x707f bits i (joined bits i.rd i.rs1 i.rs2 (placed BType i.imm))
word_of_b bits i h fits =
    let made = of_funct3 bits h in
    let w : ℕ = joined bits i.rd i.rs1 i.rs2 (placed BType i.imm) in
    let small : w < 2 ^ 32 = omega arith in
    let p : HasParts w (bits % 2 ^ 7) (field i.imm 4 1 * 2 + field i.imm 11 11) (bits / 2 ^ 12 % 2 ^ 3) i.rs1 i.rs2 (field i.imm 12 12 * 2 ^ 6 + field i.imm 10 5) =
    has_parts _ _ _ _ _ _ _ made.opcode_fits (omega arith) made.funct3_fits fits.1 fits.2 (omega arith) in
    let e : field w 31 31 * 2 ^ 12 + field w 7 7 * 2 ^ 11 + field w 30 25 * 2 ^ 5 + field w 11 8 * 2 ^ 1 ≡ i.imm % 2 ^ 13 = omega arith in
    record {
      small = small;
      left = left_middle _ _ _ _ _ _ _ p ∙ omega arith;
      parts = same_instr i _ _ _ _ (sym fits.0) p.rs1_is p.rs2_is (ap (sign_extend 13) e ∙ sym fits.3);
    }

word_of_u : (bits : ℕ) (i : Instr) → in_opcode bits ≡ true → FitsFormat UType i → IsWordFor UType 0x7f bits i (joined bits i.rd i.rs1 i.rs2 (placed UType i.imm))
word_of_u bits i h fits =
    let made : bits < 2 ^ 7 = ltb-true _ _ h in
    let w : ℕ = joined bits i.rd i.rs1 i.rs2 (placed UType i.imm) in
    let small : w < 2 ^ 32 = omega arith in
    let p : HasParts w bits i.rd (i.imm / 2 ^ 12 % 2 ^ 3) (i.imm / 2 ^ 15 % 2 ^ 5) (i.imm / 2 ^ 20 % 2 ^ 5) (i.imm / 2 ^ 25) =
    has_parts _ _ _ _ _ _ _ made fits.0 (omega arith) (omega arith) (omega arith) (omega arith) in
    let e : field w 31 12 * 2 ^ 12 ≡ i.imm = omega arith in
    record {
      small = small;
      left = left_short _ _ _ _ _ _ _ p;
      parts = same_instr i _ _ _ _ p.rd_is (sym fits.1) (sym fits.2) e;
    }

word_of_j : (bits : ℕ) (i : Instr) → in_opcode bits ≡ true → FitsFormat JType i → IsWordFor JType 0x7f bits i (joined bits i.rd i.rs1 i.rs2 (placed JType i.imm))
word_of_j bits i h fits =
    let made : bits < 2 ^ 7 = ltb-true _ _ h in
    let w : ℕ = joined bits i.rd i.rs1 i.rs2 (placed JType i.imm) in
    let small : w < 2 ^ 32 = omega arith in
    let p : HasParts w bits i.rd (field i.imm 14 12) (field i.imm 19 15) (field i.imm 4 1 * 2 + field i.imm 11 11) (field i.imm 20 20 * 2 ^ 6 + field i.imm 10 5) =
    has_parts _ _ _ _ _ _ _ made fits.0 (omega arith) (omega arith) (omega arith) (omega arith) in
    let e : field w 31 31 * 2 ^ 20 + field w 19 12 * 2 ^ 12 + field w 20 20 * 2 ^ 11 + field w 30 21 * 2 ^ 1 ≡ i.imm % 2 ^ 21 = omega arith in
    record {
      small = small;
      left = left_short _ _ _ _ _ _ _ p;
      parts = same_instr i _ _ _ _ p.rd_is (sym fits.1) (sym fits.2) (ap (sign_extend 21) e ∙ sym fits.3);
    }

word_of_shift : (bits : ℕ) (i : Instr) → in_funct7 bits ≡ true → FitsFormat ShiftType i → IsWordFor ShiftType 0xfe00707f bits i (joined bits i.rd i.rs1 i.rs2 (placed ShiftType i.imm))
word_of_shift bits i h fits =
    let made = of_funct7 bits h in
    let w : ℕ = joined bits i.rd i.rs1 i.rs2 (placed ShiftType i.imm) in
    let small : w < 2 ^ 32 = omega arith in
    let p : HasParts w (bits % 2 ^ 7) i.rd (bits / 2 ^ 12 % 2 ^ 3) i.rs1 i.imm (bits / 2 ^ 25) =
    has_parts _ _ _ _ _ _ _ made.opcode_fits fits.0 made.funct3_fits fits.1 fits.3 (omega arith) in
    record {
      small = small;
      left = left_long _ _ _ _ _ _ _ small p ∙ sym made.sum;
      parts = same_instr i _ _ _ _ p.rd_is p.rs1_is (sym fits.2) p.rs2_is;
    }

word_of_whole : (bits : ℕ) (i : Instr) → nat_lt bits (2 ^ 32) ≡ true → FitsFormat WordType i → IsWordFor WordType 0xffffffff bits i (joined bits i.rd i.rs1 i.rs2 (placed WordType i.imm))
word_of_whole bits i h fits =
    let small_bits : bits < 2 ^ 32 = ltb-true _ _ h in
    let w : ℕ = joined bits i.rd i.rs1 i.rs2 (placed WordType i.imm) in
    let small : w < 2 ^ 32 = omega arith in
    record {
      small = small;
      left = all_left w small ∙ omega arith;
      parts = same_instr i _ _ _ _ (sym fits.0) (sym fits.1) (sym fits.2) (sym fits.3);
    }

-- the same at a mask that is known by an equation
at_mask : (fmt : Format) (mask wanted bits : ℕ) (i : Instr) (w : ℕ) (test : Bool) → (mask == wanted && test) ≡ true →
    (test ≡ true → IsWordFor fmt wanted bits i w) → IsWordFor fmt mask bits i w
at_mask fmt mask wanted bits i w test h made =
    subst (λ m. IsWordFor fmt m bits i w) (sym (eqb-true _ _ (and_parts _ _ h).0)) (made (and_parts _ _ h).1)

is_word_for : (fmt : Format) (mask bits : ℕ) (i : Instr) → is_regular fmt mask bits ≡ true → FitsFormat fmt i →
    IsWordFor fmt mask bits i (joined bits i.rd i.rs1 i.rs2 (placed fmt i.imm))
is_word_for RType mask bits i h fits = at_mask RType mask 0xfe00707f bits i _ _ h (λ t. word_of_r bits i t fits)
is_word_for IType mask bits i h fits = at_mask IType mask 0x707f bits i _ _ h (λ t. word_of_i bits i t fits)
is_word_for SType mask bits i h fits = at_mask SType mask 0x707f bits i _ _ h (λ t. word_of_s bits i t fits)
is_word_for BType mask bits i h fits = at_mask BType mask 0x707f bits i _ _ h (λ t. word_of_b bits i t fits)
is_word_for UType mask bits i h fits = at_mask UType mask 0x7f bits i _ _ h (λ t. word_of_u bits i t fits)
is_word_for JType mask bits i h fits = at_mask JType mask 0x7f bits i _ _ h (λ t. word_of_j bits i t fits)
is_word_for ShiftType mask bits i h fits = at_mask ShiftType mask 0xfe00707f bits i _ _ h (λ t. word_of_shift bits i t fits)
is_word_for WordType mask bits i h fits = at_mask WordType mask 0xffffffff bits i _ _ h (λ t. word_of_whole bits i t fits)

pub has_word : (i : Instr) → IsEncodable i → IsWordFor (row_for i.op).format (row_for i.op).mask (row_for i.op).bits i (word_of i)
has_word i fits = is_word_for (row_for i.op).format (row_for i.op).mask (row_for i.op).bits i (row_is_regular i.op) fits

-- a word that belongs to the row of an operation has that operation
pub op_from_row : (w : ℕ) (op : Op) → bit_and w (row_for op).mask ≡ (row_for op).bits → op_of w set.Mul ≡ Some op
unfolding op_of
op_from_row w op left =
    let place = listed op in
    ap (option_map (λ (r : Row). r.op)) (first_row w (rows set.Mul) place.place (row_for op) refl place.there (eq-eqb _ _ left)) ∙ ap Some place.own

pub word_decodes : (i : Instr) → IsEncodable i → instr_of (word_of i) set.Mul ≡ Some i
unfolding instr_of
word_decodes i fits =
    let word = has_word i fits in
    ap (option_map (λ op. split (row_for op).format op (word_of i))) (op_from_row (word_of i) i.op word.left) ∙ ap Some word.parts

pub decodes_from : (i : Instr) (w : ℕ) → IsEncodable i → w ≡ word_of i → instr_of w set.Mul ≡ Some i
decodes_from i w fits e = subst (λ n. instr_of n set.Mul ≡ Some i) (sym e) (word_decodes i fits)
