-- What the table's masks leave of a word, and that the decoder's fields tell the same.
use Rattle.std.proofs.Common.{◌≡◌, ℕ, ◌+◌, ◌-◌, ◌*◌, ◌/◌, ◌%◌, ◌^◌, ◌<◌, refl, ap, ◌∙◌, arith, Bool, true, List, [], ◌∷◌, ◌++◌, map, Option, Some, None, bit_and}
use Rattle.std.proofs.lemmas.Nat.{and_mask, and_block, one_shl}
use Rattle.std.proofs.lemmas.Bool.{and_parts, eqb-true}
use Rattle.std.proofs.lemmas.Bool.Decides.{nat_tests}
use Rattle.std.specs.Prelude.{◌==◌, ◌&&◌, find}
use Rattle.std.specs.List.{list_all}
use Rattle.std.specs.Option.{option_map, option_or}
use Rattle.std.proofs.lemmas.List.Folds.{find-append}
use Rattle.tm_rv.specs.declared.instr.Op.{Op}
use Rattle.tm_rv.specs.declared.instr.Set.TheVariants as set
use Rattle.tm_rv.specs.Table.{Format, RType, IType, SType, BType, UType, JType, ShiftType, WordType, Row, row_for, base, multiplications, belongs, op_of}
use Rattle.tm_rv.specs.ByFields.{has_opcode, has_funct3, has_funct7, fields_match, op_among, op_by}
use Rattle.tm_rv.proofs.Rows.{is_regular, in_opcode, in_funct3, in_funct7}

-- the code's mask of the lowest bits
pub masked : (n k : ℕ) → k < 32 → bit_and n (1 * 2 ^ k % 2 ^ 32 - 1) ≡ n % 2 ^ k
masked n k small = rw (one_shl k 32 small) (and_mask n k)

-- what the four masks leave of a word
pub opcode_left : (w : ℕ) → bit_and w 0x7f ≡ w % 2 ^ 7
opcode_left w = and_mask w 7

pub funct3_left : (w : ℕ) → bit_and w 0x707f ≡ w / 2 ^ 12 % 2 ^ 3 * 2 ^ 12 + w % 2 ^ 7
funct3_left w =
    let parts : bit_and (w / 2 ^ 12 * 2 ^ 12 + w % 2 ^ 12) (7 * 2 ^ 12 + 0x7f) ≡ bit_and (w / 2 ^ 12) 7 * 2 ^ 12 + bit_and (w % 2 ^ 12) 0x7f = and_block 12 (w / 2 ^ 12) 7 (w % 2 ^ 12) 0x7f (omega arith) (omega arith) in
    let joined : w / 2 ^ 12 * 2 ^ 12 + w % 2 ^ 12 ≡ w = omega arith in
    let high : bit_and (w / 2 ^ 12) 7 ≡ w / 2 ^ 12 % 2 ^ 3 = and_mask (w / 2 ^ 12) 3 in
    let low : bit_and (w % 2 ^ 12) 0x7f ≡ w % 2 ^ 12 % 2 ^ 7 = and_mask (w % 2 ^ 12) 7 in
    let same : w % 2 ^ 12 % 2 ^ 7 ≡ w % 2 ^ 7 = omega arith in
    let sum : bit_and (w / 2 ^ 12) 7 * 2 ^ 12 + bit_and (w % 2 ^ 12) 0x7f ≡ w / 2 ^ 12 % 2 ^ 3 * 2 ^ 12 + w % 2 ^ 7 = rw (high, low, same) in
    rw joined at (parts ∙ sum)

pub funct7_left : (w : ℕ) → w < 2 ^ 32 → bit_and w 0xfe00707f ≡ w / 2 ^ 25 * 2 ^ 25 + (w / 2 ^ 12 % 2 ^ 3 * 2 ^ 12 + w % 2 ^ 7)
funct7_left w small =
    let parts : bit_and (w / 2 ^ 25 * 2 ^ 25 + w % 2 ^ 25) (0x7f * 2 ^ 25 + 0x707f) ≡ bit_and (w / 2 ^ 25) 0x7f * 2 ^ 25 + bit_and (w % 2 ^ 25) 0x707f = and_block 25 (w / 2 ^ 25) 0x7f (w % 2 ^ 25) 0x707f (omega arith) (omega arith) in
    let joined : w / 2 ^ 25 * 2 ^ 25 + w % 2 ^ 25 ≡ w = omega arith in
    let high : bit_and (w / 2 ^ 25) 0x7f ≡ w / 2 ^ 25 = and_mask (w / 2 ^ 25) 7 ∙ omega arith in
    let middle : w % 2 ^ 25 / 2 ^ 12 % 2 ^ 3 ≡ w / 2 ^ 12 % 2 ^ 3 = omega arith in
    let low : w % 2 ^ 25 % 2 ^ 7 ≡ w % 2 ^ 7 = omega arith in
    let sum : bit_and (w / 2 ^ 25) 0x7f * 2 ^ 25 + bit_and (w % 2 ^ 25) 0x707f ≡ w / 2 ^ 25 * 2 ^ 25 + (w / 2 ^ 12 % 2 ^ 3 * 2 ^ 12 + w % 2 ^ 7) = rw (high, funct3_left (w % 2 ^ 25), middle, low) in
    rw joined at (parts ∙ sum)

pub all_left : (w : ℕ) → w < 2 ^ 32 → bit_and w 0xffffffff ≡ w
all_left w small = and_mask w 32 ∙ omega arith

-- the fields of a word as the code takes them
abbrev opcode : ℕ → ℕ
opcode w = bit_and w 0x7f

abbrev funct3 : ℕ → ℕ
funct3 w = bit_and (w / 2 ^ 12) 7

abbrev funct7 : ℕ → ℕ
funct7 w = w / 2 ^ 25

same_by_opcode : (w bits : ℕ) → in_opcode bits ≡ true → (bit_and w 0x7f == bits) ≡ has_opcode bits (opcode w)
same_by_opcode w bits h = grind (arith, nat_tests)

same_by_funct3 : (w bits : ℕ) → in_funct3 bits ≡ true → (bit_and w 0x707f == bits) ≡ has_funct3 bits (opcode w) (funct3 w)
same_by_funct3 w bits h = rw (funct3_left w, opcode_left w, and_mask (w / 2 ^ 12) 3) (grind (arith, nat_tests))

same_by_funct7 : (w bits : ℕ) → w < 2 ^ 32 → in_funct7 bits ≡ true →
    (bit_and w 0xfe00707f == bits) ≡ has_funct7 bits (opcode w) (funct3 w) (funct7 w)
same_by_funct7 w bits small h = rw (funct7_left w small, opcode_left w, and_mask (w / 2 ^ 12) 3) (grind (arith, nat_tests))

same_by_word : (w bits : ℕ) → w < 2 ^ 32 → (bit_and w 0xffffffff == bits) ≡ (has_opcode bits (opcode w) && w == bits)
same_by_word w bits small = rw (all_left w small, opcode_left w) (grind (arith, nat_tests))

-- the same at a mask that is known by a test
at_mask : (mask wanted : ℕ) (w bits : ℕ) (answer test : Bool) → (mask == wanted && test) ≡ true →
    (test ≡ true → (bit_and w wanted == bits) ≡ answer) → (bit_and w mask == bits) ≡ answer
at_mask mask wanted w bits answer test h same =
    ap (λ m. bit_and w m == bits) (eqb-true mask wanted (and_parts _ _ h).0) ∙ same (and_parts _ _ h).1

-- a regular row's mask and bits tell the same as the fields
same_test : (fmt : Format) (mask bits w : ℕ) → w < 2 ^ 32 → is_regular fmt mask bits ≡ true →
    (bit_and w mask == bits) ≡ fields_match fmt bits (opcode w) (funct3 w) (funct7 w) w
same_test RType mask bits w small h = at_mask mask _ w bits _ _ h (same_by_funct7 w bits small)
same_test IType mask bits w small h = at_mask mask _ w bits _ _ h (same_by_funct3 w bits)
same_test SType mask bits w small h = at_mask mask _ w bits _ _ h (same_by_funct3 w bits)
same_test BType mask bits w small h = at_mask mask _ w bits _ _ h (same_by_funct3 w bits)
same_test UType mask bits w small h = at_mask mask _ w bits _ _ h (same_by_opcode w bits)
same_test JType mask bits w small h = at_mask mask _ w bits _ _ h (same_by_opcode w bits)
same_test ShiftType mask bits w small h = at_mask mask _ w bits _ _ h (same_by_funct7 w bits small)
same_test WordType mask bits w small h = at_mask mask _ w bits _ _ h (λ _. same_by_word w bits small)

same_find : (w : ℕ) (rs : List Row) → w < 2 ^ 32 → list_all (λ r. is_regular r.format r.mask r.bits) rs ≡ true →
    find (belongs w) rs ≡ find (λ r. fields_match r.format r.bits (opcode w) (funct3 w) (funct7 w) w) rs
same_find w [] small regular = refl
same_find w (r ∷ rs) small regular =
    let here = same_test r.format r.mask r.bits w small (and_parts _ _ regular).0 in
    let rest = same_find w rs small (and_parts _ _ regular).1 in
    rw (here, rest)

-- the operation that the masks tell among regular rows is the one that the fields tell
same_op : (ops : List Op) (word : ℕ) → word < 2 ^ 32 → list_all (λ r. is_regular r.format r.mask r.bits) (map row_for ops) ≡ true →
    option_map (λ (r : Row). r.op) (find (belongs word) (map row_for ops)) ≡ op_among ops (opcode word) (funct3 word) (funct7 word) word
same_op ops word small regular = ap (option_map (λ (r : Row). r.op)) (same_find word (map row_for ops) small regular)

op_or : (x y : Option Row) → option_map (λ (r : Row). r.op) (option_or x y) ≡ option_or (option_map (λ (r : Row). r.op) x) (option_map (λ (r : Row). r.op) y)
op_or None y = refl
op_or (Some r) y = refl

pub op_of_base : (word : ℕ) → word < 2 ^ 32 →
    op_of word set.Base ≡ op_by (bit_and word 0x7f) (bit_and (word / 2 ^ 12) 7) (word / 2 ^ 25) word
unfolding op_of
op_of_base word small = same_op base word small refl

pub op_of_mul : (word : ℕ) → word < 2 ^ 32 →
    op_of word set.Mul ≡ option_or
    (op_by (bit_and word 0x7f) (bit_and (word / 2 ^ 12) 7) (word / 2 ^ 25) word)
    (op_among multiplications (bit_and word 0x7f) (bit_and (word / 2 ^ 12) 7) (word / 2 ^ 25) word)
unfolding op_of
op_of_mul word small =
    let has : Row → Bool = λ r. fields_match r.format r.bits (opcode word) (funct3 word) (funct7 word) word in
    same_op (base ++ multiplications) word small refl
    ∙ (ap (option_map (λ (r : Row). r.op)) (find-append has (map row_for base) (map row_for multiplications))
    ∙ op_or (find has (map row_for base)) (find has (map row_for multiplications)))
