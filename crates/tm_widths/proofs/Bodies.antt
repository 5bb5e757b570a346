-- A body's registers and data words stay of 32 bits.
use Rattle.std.proofs.Common.{◌≡◌, ℕ, zero, suc, ◌+◌, ◌-◌, ◌*◌, ◌/◌, ◌%◌, ◌^◌, ◌≤◌, Bool, true, false, not, nat_lt, nat_le, ◌==◌, if◌then◌else◌, List, [], ◌∷◌, All, length, replicate, refl, sym, subst, arith, inl, inr, Option, Some, None, Result, Ok, Err, slice_set, slice_index}
use Rattle.std.proofs.lemmas.Bool.Decides.{nat_tests}
use Rattle.std.proofs.lemmas.List.Elements.{All-nil, All-cons, All-set, All-replicate}
use Rattle.tm_marker.specs.declared.body.Body.{Body}
use Rattle.tm_marker.specs.declared.entries.DataEntry.{DataEntry}
use Rattle.tm_rv.specs.Code.{Text}
use Rattle.tm_rv.specs.Instr.{instr_of, sign_extend}
use Rattle.tm_rv.specs.declared.instr.Instr.{Instr}
use Rattle.tm_rv.specs.declared.instr.Op.{Op}
use Rattle.tm_rv.specs.declared.instr.Op.TheVariants.{Lui, Auipc, Jal, Jalr, Beq, Bne, Blt, Bge, Bltu, Bgeu, Lb, Lh, Lw, Lbu, Lhu, Sb, Sh, Sw, Addi, Slti, Sltiu, Xori, Ori, Andi, Slli, Srli, Srai, Add, Sub, Sll, Slt, Sltu, Xor, Srl, Sra, Or, And, Fence, Ecall, Ebreak, Mul, Mulh, Mulhsu, Mulhu, Div, Divu, Rem, Remu}
use Rattle.tm_task.specs.declared.outcome.Cause.{Cause}
use Rattle.tm_task.specs.declared.outcome.Cause.TheVariants.{Unaligned, Range, TextWrite}
use Rattle.tm_task.specs.Memory.{IsSize, spliced, data_start, in_text}
use Rattle.tm_task.specs.Exec.{Exec, Faults, Calls, Goes, reg, with_reg, advanced, written, jumped, branched, is_unaligned, in_memory, fetched, loaded_by, loaded, with_bytes, stored, meaning, exec_word, exec}
use Rattle.tm_task.specs.Standing.{boot_registers, boot_body, restarted, resumed, is_end, reply, args_of}
use Rattle.tm_kernel.proofs.Answering.{if_by}
use Rattle.tm_dump.specs.Widths.{IsWord, FitsData}
use Rattle.tm_widths.specs.Numbers.{FitsBody}
use Rattle.tm_widths.proofs.Kernels.{index_word}

zero_word : IsWord 0
zero_word = omega arith

low_word : (n : ℕ) → IsWord (n % 2 ^ 32)
low_word n = omega arith

-- what holds where a test passes and where it fails, by the test
if_with : {X : Type 0} (P : X → Type 0) (b : Bool) (x y : X) → (b ≡ true → P x) → (b ≡ false → P y) → P (if b then x else y)
if_with P true x y p q = p refl
if_with P false x y p q = q refl

pub reg_word : (b : Body) (n : ℕ) → FitsBody b → IsWord (reg b n)
reg_word b n f = if_by IsWord (n == 0) 0 (slice_index b.regs (n - 1)) zero_word (index_word b.regs (n - 1) f.regs)

pub args_fit : (b : Body) → FitsBody b → All IsWord (args_of b)
args_fit b f =
    let ten : ℕ = reg b 10 in
    let eleven : ℕ = reg b 11 in
    let twelve : ℕ = reg b 12 in
    let thirteen : ℕ = reg b 13 in
    let fourteen : ℕ = reg b 14 in
    let fifteen : ℕ = reg b 15 in
    All-cons IsWord ten (eleven ∷ twelve ∷ thirteen ∷ fourteen ∷ fifteen ∷ []) (reg_word b 10 f)
    (All-cons IsWord eleven (twelve ∷ thirteen ∷ fourteen ∷ fifteen ∷ []) (reg_word b 11 f)
    (All-cons IsWord twelve (thirteen ∷ fourteen ∷ fifteen ∷ []) (reg_word b 12 f)
    (All-cons IsWord thirteen (fourteen ∷ fifteen ∷ []) (reg_word b 13 f)
    (All-cons IsWord fourteen (fifteen ∷ []) (reg_word b 14 f)
    (All-cons IsWord fifteen [] (reg_word b 15 f) (All-nil IsWord))))))

with_reg_fits : (b : Body) (rd value : ℕ) → IsWord value → FitsBody b → FitsBody (with_reg b rd value)
with_reg_fits b rd value fits f =
    if_by FitsBody (rd == 0) b (record b { regs = slice_set b.regs (rd - 1) value }) f
    (record { regs = All-set IsWord b.regs (rd - 1) value fits f.regs; words = f.words })

advanced_fits : (b : Body) → FitsBody b → FitsBody (advanced b)
advanced_fits b f = record { regs = f.regs; words = f.words }

-- the body to which an instruction goes on, where it does
abbrev GoesFit : Exec → Type 0
GoesFit (Faults cause) = Unit {0}
GoesFit (Calls service) = Unit {0}
GoesFit (Goes next back) = FitsBody next

written_fits : (b : Body) (rd value : ℕ) → FitsBody b → GoesFit (written b rd value)
written_fits b rd value f = advanced_fits (with_reg b rd (value % 2 ^ 32)) (with_reg_fits b rd (value % 2 ^ 32) (low_word value) f)

jumped_fits : (b : Body) (rd target : ℕ) → FitsBody b → GoesFit (jumped b rd target)
jumped_fits b rd target f =
    let linked : FitsBody (with_reg b rd ((b.pc + 4) % 2 ^ 32)) = with_reg_fits b rd ((b.pc + 4) % 2 ^ 32) (low_word (b.pc + 4)) f in
    if_by GoesFit (target % 4 == 0) (Goes (record (with_reg b rd ((b.pc + 4) % 2 ^ 32)) { pc = target }) (nat_le target b.pc)) _
    (record { regs = linked.regs; words = linked.words }) tt

branched_fits : (b : Body) (taken : Bool) (imm : ℕ) → FitsBody b → GoesFit (branched b taken imm)
branched_fits b taken imm f =
    if_by GoesFit taken (jumped b 0 ((b.pc + imm) % 2 ^ 32)) (Goes (advanced b) false) (jumped_fits b 0 ((b.pc + imm) % 2 ^ 32) f) (advanced_fits b f)

loaded_by_fits : (b : Body) (rd : ℕ) (extend : ℕ → ℕ) (r : Result ℕ Cause) → FitsBody b → GoesFit (loaded_by b rd extend r)
loaded_by_fits b rd extend (Ok value) f = written_fits b rd (extend value) f
loaded_by_fits b rd extend (Err cause) f = tt

loaded_fits : (text : List ℕ) (b : Body) (rd address size : ℕ) (extend : ℕ → ℕ) → FitsBody b → GoesFit (loaded text b rd address size extend)
loaded_fits text b rd address size extend f = loaded_by_fits b rd extend (fetched text b address size) f

-- a word with some of its bytes replaced
byte_word : (word k value : ℕ) → k + 1 ≤ 4 → IsWord (spliced word k 1 value)
unfolding spliced
byte_word word zero value h = omega arith
byte_word word (suc zero) value h = omega arith
byte_word word (suc (suc zero)) value h = omega arith
byte_word word (suc (suc (suc zero))) value h = omega arith
byte_word word (suc (suc (suc (suc k)))) value h = absurd (omega arith)

half_word : (word k value : ℕ) → k + 2 ≤ 4 → IsWord (spliced word k 2 value)
unfolding spliced
half_word word zero value h = omega arith
half_word word (suc zero) value h = omega arith
half_word word (suc (suc zero)) value h = omega arith
half_word word (suc (suc (suc k))) value h = absurd (omega arith)

whole_word : (word k value : ℕ) → k + 4 ≤ 4 → IsWord (spliced word k 4 value)
unfolding spliced
whole_word word zero value h = omega arith
whole_word word (suc k) value h = absurd (omega arith)

aligned_1 : (address : ℕ) → is_unaligned address 1 ≡ false → address % 4 + 1 ≤ 4
aligned_1 address e = omega arith

aligned_2 : (address : ℕ) → is_unaligned address 2 ≡ false → address % 4 + 2 ≤ 4
aligned_2 address e = grind (arith, nat_tests)

aligned_4 : (address : ℕ) → is_unaligned address 4 ≡ false → address % 4 + 4 ≤ 4
aligned_4 address e = grind (arith, nat_tests)

spliced_word : (word address size value : ℕ) → IsSize size → is_unaligned address size ≡ false → IsWord (spliced word (address % 4) size value)
spliced_word word address size value (inl e) aligned =
    subst (λ (n : ℕ). IsWord (spliced word (address % 4) n value)) (sym e)
    (byte_word word (address % 4) value (aligned_1 address (subst (λ (n : ℕ). is_unaligned address n ≡ false) e aligned)))
spliced_word word address size value (inr (inl e)) aligned =
    subst (λ (n : ℕ). IsWord (spliced word (address % 4) n value)) (sym e)
    (half_word word (address % 4) value (aligned_2 address (subst (λ (n : ℕ). is_unaligned address n ≡ false) e aligned)))
spliced_word word address size value (inr (inr e)) aligned =
    subst (λ (n : ℕ). IsWord (spliced word (address % 4) n value)) (sym e)
    (whole_word word (address % 4) value (aligned_4 address (subst (λ (n : ℕ). is_unaligned address n ≡ false) e aligned)))

stored_fits : (text : List ℕ) (b : Body) (address size value : ℕ) → IsSize size → FitsBody b → GoesFit (stored text b address size value)
stored_fits text b address size value is f =
    let done : Exec = Goes (advanced (with_bytes b address size value)) false in
    let inside : Exec = if in_text text address then Faults TextWrite else done in
    let there : Exec = if not (in_memory text b address) then Faults Range else inside in
    let none : (cause : Cause) → GoesFit (Faults cause) = λ cause. tt in
    if_with GoesFit (is_unaligned address size) (Faults Unaligned) there (λ _. none Unaligned) (λ aligned.
    if_by GoesFit (not (in_memory text b address)) (Faults Range) inside (none Range)
    (if_by GoesFit (in_text text address) (Faults TextWrite) done (none TextWrite)
    (let fits : FitsBody (with_bytes b address size value) = record {
      regs = f.regs;
      words = All-set IsWord b.words ((address - data_start) / 4) _
          (spliced_word (slice_index b.words ((address - data_start) / 4)) address size value is aligned) f.words;
    } in advanced_fits (with_bytes b address size value) fits)))

meaning_fits : (op : Op) (text : List ℕ) (b : Body) (rd x y imm : ℕ) → FitsBody b → GoesFit (meaning op text b rd x y imm)
meaning_fits Lui text b rd x y imm f = written_fits b rd _ f
meaning_fits Auipc text b rd x y imm f = written_fits b rd _ f
meaning_fits Jal text b rd x y imm f = jumped_fits b rd _ f
meaning_fits Jalr text b rd x y imm f = jumped_fits b rd _ f
meaning_fits Beq text b rd x y imm f = branched_fits b _ imm f
meaning_fits Bne text b rd x y imm f = branched_fits b _ imm f
meaning_fits Blt text b rd x y imm f = branched_fits b _ imm f
meaning_fits Bge text b rd x y imm f = branched_fits b _ imm f
meaning_fits Bltu text b rd x y imm f = branched_fits b _ imm f
meaning_fits Bgeu text b rd x y imm f = branched_fits b _ imm f
meaning_fits Lb text b rd x y imm f = loaded_fits text b rd _ 1 (sign_extend 8) f
meaning_fits Lh text b rd x y imm f = loaded_fits text b rd _ 2 (sign_extend 16) f
meaning_fits Lw text b rd x y imm f = loaded_fits text b rd _ 4 (λ value. value) f
meaning_fits Lbu text b rd x y imm f = loaded_fits text b rd _ 1 (λ value. value) f
meaning_fits Lhu text b rd x y imm f = loaded_fits text b rd _ 2 (λ value. value) f
meaning_fits Sb text b rd x y imm f = stored_fits text b _ 1 y (inl refl) f
meaning_fits Sh text b rd x y imm f = stored_fits text b _ 2 y (inr (inl refl)) f
meaning_fits Sw text b rd x y imm f = stored_fits text b _ 4 y (inr (inr refl)) f
meaning_fits Addi text b rd x y imm f = written_fits b rd _ f
meaning_fits Slti text b rd x y imm f = written_fits b rd _ f
meaning_fits Sltiu text b rd x y imm f = written_fits b rd _ f
meaning_fits Xori text b rd x y imm f = written_fits b rd _ f
meaning_fits Ori text b rd x y imm f = written_fits b rd _ f
meaning_fits Andi text b rd x y imm f = written_fits b rd _ f
meaning_fits Slli text b rd x y imm f = written_fits b rd _ f
meaning_fits Srli text b rd x y imm f = written_fits b rd _ f
meaning_fits Srai text b rd x y imm f = written_fits b rd _ f
meaning_fits Add text b rd x y imm f = written_fits b rd _ f
meaning_fits Sub text b rd x y imm f = written_fits b rd _ f
meaning_fits Sll text b rd x y imm f = written_fits b rd _ f
meaning_fits Slt text b rd x y imm f = written_fits b rd _ f
meaning_fits Sltu text b rd x y imm f = written_fits b rd _ f
meaning_fits Xor text b rd x y imm f = written_fits b rd _ f
meaning_fits Srl text b rd x y imm f = written_fits b rd _ f
meaning_fits Sra text b rd x y imm f = written_fits b rd _ f
meaning_fits Or text b rd x y imm f = written_fits b rd _ f
meaning_fits And text b rd x y imm f = written_fits b rd _ f
meaning_fits Fence text b rd x y imm f = advanced_fits b f
meaning_fits Ecall text b rd x y imm f = tt
meaning_fits Ebreak text b rd x y imm f = tt
meaning_fits Mul text b rd x y imm f = written_fits b rd _ f
meaning_fits Mulh text b rd x y imm f = written_fits b rd _ f
meaning_fits Mulhsu text b rd x y imm f = written_fits b rd _ f
meaning_fits Mulhu text b rd x y imm f = written_fits b rd _ f
meaning_fits Div text b rd x y imm f = written_fits b rd _ f
meaning_fits Divu text b rd x y imm f = written_fits b rd _ f
meaning_fits Rem text b rd x y imm f = written_fits b rd _ f
meaning_fits Remu text b rd x y imm f = written_fits b rd _ f

word_fits : (text : List ℕ) (b : Body) (i : Option Instr) → FitsBody b → GoesFit (exec_word text b i)
word_fits text b None f = tt
word_fits text b (Some i) f = meaning_fits i.op text b i.rd _ _ i.imm f

all_fit : (text : Text) (b : Body) → FitsBody b → GoesFit (exec text b)
unfolding exec
all_fit text b f =
    if_by GoesFit (nat_lt b.pc (4 * length text.words)) (exec_word text.words b (instr_of (slice_index text.words (b.pc / 4)) text.set)) _
    (word_fits text.words b (instr_of (slice_index text.words (b.pc / 4)) text.set) f) tt

-- an instruction goes on to a body of such words
pub exec_fits : (text : Text) (b next : Body) (back : Bool) → FitsBody b → exec text b ≡ Goes next back → FitsBody next
exec_fits text b next back f is = subst GoesFit is (all_fit text b f)

-- the body at boot, and after an answer
boot_registers_fit : (words : ℕ) → words ≤ 16384 → All IsWord (boot_registers words)
boot_registers_fit words few =
    All-cons IsWord 0 ((data_start + 4 * words) ∷ replicate 29 0) zero_word
    (All-cons IsWord (data_start + 4 * words) (replicate 29 0) (omega (arith, few)) (All-replicate IsWord 29 0 zero_word))

pub boot_fits : (entry : ℕ) (words : List ℕ) → length words ≤ 16384 → All IsWord words → FitsBody (boot_body entry words)
boot_fits entry words few fits = record { regs = boot_registers_fit (length words) few; words = fits }

pub reply_fits : (entry : ℕ) (b : Body) (d : DataEntry) → length b.words ≤ 16384 → IsWord d.status → FitsData d → FitsBody b → FitsBody (reply entry b d)
reply_fits entry b d few status fits f =
    if_by FitsBody (is_end d) (restarted entry b) (resumed b d)
    (record { regs = boot_registers_fit (length b.words) few; words = f.words })
    (advanced_fits _ (with_reg_fits _ 14 _ (index_word d.words 3 fits.words) (with_reg_fits _ 13 _ (index_word d.words 2 fits.words)
    (with_reg_fits _ 12 _ (index_word d.words 1 fits.words) (with_reg_fits _ 11 _ (index_word d.words 0 fits.words)
    (with_reg_fits b 10 d.status status f))))))
