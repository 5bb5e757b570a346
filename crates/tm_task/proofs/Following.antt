-- Each instruction that goes on leads to a body that follows.
use Rattle.std.proofs.Common.{◌≡◌, refl, subst, ap, ℕ, ◌+◌, ◌-◌, ◌*◌, ◌/◌, ◌%◌, ◌^◌, ◌<◌, ◌≤◌, Bool, true, false, List, length, arith, Option, Some, None}
use Rattle.std.specs.Prelude.{◌==◌, not, nat_lt, if◌then◌else◌, slice_index, slice_set, Result, Ok, Err}
use Rattle.std.proofs.lemmas.List.{length-set}
use Rattle.std.proofs.lemmas.Bool.Decides.{nat_tests}
use Rattle.tm_marker.specs.declared.body.Body.{Body}
use Rattle.tm_rv.specs.Code.{Text}
use Rattle.tm_rv.specs.Instr.{instr_of}
use Rattle.tm_rv.specs.declared.instr.Instr.{Instr}
use Rattle.tm_rv.specs.declared.instr.Op.{Op}
use Rattle.tm_rv.specs.declared.instr.Op.TheVariants.{Lui, Auipc, Jal, Jalr, Beq, Bne, Blt, Bge, Bltu, Bgeu, Lb, Lh, Lw, Lbu, Lhu, Sb, Sh, Sw, Addi, Slti, Sltiu, Xori, Ori, Andi, Slli, Srli, Srai, Add, Sub, Sll, Slt, Sltu, Xor, Srl, Sra, Or, And, Fence, Ecall, Ebreak, Mul, Mulh, Mulhsu, Mulhu, Div, Divu, Rem, Remu}
use Rattle.tm_task.specs.Memory.{in_text}
use Rattle.tm_task.specs.declared.outcome.Cause.{Cause}
use Rattle.tm_task.specs.Exec.{Exec, Calls, Goes, with_reg, advanced, written, jumped, branched, fetched, loaded_by, loaded, with_bytes, stored, is_unaligned, in_memory, meaning, exec_word, exec}
use Rattle.tm_task.specs.Follows.{Follows, IsOrderly}

-- a value in a register leaves the rest
with_reg-pc : (b : Body) (rd value : ℕ) → (with_reg b rd value).pc ≡ b.pc
with_reg-pc b rd value = elim (rd == 0) as (λ t. (if t then b else record b { regs = slice_set b.regs (rd - 1) value }).pc ≡ b.pc) [ true ↦ refl | false ↦ refl ]

with_reg-words : (b : Body) (rd value : ℕ) → (with_reg b rd value).words ≡ b.words
with_reg-words b rd value = elim (rd == 0) as (λ t. (if t then b else record b { regs = slice_set b.regs (rd - 1) value }).words ≡ b.words) [ true ↦ refl | false ↦ refl ]

with_reg-regs : (b : Body) (rd value : ℕ) → length (with_reg b rd value).regs ≡ length b.regs
with_reg-regs b rd value = elim (rd == 0) as (λ t. length (if t then b else record b { regs = slice_set b.regs (rd - 1) value }).regs ≡ length b.regs) [ true ↦ refl | false ↦ simp length-set ]

-- a body inside a text
record IsInside (text : List ℕ) (b : Body) : Type 0 where
  aligned : b.pc % 4 ≡ 0
  inside : b.pc < 4 * length text
  low : b.pc + 4 < 2 ^ 32

-- both sides of a test
chosen : (text : List ℕ) (b : Body) (test : Bool) (x y : Exec) →
    (test ≡ true → IsOrderly text b x) → (test ≡ false → IsOrderly text b y) → IsOrderly text b (if test then x else y)
chosen text b true x y left right = left refl
chosen text b false x y left right = right refl

-- the next instruction, of a body with another list of registers or of data words
advanced_follows : (text : List ℕ) (b c : Body) → IsInside text b → c.pc ≡ b.pc → length c.regs ≡ length b.regs → length c.words ≡ length b.words →
    IsOrderly text b (Goes (advanced c) false)
advanced_follows text b c inside pc regs words = record {
  rises = λ _. omega arith;
  aligned = omega arith;
  within = omega arith;
  registers = regs;
  words = words;
}

written_follows : (text : List ℕ) (b : Body) (rd value : ℕ) → IsInside text b → IsOrderly text b (written b rd value)
written_follows text b rd value inside =
    advanced_follows text b (with_reg b rd (value % 2 ^ 32)) inside (with_reg-pc b rd (value % 2 ^ 32)) (with_reg-regs b rd (value % 2 ^ 32)) (ap length (with_reg-words b rd (value % 2 ^ 32)))

jumped_follows : (text : List ℕ) (b : Body) (rd target : ℕ) → IsInside text b → target < 2 ^ 32 → IsOrderly text b (jumped b rd target)
jumped_follows text b rd target inside small =
    chosen text b (target % 4 == 0) _ _
    (λ aligned. record {
      rises = λ further. grind (arith, nat_tests);
      aligned = grind (arith, nat_tests);
      within = small;
      registers = with_reg-regs b rd ((b.pc + 4) % 2 ^ 32);
      words = ap length (with_reg-words b rd ((b.pc + 4) % 2 ^ 32));
    })
    (λ _. tt)

branched_follows : (text : List ℕ) (b : Body) (taken : Bool) (imm : ℕ) → IsInside text b → IsOrderly text b (branched b taken imm)
branched_follows text b true imm inside = jumped_follows text b 0 ((b.pc + imm) % 2 ^ 32) inside (omega arith)
branched_follows text b false imm inside = advanced_follows text b b inside refl refl refl

loaded_by_follows : (text : List ℕ) (b : Body) (rd : ℕ) (extend : ℕ → ℕ) (r : Result ℕ Cause) → IsInside text b → IsOrderly text b (loaded_by b rd extend r)
loaded_by_follows text b rd extend (Ok value) inside = written_follows text b rd (extend value) inside
loaded_by_follows text b rd extend (Err cause) inside = tt

loaded_follows : (text : List ℕ) (b : Body) (rd address size : ℕ) (extend : ℕ → ℕ) → IsInside text b → IsOrderly text b (loaded text b rd address size extend)
loaded_follows text b rd address size extend inside = loaded_by_follows text b rd extend (fetched text b address size) inside

stored_follows : (text : List ℕ) (b : Body) (address size value : ℕ) → IsInside text b → IsOrderly text b (stored text b address size value)
stored_follows text b address size value inside =
    chosen text b (is_unaligned address size) _ _ (λ _. tt)
    (λ _. chosen text b (not (in_memory text b address)) _ _ (λ _. tt)
    (λ _. chosen text b (in_text text address) _ _ (λ _. tt)
    (λ _. advanced_follows text b (with_bytes b address size value) inside refl refl (simp length-set))))

meaning_follows : (op : Op) (text : List ℕ) (b : Body) (rd x y imm : ℕ) → IsInside text b → IsOrderly text b (meaning op text b rd x y imm)
meaning_follows Lui text b rd x y imm inside = written_follows text b rd _ inside
meaning_follows Auipc text b rd x y imm inside = written_follows text b rd _ inside
meaning_follows Jal text b rd x y imm inside = jumped_follows text b rd _ inside (omega arith)
meaning_follows Jalr text b rd x y imm inside = jumped_follows text b rd _ inside (omega arith)
meaning_follows Beq text b rd x y imm inside = branched_follows text b _ imm inside
meaning_follows Bne text b rd x y imm inside = branched_follows text b _ imm inside
meaning_follows Blt text b rd x y imm inside = branched_follows text b _ imm inside
meaning_follows Bge text b rd x y imm inside = branched_follows text b _ imm inside
meaning_follows Bltu text b rd x y imm inside = branched_follows text b _ imm inside
meaning_follows Bgeu text b rd x y imm inside = branched_follows text b _ imm inside
meaning_follows Lb text b rd x y imm inside = loaded_follows text b rd _ _ _ inside
meaning_follows Lh text b rd x y imm inside = loaded_follows text b rd _ _ _ inside
meaning_follows Lw text b rd x y imm inside = loaded_follows text b rd _ _ _ inside
meaning_follows Lbu text b rd x y imm inside = loaded_follows text b rd _ _ _ inside
meaning_follows Lhu text b rd x y imm inside = loaded_follows text b rd _ _ _ inside
meaning_follows Sb text b rd x y imm inside = stored_follows text b _ _ y inside
meaning_follows Sh text b rd x y imm inside = stored_follows text b _ _ y inside
meaning_follows Sw text b rd x y imm inside = stored_follows text b _ _ y inside
meaning_follows Addi text b rd x y imm inside = written_follows text b rd _ inside
meaning_follows Slti text b rd x y imm inside = written_follows text b rd _ inside
meaning_follows Sltiu text b rd x y imm inside = written_follows text b rd _ inside
meaning_follows Xori text b rd x y imm inside = written_follows text b rd _ inside
meaning_follows Ori text b rd x y imm inside = written_follows text b rd _ inside
meaning_follows Andi text b rd x y imm inside = written_follows text b rd _ inside
meaning_follows Slli text b rd x y imm inside = written_follows text b rd _ inside
meaning_follows Srli text b rd x y imm inside = written_follows text b rd _ inside
meaning_follows Srai text b rd x y imm inside = written_follows text b rd _ inside
meaning_follows Add text b rd x y imm inside = written_follows text b rd _ inside
meaning_follows Sub text b rd x y imm inside = written_follows text b rd _ inside
meaning_follows Sll text b rd x y imm inside = written_follows text b rd _ inside
meaning_follows Slt text b rd x y imm inside = written_follows text b rd _ inside
meaning_follows Sltu text b rd x y imm inside = written_follows text b rd _ inside
meaning_follows Xor text b rd x y imm inside = written_follows text b rd _ inside
meaning_follows Srl text b rd x y imm inside = written_follows text b rd _ inside
meaning_follows Sra text b rd x y imm inside = written_follows text b rd _ inside
meaning_follows Or text b rd x y imm inside = written_follows text b rd _ inside
meaning_follows And text b rd x y imm inside = written_follows text b rd _ inside
meaning_follows Fence text b rd x y imm inside = advanced_follows text b b inside refl refl refl
meaning_follows Ecall text b rd x y imm inside = inside.inside
meaning_follows Ebreak text b rd x y imm inside = tt
meaning_follows Mul text b rd x y imm inside = written_follows text b rd _ inside
meaning_follows Mulh text b rd x y imm inside = written_follows text b rd _ inside
meaning_follows Mulhsu text b rd x y imm inside = written_follows text b rd _ inside
meaning_follows Mulhu text b rd x y imm inside = written_follows text b rd _ inside
meaning_follows Div text b rd x y imm inside = written_follows text b rd _ inside
meaning_follows Divu text b rd x y imm inside = written_follows text b rd _ inside
meaning_follows Rem text b rd x y imm inside = written_follows text b rd _ inside
meaning_follows Remu text b rd x y imm inside = written_follows text b rd _ inside

exec_word_follows : (text : List ℕ) (b : Body) (i : Option Instr) → IsInside text b → IsOrderly text b (exec_word text b i)
exec_word_follows text b None inside = tt
exec_word_follows text b (Some i) inside = meaning_follows i.op text b i.rd _ _ i.imm inside

-- an instruction of a text of at most 16,384 words is orderly
pub exec_follows : (text : Text) (b : Body) → length text.words ≤ 16384 → b.pc % 4 ≡ 0 → IsOrderly text.words b (exec text b)
unfolding exec
exec_follows text b few aligned =
    chosen text.words b (nat_lt b.pc (4 * length text.words)) _ _
    (λ below. exec_word_follows text.words b (instr_of (slice_index text.words (b.pc / 4)) text.set) (record { aligned = aligned; inside = grind (arith, nat_tests); low = grind (arith, nat_tests) }))
    (λ _. tt)

-- where it goes on, the next body follows
pub goes_on : (text : Text) (b next : Body) (back : Bool) → exec text b ≡ Goes next back → length text.words ≤ 16384 → b.pc % 4 ≡ 0 → Follows b next back
goes_on text b next back e few aligned = subst (IsOrderly text.words b) e (exec_follows text b few aligned)

-- where it calls, the body is inside the text
pub calls_inside : (text : Text) (b : Body) (service : ℕ) → exec text b ≡ Calls service → length text.words ≤ 16384 → b.pc % 4 ≡ 0 → b.pc < 4 * length text.words
calls_inside text b service e few aligned = subst (IsOrderly text.words b) e (exec_follows text b few aligned)
