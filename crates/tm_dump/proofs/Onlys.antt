-- What each reading tells of what it read.
use Rattle.std.proofs.Common.{◌≡◌, ℕ, ◌%◌, ◌<◌, ◌≤◌, List, [], ◌∷◌, ◌++◌, length, take, refl, sym, ap, ◌∙◌, subst, arith, zero, suc, Bool, true, false, not, ◌&&◌, ◌==◌, if◌then◌else◌, nat_lt, nat_le, inl, inr}
use Rattle.std.specs.Prelude.{Ok, Option, ◌≢◌}
use Rattle.std.specs.List.{flat_map}
use Rattle.std.proofs.lemmas.Bool.{and_parts, or_cases}
use Rattle.std.proofs.lemmas.Bool.Decides.{nat_tests}
use Rattle.tm_marker.specs.declared.marker.Marker.{Marker}
use Rattle.tm_marker.specs.declared.marker.TheConstants.{EPOCH_LENGTH}
use Rattle.tm_marker.specs.declared.entries.Kind.{Kind}
use Rattle.tm_marker.specs.declared.entries.Kind.TheVariants.{Preempted, Waits, Ends, Fault, Shutdown, Idle}
use Rattle.tm_marker.specs.declared.entries.Switch.{Switch}
use Rattle.tm_marker.specs.declared.entries.DataEntry.{DataEntry}
use Rattle.tm_marker.specs.declared.entries.OutputEntry.{OutputEntry}
use Rattle.tm_check.specs.Checkpoint.{Checkpoint, checkpoint}
use Rattle.tm_lines.specs.Steps.{◌>>=◌}
use Rattle.tm_log.specs.Window.{nobody, zero_marker}
use Rattle.tm_log.specs.WellFormed.{IsMarker, IsTaskOrNobody, GoesTo, IsOutput, IsCheckpoint}
use Rattle.tm_dump.specs.Cursor.{Cursor, byte_where, long_where}
use Rattle.tm_dump.specs.Fields.{word_bytes, long_bytes, marker_bytes, kind_number, switch_bytes, output_bytes, entry_bytes, core_words, checkpoint_bytes}
use Rattle.tm_dump.specs.Reading.{is_zero_of, count_in, pc_in, instant_in, marker_in, is_task_or_nobody, follows, is_kind_from, kind_of, goes_to, as_kind, kind_in, switch_in, output_in, data_in, checkpoint_in}
use Rattle.tm_dump.proofs.Taken.{Took, Only, took_both, took_byte, took_word, ok_is, bound, only_byte, only_word, only_long, only_words}

zero_of : (nobody : Bool) (n : ℕ) → is_zero_of nobody n ≡ true → nobody ≡ true → n ≡ 0
zero_of true n keeps is = grind (arith, nat_tests, keeps)
zero_of false n keeps is = cc is

-- what is read of a marker
pub record IsMarked (nobody : Bool) (epoch : ℕ) (m : Marker) : Type 0 where
  pub epoch_is : m.epoch ≡ epoch
  pub marker : IsMarker m
  pub count : nobody ≡ true → m.count ≡ 0
  pub pc : nobody ≡ true → m.pc ≡ 0

pub only_marked : (nobody : Bool) (at : Cursor) (epoch : ℕ × Cursor) (r : Marker × Cursor) → Took at epoch.1 (long_bytes epoch.0) →
    instant_in nobody epoch.0 epoch.1 ≡ Ok r → Only marker_bytes (IsMarked nobody epoch.0) at r
unfolding marker_bytes
only_marked nobody at epoch r took e =
    let Goal : Type 0 = Only marker_bytes (IsMarked nobody epoch.0) at r in
    bound Goal (count_in nobody epoch.1) (λ count. pc_in nobody count.1 >>= λ pc. Ok (record { epoch = epoch.0; count = count.0; pc = pc.0 }, pc.1)) r e (λ count is e1.
    bound Goal (pc_in nobody count.1) (λ pc. Ok (record { epoch = epoch.0; count = count.0; pc = pc.0 }, pc.1)) r e1 (λ pc is2 e2.
    let c = only_word (λ n. nat_lt n EPOCH_LENGTH && is_zero_of nobody n) epoch.1 count is in
    let p = only_word (λ n. n % 4 == 0 && is_zero_of nobody n) count.1 pc is2 in
    let cs = and_parts (nat_lt count.0 EPOCH_LENGTH) (is_zero_of nobody count.0) c.keeps in
    let ps = and_parts (pc.0 % 4 == 0) (is_zero_of nobody pc.0) p.keeps in
    let m : Marker = record { epoch = epoch.0; count = count.0; pc = pc.0 } in
    subst (Only marker_bytes (IsMarked nobody epoch.0) at) (ok_is (m, pc.1) r e2) (record {
      took = took_both at count.1 pc.1 (long_bytes epoch.0 ++ word_bytes count.0) (word_bytes pc.0)
          (took_both at epoch.1 count.1 (long_bytes epoch.0) (word_bytes count.0) took c.took) p.took;
      keeps = record {
        epoch_is = refl;
        marker = record { count = grind (arith, nat_tests, cs.0); aligned = grind (arith, nat_tests, ps.0) };
        count = zero_of nobody count.0 cs.1;
        pc = zero_of nobody pc.0 ps.1;
      };
    })))

-- a marker of a task, or of nobody
pub record IsMarkerOf (nobody : Bool) (m : Marker) : Type 0 where
  pub marker : IsMarker m
  pub zero : nobody ≡ true → m ≡ zero_marker

all_zero : (m : Marker) → m.epoch ≡ 0 → m.count ≡ 0 → m.pc ≡ 0 → m ≡ zero_marker
all_zero m e c p = λ i. record { epoch = e i; count = c i; pc = p i }

pub only_marker : (nobody : Bool) (at : Cursor) (r : Marker × Cursor) → marker_in nobody at ≡ Ok r → Only marker_bytes (IsMarkerOf nobody) at r
only_marker nobody at r e =
    let Goal : Type 0 = Only marker_bytes (IsMarkerOf nobody) at r in
    bound Goal (long_where (is_zero_of nobody) at) (λ epoch. instant_in nobody epoch.0 epoch.1) r e (λ epoch is e1.
    let l = only_long (is_zero_of nobody) at epoch is in
    let m = only_marked nobody at epoch r l.took e1 in
    record {
      took = m.took;
      keeps = record {
        marker = m.keeps.marker;
        zero = λ none. all_zero r.0 (m.keeps.epoch_is ∙ zero_of nobody epoch.0 l.keeps none) (m.keeps.count none) (m.keeps.pc none);
      };
    })

-- kinds and their numbers
number_again : (n : ℕ) → n < 6 → kind_number (kind_of n) ≡ n
number_again zero below = refl
number_again (suc zero) below = refl
number_again (suc (suc zero)) below = refl
number_again (suc (suc (suc zero))) below = refl
number_again (suc (suc (suc (suc zero)))) below = refl
number_again (suc (suc (suc (suc (suc zero))))) below = refl
number_again (suc (suc (suc (suc (suc (suc n)))))) below = absurd (omega arith)

idle_from : (n : ℕ) → kind_of n ≡ Idle → 5 ≤ n
idle_from zero idle = cc idle
idle_from (suc zero) idle = cc idle
idle_from (suc (suc zero)) idle = cc idle
idle_from (suc (suc (suc zero))) idle = cc idle
idle_from (suc (suc (suc (suc zero)))) idle = cc idle
idle_from (suc (suc (suc (suc (suc n))))) idle = omega arith

-- the kind is idle exactly where nobody ran
pub record IsKindFrom (from : ℕ) (kind : Kind) : Type 0 where
  pub idle : kind ≡ Idle → from ≡ nobody
  pub nobody : from ≡ nobody → kind ≡ Idle

kind_kept : (b : Bool) (from n : ℕ) → (from == nobody) ≡ b → (if b then n == 5 else nat_lt n 5) ≡ true → IsKindFrom from (kind_of n) × (n < 6)
kind_kept true from n is keeps =
    let five : n ≡ 5 = grind (arith, nat_tests, keeps) in
    (record { idle = λ idle. grind (arith, nat_tests, is); nobody = λ none. ap kind_of five }, omega arith)
kind_kept false from n is keeps =
    let below : n < 5 = grind (arith, nat_tests, keeps) in
    (record { idle = λ idle. absurd (omega (arith, idle_from n idle)); nobody = λ none. absurd (grind (arith, nat_tests, is, none)) }, omega arith)

pub only_kind : (from : ℕ) (at : Cursor) (r : Kind × Cursor) → kind_in from at ≡ Ok r → Only (λ kind. kind_number kind ∷ []) (IsKindFrom from) at r
only_kind from at r e =
    let Goal : Type 0 = Only (λ kind. kind_number kind ∷ []) (IsKindFrom from) at r in
    bound Goal (byte_where (is_kind_from from) at) as_kind r e (λ byte is e1.
    let b = only_byte (is_kind_from from) at byte is in
    let k = kind_kept (from == nobody) from byte.0 refl b.keeps in
    subst (Only (λ kind. kind_number kind ∷ []) (IsKindFrom from) at) (ok_is (kind_of byte.0, byte.1) r e1) (record {
      took = subst (λ n. Took at byte.1 (n ∷ [])) (sym (number_again byte.0 k.1)) b.took;
      keeps = k.0;
    }))

there_of : (tasks n : ℕ) → is_task_or_nobody tasks n ≡ true → IsTaskOrNobody tasks n
there_of tasks n is = elim (or_cases (nat_lt n tasks) (n == nobody) is) [
  | inl below ↦ inr (grind (arith, nat_tests, below))
  | inr none ↦ inl (grind (arith, nat_tests, none))
]

differ : (a b : ℕ) → not (a == b) ≡ true → a ≢ b
differ a b is same = absurd (grind (arith, nat_tests, is, same))

goes_of : (kind : Kind) (from to : ℕ) → goes_to kind from to ≡ true → GoesTo kind from to
goes_of Preempted from to is = let ps = and_parts (not (to == nobody)) (not (to == from)) is in (differ to nobody ps.0, differ to from ps.1)
goes_of Waits from to is = differ to from is
goes_of Ends from to is = tt
goes_of Fault from to is = grind (arith, nat_tests, is)
goes_of Shutdown from to is = grind (arith, nat_tests, is)
goes_of Idle from to is = differ to nobody is

-- what is read of a control entry
pub record IsSwitch (tasks : ℕ) (before : Option Switch) (e : Switch) : Type 0 where
  pub from_there : IsTaskOrNobody tasks e.from
  pub follows_on : follows before e.from ≡ true
  pub kind : IsKindFrom e.from e.kind
  pub from_marker : IsMarkerOf (e.from == nobody) e.from_at
  pub to_there : IsTaskOrNobody tasks e.to
  pub goes : GoesTo e.kind e.from e.to
  pub to_marker : IsMarkerOf (e.to == nobody) e.to_at

pub only_switch : (tasks : ℕ) (before : Option Switch) (at : Cursor) (r : Switch × Cursor) → switch_in tasks before at ≡ Ok r → Only switch_bytes (IsSwitch tasks before) at r
unfolding switch_bytes
only_switch tasks before at r e =
    let Goal : Type 0 = Only switch_bytes (IsSwitch tasks before) at r in
    bound Goal _ _ r e (λ from is e1.
    bound Goal _ _ r e1 (λ kind is2 e2.
    bound Goal _ _ r e2 (λ from_at is3 e3.
    bound Goal _ _ r e3 (λ to is4 e4.
    bound Goal _ _ r e4 (λ to_at is5 e5.
    let f = only_byte (λ n. is_task_or_nobody tasks n && follows before n) at from is in
    let fs = and_parts (is_task_or_nobody tasks from.0) (follows before from.0) f.keeps in
    let k = only_kind from.0 from.1 kind is2 in
    let fm = only_marker (from.0 == nobody) kind.1 from_at is3 in
    let t = only_byte (λ n. is_task_or_nobody tasks n && goes_to kind.0 from.0 n) from_at.1 to is4 in
    let ts = and_parts (is_task_or_nobody tasks to.0) (goes_to kind.0 from.0 to.0) t.keeps in
    let tm = only_marker (to.0 == nobody) to.1 to_at is5 in
    let entry : Switch = record { from = from.0; kind = kind.0; from_at = from_at.0; to = to.0; to_at = to_at.0 } in
    let two = took_both at from.1 kind.1 (from.0 ∷ []) (kind_number kind.0 ∷ []) f.took k.took in
    let three = took_both at kind.1 from_at.1 (from.0 ∷ kind_number kind.0 ∷ []) (marker_bytes from_at.0) two fm.took in
    let four = took_both at from_at.1 to.1 ((from.0 ∷ kind_number kind.0 ∷ []) ++ marker_bytes from_at.0) (to.0 ∷ []) three t.took in
    subst (Only switch_bytes (IsSwitch tasks before) at) (ok_is (entry, to_at.1) r e5) (record {
      took = took_both at to.1 to_at.1 ((from.0 ∷ kind_number kind.0 ∷ []) ++ marker_bytes from_at.0 ++ (to.0 ∷ [])) (marker_bytes to_at.0) four tm.took;
      keeps = record {
        from_there = there_of tasks from.0 fs.0;
        follows_on = fs.1;
        kind = k.keeps;
        from_marker = fm.keeps;
        to_there = there_of tasks to.0 ts.0;
        goes = goes_of kind.0 from.0 to.0 ts.1;
        to_marker = tm.keeps;
      };
    }))))))

pub only_output : (tasks : ℕ) (before : Option OutputEntry) (at : Cursor) (r : OutputEntry × Cursor) → output_in tasks before at ≡ Ok r → Only output_bytes (IsOutput tasks) at r
unfolding output_bytes
only_output tasks before at r e =
    let Goal : Type 0 = Only output_bytes (IsOutput tasks) at r in
    bound Goal _ _ r e (λ task is e1.
    bound Goal _ _ r e1 (λ port is2 e2.
    bound Goal _ _ r e2 (λ value is3 e3.
    let t = only_byte (λ n. nat_lt n tasks) at task is in
    let p = only_byte (λ n. nat_lt n 4) task.1 port is2 in
    let entry : OutputEntry = record { task = task.0; port = port.0; value = value.0 } in
    subst (Only output_bytes (IsOutput tasks) at) (ok_is (entry, value.1) r e3) (record {
      took = took_both at port.1 value.1 (task.0 ∷ port.0 ∷ []) (word_bytes value.0)
          (took_both at task.1 port.1 (task.0 ∷ []) (port.0 ∷ []) t.took p.took) (took_word port.1 value is3);
      keeps = record { task = grind (arith, nat_tests, t.keeps); port = grind (arith, nat_tests, p.keeps) };
    }))))

pub taken_all : {X : Type 0} (n : ℕ) (xs : List X) → length xs ≡ n → take n xs ≡ xs
taken_all zero [] same = refl
taken_all zero (x ∷ xs) same = absurd (omega arith)
taken_all (suc n) [] same = refl
taken_all (suc n) (x ∷ xs) same = ap (λ l. x ∷ l) (taken_all n xs (omega arith))

pub only_data : (tasks : ℕ) (before : Option DataEntry) (at : Cursor) (r : DataEntry × Cursor) → data_in tasks before at ≡ Ok r → Only entry_bytes (λ entry. entry.status ≤ 8) at r
unfolding entry_bytes
only_data tasks before at r e =
    let Goal : Type 0 = Only entry_bytes (λ entry. entry.status ≤ 8) at r in
    bound Goal _ _ r e (λ service is e1.
    bound Goal _ _ r e1 (λ status is2 e2.
    bound Goal _ _ r e2 (λ words is3 e3.
    let s = only_word (λ n. nat_le n 8) service.1 status is2 in
    let w = only_words 4 status.1 words is3 in
    let entry : DataEntry = record { service = service.0; status = status.0; words = words.0 } in
    subst (Only entry_bytes (λ entry. entry.status ≤ 8) at) (ok_is (entry, words.1) r e3) (record {
      took = took_both at status.1 words.1 ((service.0 ∷ []) ++ word_bytes status.0) (flat_map word_bytes (take 4 words.0))
          (took_both at service.1 status.1 (service.0 ∷ []) (word_bytes status.0) (took_byte at service is) s.took)
          (subst (λ ws. Took status.1 words.1 (flat_map word_bytes ws)) (sym (taken_all 4 words.0 w.keeps)) w.took);
      keeps = grind (arith, nat_tests, s.keeps);
    }))))

pub only_checkpoint : (size entries switches : ℕ) (at : Cursor) (r : Checkpoint × Cursor) → checkpoint_in size entries switches at ≡ Ok r → Only checkpoint_bytes (IsCheckpoint entries switches) at r
unfolding checkpoint_bytes core_words word_bytes
only_checkpoint size entries switches at r e =
    let Goal : Type 0 = Only checkpoint_bytes (IsCheckpoint entries switches) at r in
    bound Goal _ _ r e (λ pc is e1.
    bound Goal _ _ r e1 (λ regs is2 e2.
    bound Goal _ _ r e2 (λ number is3 e3.
    bound Goal _ _ r e3 (λ control is4 e4.
    bound Goal _ _ r e4 (λ words is5 e5.
    let p = only_word (λ n. n % 4 == 0) at pc is in
    let g = only_words 31 pc.1 regs is2 in
    let d = only_long (λ n. nat_le n entries) regs.1 number is3 in
    let k = only_long (λ n. nat_le n switches) number.1 control is4 in
    let w = only_words size control.1 words is5 in
    let one : Checkpoint = checkpoint (record { pc = pc.0; regs = regs.0; words = words.0 }) number.0 control.0 in
    let core = took_both at pc.1 regs.1 (word_bytes pc.0) (flat_map word_bytes (take 31 regs.0)) p.took
    (subst (λ ws. Took pc.1 regs.1 (flat_map word_bytes ws)) (sym (taken_all 31 regs.0 g.keeps)) g.took) in
    let three = took_both at regs.1 number.1 (flat_map word_bytes (core_words one.body)) (long_bytes number.0) core d.took in
    let four = took_both at number.1 control.1 (flat_map word_bytes (core_words one.body) ++ long_bytes number.0) (long_bytes control.0) three k.took in
    subst (Only checkpoint_bytes (IsCheckpoint entries switches) at) (ok_is (one, words.1) r e5) (record {
      took = took_both at control.1 words.1 (flat_map word_bytes (core_words one.body) ++ long_bytes number.0 ++ long_bytes control.0) (flat_map word_bytes words.0) four w.took;
      keeps = record { aligned = grind (arith, nat_tests, p.keeps); data_number = grind (arith, nat_tests, d.keeps); control_number = grind (arith, nat_tests, k.keeps) };
    }))))))
