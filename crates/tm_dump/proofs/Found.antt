-- What is written is read: each thing is found where it is spelled, if it keeps its rules.
use Rattle.std.proofs.Common.{◌≡◌, ℕ, ◌+◌, ◌%◌, ◌<◌, ◌≤◌, ◌^◌, List, [], ◌∷◌, ◌++◌, length, refl, sym, ap, ◌∙◌, subst, arith, Bool, true, false, not, ◌&&◌, ◌||◌, ◌==◌, if◌then◌else◌, nat_lt, nat_le, inl, inr}
use Rattle.std.specs.Prelude.{Result, Ok, Option, ◌≢◌, All}
use Rattle.std.specs.List.{flat_map}
use Rattle.std.proofs.lemmas.Bool.{and_from, ne_eqb}
use Rattle.std.proofs.lemmas.Bool.Decides.{nat_tests}
use Rattle.std.proofs.lemmas.List.{append_assoc}
use Rattle.std.proofs.lemmas.List.Elements.{All-head, All-tail}
use Rattle.byteorder.specs.Numbers.{little_number-reads_back}
use Rattle.tm_marker.specs.declared.marker.Marker.{Marker}
use Rattle.tm_marker.specs.declared.marker.TheConstants.{EPOCH_LENGTH}
use Rattle.tm_marker.specs.declared.entries.Kind.{Kind}
use Rattle.tm_marker.specs.declared.entries.Kind.TheVariants.{Preempted, Waits, Ends, Fault, Shutdown, Idle}
use Rattle.tm_marker.specs.declared.entries.Switch.{Switch}
use Rattle.tm_marker.specs.declared.entries.DataEntry.{DataEntry}
use Rattle.tm_marker.specs.declared.entries.OutputEntry.{OutputEntry}
use Rattle.tm_check.specs.Checkpoint.{Checkpoint}
use Rattle.tm_lines.specs.Steps.{◌>>=◌}
use Rattle.tm_log.specs.Window.{nobody, zero_marker}
use Rattle.tm_log.specs.WellFormed.{IsMarker, IsTaskOrNobody, GoesTo, IsOutput, IsCheckpoint}
use Rattle.tm_dump.specs.Widths.{FitsMarker}
use Rattle.tm_dump.specs.Cursor.{Cursor, Reading, bad, past, ruled, word_at, long_at, byte_in, word_in, long_in, words_in, byte_where, long_where}
use Rattle.tm_dump.specs.Fields.{word_bytes, long_bytes, marker_bytes, kind_number, switch_bytes, output_bytes, entry_bytes, core_words, checkpoint_bytes}
use Rattle.tm_dump.specs.Reading.{is_zero_of, count_in, pc_in, instant_in, marker_in, is_task_or_nobody, follows, is_kind_from, kind_of, goes_to, as_kind, kind_in, switch_in, output_in, data_in, checkpoint_in}
use Rattle.tm_dump.proofs.Onlys.{taken_all}

-- the value is read, and these bytes stay
pub record FoundAt {X : Type 0} (read : Reading X) (x : X) (rest : List ℕ) : Type 0 where
  pub after : Cursor
  pub is : read ≡ Ok (x, after)
  pub left : after.left ≡ rest

pub then_is : {A B E : Type 0} (r : Result A E) (next : A → Result B E) (a : A) (b : Result B E) → r ≡ Ok a → next a ≡ b → (r >>= next) ≡ b
then_is r next a b is more = ap (λ r. r >>= next) is ∙ more

else_is : {X : Type 0} (b : Bool) (x y : X) → b ≡ false → (if b then x else y) ≡ y
else_is true x y is = cc is
else_is false x y is = refl

word_there : (p n : ℕ) (rest : List ℕ) → n < 2 ^ 32 → FoundAt (word_in (record { place = p; left = word_bytes n ++ rest })) n rest
unfolding word_bytes word_at
word_there p n rest small =
    let at : Cursor = record { place = p; left = word_bytes n ++ rest } in
    let long : nat_lt (length at.left) 4 ≡ false = grind (arith, nat_tests) in
    record {
      after = record { place = p + 4; left = rest };
      is = else_is (nat_lt (length at.left) 4) (bad at) (Ok (word_at at.left, past 4 at)) long ∙ ap (λ v. Ok (v, past 4 at)) (little_number-reads_back 4 n [] small);
      left = refl;
    }

long_there : (p n : ℕ) (rest : List ℕ) → n < 2 ^ 64 → FoundAt (long_in (record { place = p; left = long_bytes n ++ rest })) n rest
unfolding long_bytes long_at
long_there p n rest small =
    let at : Cursor = record { place = p; left = long_bytes n ++ rest } in
    let long : nat_lt (length at.left) 8 ≡ false = grind (arith, nat_tests) in
    record {
      after = record { place = p + 8; left = rest };
      is = else_is (nat_lt (length at.left) 8) (bad at) (Ok (long_at at.left, past 8 at)) long ∙ ap (λ v. Ok (v, past 8 at)) (little_number-reads_back 8 n [] small);
      left = refl;
    }

byte_there : (p n : ℕ) (rest : List ℕ) → FoundAt (byte_in (record { place = p; left = n ∷ rest })) n rest
byte_there p n rest =
    let at : Cursor = record { place = p; left = n ∷ rest } in
    let long : nat_lt (length at.left) 1 ≡ false = grind (arith, nat_tests) in
    record {
      after = record { place = p + 1; left = rest };
      is = else_is (nat_lt (length at.left) 1) (bad at) (Ok (n, past 1 at)) long;
      left = refl;
    }

pub found_word : (at : Cursor) (n : ℕ) (rest : List ℕ) → n < 2 ^ 32 → at.left ≡ word_bytes n ++ rest → FoundAt (word_in at) n rest
found_word at n rest small here = subst (λ l. FoundAt (word_in (record { place = at.place; left = l })) n rest) (sym here) (word_there at.place n rest small)

pub found_long : (at : Cursor) (n : ℕ) (rest : List ℕ) → n < 2 ^ 64 → at.left ≡ long_bytes n ++ rest → FoundAt (long_in at) n rest
found_long at n rest small here = subst (λ l. FoundAt (long_in (record { place = at.place; left = l })) n rest) (sym here) (long_there at.place n rest small)

pub found_byte : (at : Cursor) (n : ℕ) (rest : List ℕ) → at.left ≡ n ∷ rest → FoundAt (byte_in at) n rest
found_byte at n rest here = subst (λ l. FoundAt (byte_in (record { place = at.place; left = l })) n rest) (sym here) (byte_there at.place n rest)

pub by_rule : {X : Type 0} (at : Cursor) (rule : X → Bool) (read : Reading X) (x : X) (rest : List ℕ) → rule x ≡ true → FoundAt read x rest → FoundAt (ruled at rule read) x rest
by_rule at rule read x rest keeps f = record {
  after = f.after;
  is = ap (λ r. ruled at rule r) f.is ∙ ap (λ b. if b then Ok (x, f.after) else bad at) keeps;
  left = f.left;
}

pub found_words : (at : Cursor) (ns rest : List ℕ) → All (λ n. n < 2 ^ 32) ns → at.left ≡ flat_map word_bytes ns ++ rest → FoundAt (words_in (length ns) at) ns rest
found_words at [] rest small here = record { after = at; is = refl; left = here }
found_words at (n ∷ ns) rest small here =
    let one = found_word at n (flat_map word_bytes ns ++ rest) (All-head (λ n. n < 2 ^ 32) n ns small) (here ∙ append_assoc (word_bytes n) (flat_map word_bytes ns) rest) in
    let others = found_words one.after ns rest (All-tail (λ n. n < 2 ^ 32) n ns small) one.left in
    record {
      after = others.after;
      is = then_is (word_in at) (λ word. words_in (length ns) word.1 >>= λ words. Ok (word.0 ∷ words.0, words.1)) (n, one.after) (Ok (n ∷ ns, others.after)) one.is
          (then_is (words_in (length ns) one.after) (λ words. Ok (n ∷ words.0, words.1)) (ns, others.after) (Ok (n ∷ ns, others.after)) others.is refl);
      left = others.left;
    }

zero_rule : (nobody : Bool) (n : ℕ) → (nobody ≡ true → n ≡ 0) → is_zero_of nobody n ≡ true
zero_rule true n none_is = let none = none_is refl in grind (arith, nat_tests, none)
zero_rule false n none_is = refl

pub three : (a b c d : List ℕ) → a ++ b ++ c ++ d ≡ a ++ (b ++ (c ++ d))
three a b c d = append_assoc (a ++ b) c d ∙ append_assoc a b (c ++ d)

pub found_instant : (nobody : Bool) (m : Marker) (at : Cursor) (rest : List ℕ) → IsMarker m → m.pc < 2 ^ 32 → (nobody ≡ true → m ≡ zero_marker) →
    at.left ≡ word_bytes m.count ++ (word_bytes m.pc ++ rest) → FoundAt (instant_in nobody m.epoch at) m rest
found_instant nobody m at rest marker fits is_zero here =
    let count_fits : m.count < 2 ^ 32 = omega (arith, marker.count) in
    let count_below : nat_lt m.count EPOCH_LENGTH ≡ true = grind (arith, nat_tests, marker.count) in
    let aligned : (m.pc % 4 == 0) ≡ true = grind (arith, nat_tests, marker.aligned) in
    let c = by_rule at (λ n. nat_lt n EPOCH_LENGTH && is_zero_of nobody n) (word_in at) m.count (word_bytes m.pc ++ rest)
    (and_from (nat_lt m.count EPOCH_LENGTH) (is_zero_of nobody m.count) count_below (zero_rule nobody m.count (λ none. ap (λ m. m.count) (is_zero none))))
    (found_word at m.count (word_bytes m.pc ++ rest) count_fits here) in
    let p = by_rule c.after (λ n. n % 4 == 0 && is_zero_of nobody n) (word_in c.after) m.pc rest
    (and_from (m.pc % 4 == 0) (is_zero_of nobody m.pc) aligned (zero_rule nobody m.pc (λ none. ap (λ m. m.pc) (is_zero none))))
    (found_word c.after m.pc rest fits c.left) in
    record {
      after = p.after;
      is = then_is (count_in nobody at) (λ count. pc_in nobody count.1 >>= λ pc. Ok (record { epoch = m.epoch; count = count.0; pc = pc.0 }, pc.1)) (m.count, c.after) (Ok (m, p.after)) c.is
          (then_is (pc_in nobody c.after) (λ pc. Ok (record { epoch = m.epoch; count = m.count; pc = pc.0 }, pc.1)) (m.pc, p.after) (Ok (m, p.after)) p.is refl);
      left = p.left;
    }

pub found_marker : (nobody : Bool) (m : Marker) (at : Cursor) (rest : List ℕ) → IsMarker m → FitsMarker m → (nobody ≡ true → m ≡ zero_marker) →
    at.left ≡ marker_bytes m ++ rest → FoundAt (marker_in nobody at) m rest
unfolding marker_bytes
found_marker nobody m at rest marker fits is_zero here =
    let e = by_rule at (is_zero_of nobody) (long_in at) m.epoch (word_bytes m.count ++ (word_bytes m.pc ++ rest))
    (zero_rule nobody m.epoch (λ none. ap (λ m. m.epoch) (is_zero none)))
    (found_long at m.epoch (word_bytes m.count ++ (word_bytes m.pc ++ rest)) fits.epoch (here ∙ three (long_bytes m.epoch) (word_bytes m.count) (word_bytes m.pc) rest)) in
    let i = found_instant nobody m e.after rest marker fits.pc is_zero e.left in
    record {
      after = i.after;
      is = then_is (long_where (is_zero_of nobody) at) (λ epoch. instant_in nobody epoch.0 epoch.1) (m.epoch, e.after) (Ok (m, i.after)) e.is i.is;
      left = i.left;
    }

or_true : (b : Bool) → (b || true) ≡ true
or_true true = refl
or_true false = refl

there_rule : (tasks n : ℕ) → IsTaskOrNobody tasks n → is_task_or_nobody tasks n ≡ true
there_rule tasks n (inr below) = let yes : nat_lt n tasks ≡ true = grind (arith, nat_tests, below) in ap (λ b. b || (n == nobody)) yes
there_rule tasks n (inl none) = let yes : (n == nobody) ≡ true = grind (arith, nat_tests, none) in ap (λ b. nat_lt n tasks || b) yes ∙ or_true (nat_lt n tasks)

kind_again : (kind : Kind) → kind_of (kind_number kind) ≡ kind
kind_again Preempted = refl
kind_again Waits = refl
kind_again Ends = refl
kind_again Fault = refl
kind_again Shutdown = refl
kind_again Idle = refl

number_below : (kind : Kind) → kind ≢ Idle → nat_lt (kind_number kind) 5 ≡ true
number_below Preempted other = refl
number_below Waits other = refl
number_below Ends other = refl
number_below Fault other = refl
number_below Shutdown other = refl
number_below Idle other = absurd (other refl)

kind_by : (b : Bool) (from : ℕ) (kind : Kind) → (from == nobody) ≡ b → (kind ≡ Idle → from ≡ nobody) → (from ≡ nobody → kind ≡ Idle) →
    (if b then kind_number kind == 5 else nat_lt (kind_number kind) 5) ≡ true
kind_by true from kind is idle nobody = ap (λ k. kind_number k == 5) (nobody (grind (arith, nat_tests, is)))
kind_by false from kind is idle nobody = number_below kind (λ same. let none = idle same in absurd (grind (arith, nat_tests, is, none)))

differ_rule : (a b : ℕ) → a ≢ b → not (a == b) ≡ true
differ_rule a b other = ap not (ne_eqb a b other)

goes_rule : (kind : Kind) (from to : ℕ) → GoesTo kind from to → goes_to kind from to ≡ true
goes_rule Preempted from to goes = and_from (not (to == nobody)) (not (to == from)) (differ_rule to nobody goes.0) (differ_rule to from goes.1)
goes_rule Waits from to goes = differ_rule to from goes
goes_rule Ends from to goes = refl
goes_rule Fault from to goes = grind (arith, nat_tests, goes)
goes_rule Shutdown from to goes = grind (arith, nat_tests, goes)
goes_rule Idle from to goes = differ_rule to nobody goes

-- a control entry that is read where it is written
pub record GoodSwitch (tasks : ℕ) (before : Option Switch) (e : Switch) : Type 0 where
  pub from_there : IsTaskOrNobody tasks e.from
  pub follows_on : follows before e.from ≡ true
  pub idle : e.kind ≡ Idle → e.from ≡ nobody
  pub none : e.from ≡ nobody → e.kind ≡ Idle
  pub from_marker : IsMarker e.from_at
  pub from_zero : e.from ≡ nobody → e.from_at ≡ zero_marker
  pub from_fits : FitsMarker e.from_at
  pub to_there : IsTaskOrNobody tasks e.to
  pub goes : GoesTo e.kind e.from e.to
  pub to_marker : IsMarker e.to_at
  pub to_zero : e.to ≡ nobody → e.to_at ≡ zero_marker
  pub to_fits : FitsMarker e.to_at

pub four : (a b c d rest : List ℕ) → a ++ b ++ c ++ d ++ rest ≡ a ++ (b ++ (c ++ (d ++ rest)))
four a b c d rest = append_assoc (a ++ b ++ c) d rest ∙ three a b c (d ++ rest)

pub found_switch : (tasks : ℕ) (before : Option Switch) (e : Switch) (at : Cursor) (rest : List ℕ) → GoodSwitch tasks before e → at.left ≡ switch_bytes e ++ rest → FoundAt (switch_in tasks before at) e rest
unfolding switch_bytes
found_switch tasks before e at rest g here =
    let r4 = marker_bytes e.to_at ++ rest in
    let r3 = e.to ∷ r4 in
    let r2 = marker_bytes e.from_at ++ r3 in
    let r1 = kind_number e.kind ∷ r2 in
    let f = by_rule at (λ n. is_task_or_nobody tasks n && follows before n) (byte_in at) e.from r1
    (and_from (is_task_or_nobody tasks e.from) (follows before e.from) (there_rule tasks e.from g.from_there) g.follows_on)
    (found_byte at e.from r1 (here ∙ four (e.from ∷ kind_number e.kind ∷ []) (marker_bytes e.from_at) (e.to ∷ []) (marker_bytes e.to_at) rest)) in
    let k = by_rule f.after (is_kind_from e.from) (byte_in f.after) (kind_number e.kind) r2 (kind_by (e.from == nobody) e.from e.kind refl g.idle g.none) (found_byte f.after (kind_number e.kind) r2 f.left) in
    let k_is : kind_in e.from f.after ≡ Ok (e.kind, k.after) = then_is (byte_where (is_kind_from e.from) f.after) as_kind (kind_number e.kind, k.after) (Ok (e.kind, k.after)) k.is
    (ap (λ kind. Ok (kind, k.after)) (kind_again e.kind)) in
    let fm = found_marker (e.from == nobody) e.from_at k.after r3 g.from_marker g.from_fits (λ none. g.from_zero (grind (arith, nat_tests, none))) k.left in
    let t = by_rule fm.after (λ n. is_task_or_nobody tasks n && goes_to e.kind e.from n) (byte_in fm.after) e.to r4
    (and_from (is_task_or_nobody tasks e.to) (goes_to e.kind e.from e.to) (there_rule tasks e.to g.to_there) (goes_rule e.kind e.from e.to g.goes))
    (found_byte fm.after e.to r4 fm.left) in
    let tm = found_marker (e.to == nobody) e.to_at t.after rest g.to_marker g.to_fits (λ none. g.to_zero (grind (arith, nat_tests, none))) t.left in
    record {
      after = tm.after;
      is = then_is _ _ (e.from, f.after) (Ok (e, tm.after)) f.is (then_is _ _ (e.kind, k.after) (Ok (e, tm.after)) k_is (then_is _ _ (e.from_at, fm.after) (Ok (e, tm.after)) fm.is
          (then_is _ _ (e.to, t.after) (Ok (e, tm.after)) t.is (then_is _ _ (e.to_at, tm.after) (Ok (e, tm.after)) tm.is refl))));
      left = tm.left;
    }

pub record GoodOutput (tasks : ℕ) (e : OutputEntry) : Type 0 where
  pub output : IsOutput tasks e
  pub value : e.value < 2 ^ 32

pub found_output : (tasks : ℕ) (before : Option OutputEntry) (e : OutputEntry) (at : Cursor) (rest : List ℕ) → GoodOutput tasks e → at.left ≡ output_bytes e ++ rest → FoundAt (output_in tasks before at) e rest
unfolding output_bytes
found_output tasks before e at rest g here =
    let r2 = word_bytes e.value ++ rest in
    let task_rule : nat_lt e.task tasks ≡ true = grind (arith, nat_tests, g.output.task) in
    let port_rule : nat_lt e.port 4 ≡ true = grind (arith, nat_tests, g.output.port) in
    let t = by_rule at (λ n. nat_lt n tasks) (byte_in at) e.task (e.port ∷ r2) task_rule (found_byte at e.task (e.port ∷ r2) (here ∙ append_assoc (e.task ∷ e.port ∷ []) (word_bytes e.value) rest)) in
    let p = by_rule t.after (λ n. nat_lt n 4) (byte_in t.after) e.port r2 port_rule (found_byte t.after e.port r2 t.left) in
    let v = found_word p.after e.value rest g.value p.left in
    record {
      after = v.after;
      is = then_is _ _ (e.task, t.after) (Ok (e, v.after)) t.is (then_is _ _ (e.port, p.after) (Ok (e, v.after)) p.is (then_is _ _ (e.value, v.after) (Ok (e, v.after)) v.is refl));
      left = v.left;
    }

pub record GoodData (e : DataEntry) : Type 0 where
  pub status : e.status ≤ 8
  pub four : length e.words ≡ 4
  pub words : All (λ n. n < 2 ^ 32) e.words

pub found_data : (tasks : ℕ) (before : Option DataEntry) (e : DataEntry) (at : Cursor) (rest : List ℕ) → GoodData e → at.left ≡ entry_bytes e ++ rest → FoundAt (data_in tasks before at) e rest
unfolding entry_bytes
found_data tasks before e at rest g here =
    let r2 = flat_map word_bytes e.words ++ rest in
    let r1 = word_bytes e.status ++ r2 in
    let all = taken_all 4 e.words g.four in
    let here2 : at.left ≡ (e.service ∷ []) ++ word_bytes e.status ++ flat_map word_bytes e.words ++ rest =
    subst (λ ws. at.left ≡ (e.service ∷ []) ++ word_bytes e.status ++ flat_map word_bytes ws ++ rest) all here in
    let status_rule : nat_le e.status 8 ≡ true = grind (arith, nat_tests, g.status) in
    let status_fits : e.status < 2 ^ 32 = omega (arith, g.status) in
    let s = found_byte at e.service r1 (here2 ∙ three (e.service ∷ []) (word_bytes e.status) (flat_map word_bytes e.words) rest) in
    let t = by_rule s.after (λ n. nat_le n 8) (word_in s.after) e.status r2 status_rule (found_word s.after e.status r2 status_fits s.left) in
    let w = subst (λ n. FoundAt (words_in n t.after) e.words rest) g.four (found_words t.after e.words rest g.words t.left) in
    record {
      after = w.after;
      is = then_is _ _ (e.service, s.after) (Ok (e, w.after)) s.is (then_is _ _ (e.status, t.after) (Ok (e, w.after)) t.is (then_is _ _ (e.words, w.after) (Ok (e, w.after)) w.is refl));
      left = w.left;
    }

pub record GoodCheckpoint (size entries switches : ℕ) (c : Checkpoint) : Type 0 where
  pub checkpoint : IsCheckpoint entries switches c
  pub pc : c.body.pc < 2 ^ 32
  pub registers : length c.body.regs ≡ 31
  pub regs : All (λ n. n < 2 ^ 32) c.body.regs
  pub data_fits : c.data_number < 2 ^ 64
  pub control_fits : c.control_number < 2 ^ 64
  pub sized : length c.body.words ≡ size
  pub words : All (λ n. n < 2 ^ 32) c.body.words

pub found_checkpoint : (size entries switches : ℕ) (c : Checkpoint) (at : Cursor) (rest : List ℕ) → GoodCheckpoint size entries switches c → at.left ≡ checkpoint_bytes c ++ rest →
    FoundAt (checkpoint_in size entries switches at) c rest
unfolding checkpoint_bytes core_words
found_checkpoint size entries switches c at rest g here =
    let r4 = flat_map word_bytes c.body.words ++ rest in
    let r3 = long_bytes c.control_number ++ r4 in
    let r2 = long_bytes c.data_number ++ r3 in
    let r1 = flat_map word_bytes c.body.regs ++ r2 in
    let all = taken_all 31 c.body.regs g.registers in
    let here2 : at.left ≡ (word_bytes c.body.pc ++ flat_map word_bytes c.body.regs) ++ long_bytes c.data_number ++ long_bytes c.control_number ++ flat_map word_bytes c.body.words ++ rest =
    subst (λ ws. at.left ≡ (word_bytes c.body.pc ++ flat_map word_bytes ws) ++ long_bytes c.data_number ++ long_bytes c.control_number ++ flat_map word_bytes c.body.words ++ rest) all here in
    let here3 : at.left ≡ word_bytes c.body.pc ++ r1 =
    here2 ∙ four (word_bytes c.body.pc ++ flat_map word_bytes c.body.regs) (long_bytes c.data_number) (long_bytes c.control_number) (flat_map word_bytes c.body.words) rest
    ∙ append_assoc (word_bytes c.body.pc) (flat_map word_bytes c.body.regs) r2 in
    let pc_rule : (c.body.pc % 4 == 0) ≡ true = grind (arith, nat_tests, g.checkpoint.aligned) in
    let data_rule : nat_le c.data_number entries ≡ true = grind (arith, nat_tests, g.checkpoint.data_number) in
    let control_rule : nat_le c.control_number switches ≡ true = grind (arith, nat_tests, g.checkpoint.control_number) in
    let p = by_rule at (λ n. n % 4 == 0) (word_in at) c.body.pc r1 pc_rule (found_word at c.body.pc r1 g.pc here3) in
    let r = subst (λ n. FoundAt (words_in n p.after) c.body.regs r2) g.registers (found_words p.after c.body.regs r2 g.regs p.left) in
    let d = by_rule r.after (λ n. nat_le n entries) (long_in r.after) c.data_number r3 data_rule (found_long r.after c.data_number r3 g.data_fits r.left) in
    let k = by_rule d.after (λ n. nat_le n switches) (long_in d.after) c.control_number r4 control_rule (found_long d.after c.control_number r4 g.control_fits d.left) in
    let w = subst (λ n. FoundAt (words_in n k.after) c.body.words rest) g.sized (found_words k.after c.body.words rest g.words k.left) in
    record {
      after = w.after;
      is = then_is _ _ (c.body.pc, p.after) (Ok (c, w.after)) p.is (then_is _ _ (c.body.regs, r.after) (Ok (c, w.after)) r.is (then_is _ _ (c.data_number, d.after) (Ok (c, w.after)) d.is
          (then_is _ _ (c.control_number, k.after) (Ok (c, w.after)) k.is (then_is _ _ (c.body.words, w.after) (Ok (c, w.after)) w.is refl))));
      left = w.left;
    }
