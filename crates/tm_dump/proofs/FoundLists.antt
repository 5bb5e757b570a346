-- What is written of lists of things is read.
use Rattle.std.proofs.Common.{◌≡◌, ℕ, ◌+◌, ◌-◌, ◌<◌, ◌^◌, List, [], ◌∷◌, ◌++◌, length, refl, sym, ◌∙◌, subst, arith, true, false, ◌&&◌, ◌==◌, nat_lt}
use Rattle.std.specs.Prelude.{Ok, Option, Some, None, All}
use Rattle.std.specs.List.{flat_map, zip, list_all}
use Rattle.std.proofs.lemmas.Bool.{and_from}
use Rattle.std.proofs.lemmas.Bool.Decides.{nat_tests}
use Rattle.std.proofs.lemmas.List.{append_assoc}
use Rattle.std.proofs.lemmas.List.Elements.{All-head, All-tail}
use Rattle.tm_marker.specs.declared.marker.Marker.{Marker}
use Rattle.tm_marker.specs.declared.entries.Switch.{Switch}
use Rattle.tm_marker.specs.declared.entries.DataEntry.{DataEntry}
use Rattle.tm_marker.specs.declared.shape.Caps.{Caps}
use Rattle.tm_marker.specs.declared.tail.Tail.{Tail}
use Rattle.tm_ring.specs.Kept.{Kept}
use Rattle.tm_check.specs.Checkpoint.{Checkpoint, KeptChecks}
use Rattle.tm_lines.specs.Steps.{◌>>=◌}
use Rattle.tm_log.specs.WellFormed.{IsMarker, IsFilled, runs_last, ended_last}
use Rattle.tm_dump.specs.Cursor.{Cursor, Reading, byte_in, long_in}
use Rattle.tm_dump.specs.Fields.{long_bytes, word_bytes, marker_bytes, entry_bytes, checkpoint_bytes}
use Rattle.tm_dump.specs.Dump.{log_bytes, checks_bytes, task_bytes, stand_bytes, tail_bytes}
use Rattle.tm_dump.specs.Reading.{entries_in, ring_in, checkpoint_in, checkpoints_in, is_reached, is_check_total, checks_in, data_in, task_in, tasks_in, is_state, stand_in, stands_in, tail_in}
use Rattle.tm_dump.proofs.Wholes.{AllFrom, ring_spelled}
use Rattle.tm_dump.proofs.Found.{FoundAt, then_is, four, found_byte, found_long, by_rule, found_instant, GoodData, found_data, GoodCheckpoint, found_checkpoint}

pub found_entries : {X : Type 0} (spell : X → List ℕ) (Good : Option X → X → Type 0) (next : Option X → Cursor → Reading X)
    (each : (before : Option X) (x : X) (at : Cursor) (rest : List ℕ) → Good before x → at.left ≡ spell x ++ rest → FoundAt (next before at) x rest)
    (before : Option X) (xs : List X) (at : Cursor) (rest : List ℕ) → AllFrom Good before xs → at.left ≡ flat_map spell xs ++ rest →
    FoundAt (entries_in next before (length xs) at) xs rest
found_entries spell Good next each before [] at rest good here = record { after = at; is = refl; left = here }
found_entries spell Good next each before (x ∷ xs) at rest good here =
    let one = each before x at (flat_map spell xs ++ rest) good.0 (here ∙ append_assoc (spell x) (flat_map spell xs) rest) in
    let others = found_entries spell Good next each (Some x) xs one.after rest good.1 one.left in
    record {
      after = others.after;
      is = then_is (next before at) (λ entry. entries_in next (Some entry.0) (length xs) entry.1 >>= λ rest. Ok (entry.0 ∷ rest.0, rest.1)) (x, one.after) (Ok (x ∷ xs, others.after)) one.is
          (then_is (entries_in next (Some x) (length xs) one.after) (λ rest. Ok (x ∷ rest.0, rest.1)) (xs, others.after) (Ok (x ∷ xs, others.after)) others.is refl);
      left = others.left;
    }

total_rule : (n : ℕ) → n < 2 ^ 53 → nat_lt n (2 ^ 53) ≡ true
total_rule n below = grind (arith, nat_tests, below)

total_fits : (n : ℕ) → n < 2 ^ 53 → n < 2 ^ 64
total_fits n below = omega (arith, below)

pub found_ring : {X : Type 0} (spell : X → List ℕ) (Good : Option X → X → Type 0) (next : Option X → Cursor → Reading X)
    (each : (before : Option X) (x : X) (at : Cursor) (rest : List ℕ) → Good before x → at.left ≡ spell x ++ rest → FoundAt (next before at) x rest)
    (ring : Kept X) (at : Cursor) (rest : List ℕ) → IsFilled (length ring.items) ring.total ring.cap → AllFrom Good None ring.items →
    at.left ≡ ring_spelled spell ring ++ rest → FoundAt (ring_in next ring.cap at) ring rest
found_ring spell Good next each ring at rest filled good here =
    let r1 = flat_map spell ring.items ++ rest in
    let t = by_rule at (λ n. nat_lt n (2 ^ 53)) (long_in at) ring.total r1 (total_rule ring.total filled.counted)
    (found_long at ring.total r1 (total_fits ring.total filled.counted) (here ∙ append_assoc (long_bytes ring.total) (flat_map spell ring.items) rest)) in
    let i = subst (λ n. FoundAt (entries_in next None n t.after) ring.items rest) filled.kept (found_entries spell Good next each None ring.items t.after rest good t.left) in
    record {
      after = i.after;
      is = then_is _ _ (ring.total, t.after) (Ok (ring, i.after)) t.is (then_is _ _ (ring.items, i.after) (Ok (ring, i.after)) i.is refl);
      left = i.left;
    }

pub found_checkpoints : (size entries switches : ℕ) (xs : List Checkpoint) (at : Cursor) (rest : List ℕ) → All (GoodCheckpoint size entries switches) xs →
    at.left ≡ flat_map checkpoint_bytes xs ++ rest → FoundAt (checkpoints_in size entries switches (length xs) at) xs rest
found_checkpoints size entries switches [] at rest good here = record { after = at; is = refl; left = here }
found_checkpoints size entries switches (x ∷ xs) at rest good here =
    let one = found_checkpoint size entries switches x at (flat_map checkpoint_bytes xs ++ rest) (All-head (GoodCheckpoint size entries switches) x xs good)
    (here ∙ append_assoc (checkpoint_bytes x) (flat_map checkpoint_bytes xs) rest) in
    let others = found_checkpoints size entries switches xs one.after rest (All-tail (GoodCheckpoint size entries switches) x xs good) one.left in
    record {
      after = others.after;
      is = then_is (checkpoint_in size entries switches at) (λ first. checkpoints_in size entries switches (length xs) first.1 >>= λ rest. Ok (first.0 ∷ rest.0, rest.1)) (x, one.after) (Ok (x ∷ xs, others.after)) one.is
          (then_is (checkpoints_in size entries switches (length xs) one.after) (λ rest. Ok (x ∷ rest.0, rest.1)) (xs, others.after) (Ok (x ∷ xs, others.after)) others.is refl);
      left = others.left;
    }

-- a task's data entries and checkpoints that are read where they are written
pub record GoodTask (caps : Caps) (control : Kept Switch) (task size : ℕ) (log : Kept DataEntry) (checks : KeptChecks) : Type 0 where
  pub log_cap : log.cap ≡ caps.logs
  pub log_filled : IsFilled (length log.items) log.total log.cap
  pub entries : AllFrom (λ _. GoodData) None log.items
  pub check_cap : checks.cap ≡ caps.checks
  pub check_words : checks.words ≡ size
  pub filled : IsFilled (length checks.items) checks.total checks.cap
  pub booted : 0 < checks.total
  pub reached : list_all (is_reached task checks.total) control.items ≡ true
  pub bodies : All (GoodCheckpoint size log.total control.total) checks.items

found_checks : (caps : Caps) (control : Kept Switch) (task size : ℕ) (log : Kept DataEntry) (checks : KeptChecks) (at : Cursor) (rest : List ℕ) → GoodTask caps control task size log checks →
    at.left ≡ checks_bytes checks ++ rest → FoundAt (checks_in checks.cap checks.words control task log.total at) checks rest
unfolding checks_bytes
found_checks caps control task size log checks at rest g here =
    let r1 = flat_map checkpoint_bytes checks.items ++ rest in
    let some : nat_lt 0 checks.total ≡ true = (let b = g.booted in grind (arith, nat_tests, b)) in
    let t = by_rule at (is_check_total control.items task) (long_in at) checks.total r1
    (and_from (nat_lt 0 checks.total && nat_lt checks.total (2 ^ 53)) (list_all (is_reached task checks.total) control.items)
    (and_from (nat_lt 0 checks.total) (nat_lt checks.total (2 ^ 53)) some (total_rule checks.total g.filled.counted)) g.reached)
    (found_long at checks.total r1 (total_fits checks.total g.filled.counted) (here ∙ append_assoc (long_bytes checks.total) (flat_map checkpoint_bytes checks.items) rest)) in
    let i = subst (λ n. FoundAt (checkpoints_in checks.words log.total control.total n t.after) checks.items rest) g.filled.kept
    (found_checkpoints checks.words log.total control.total checks.items t.after rest
    (subst (λ n. All (GoodCheckpoint n log.total control.total) checks.items) (sym g.check_words) g.bodies) t.left) in
    record {
      after = i.after;
      is = then_is _ _ (checks.total, t.after) (Ok (checks, i.after)) t.is (then_is _ _ (checks.items, i.after) (Ok (checks, i.after)) i.is refl);
      left = i.left;
    }

found_task : (caps : Caps) (control : Kept Switch) (tasks task size : ℕ) (log : Kept DataEntry) (checks : KeptChecks) (at : Cursor) (rest : List ℕ) → GoodTask caps control task size log checks →
    at.left ≡ task_bytes (log, checks) ++ rest → FoundAt (task_in caps control tasks task size at) (log, checks) rest
unfolding task_bytes log_bytes
found_task caps control tasks task size log checks at rest g here =
    let r1 = checks_bytes checks ++ rest in
    let l = subst (λ cap. FoundAt (ring_in (data_in tasks) cap at) log r1) g.log_cap
    (found_ring entry_bytes (λ _. GoodData) (data_in tasks) (found_data tasks) log at r1 g.log_filled g.entries
    (here ∙ append_assoc (ring_spelled entry_bytes log) (checks_bytes checks) rest)) in
    let k = subst (λ cap. FoundAt (checks_in cap size control task log.total l.after) checks rest) g.check_cap
    (subst (λ n. FoundAt (checks_in checks.cap n control task log.total l.after) checks rest) g.check_words
    (found_checks caps control task size log checks l.after rest g l.left)) in
    record {
      after = k.after;
      is = then_is _ _ (log, l.after) (Ok ((log, checks), k.after)) l.is (then_is _ _ (checks, k.after) (Ok ((log, checks), k.after)) k.is refl);
      left = k.left;
    }

-- the tasks from one on
abbrev pub GoodTasks : Caps → Kept Switch → ℕ → List ℕ → List (Kept DataEntry) → List KeptChecks → Type 0
GoodTasks caps control task [] [] [] = Unit {0}
GoodTasks caps control task (size ∷ sizes) (log ∷ logs) (checks ∷ others) = GoodTask caps control task size log checks × GoodTasks caps control (task + 1) sizes logs others
GoodTasks caps control task _ _ _ = ⊥

pub found_tasks : (caps : Caps) (control : Kept Switch) (tasks task : ℕ) (sizes : List ℕ) (logs : List (Kept DataEntry)) (checks : List KeptChecks) (at : Cursor) (rest : List ℕ) →
    GoodTasks caps control task sizes logs checks → at.left ≡ flat_map task_bytes (zip logs checks) ++ rest →
    FoundAt (tasks_in caps control tasks task sizes at) (logs, checks) rest
found_tasks caps control tasks task [] [] [] at rest good here = record { after = at; is = refl; left = here }
found_tasks caps control tasks task [] (log ∷ logs) checks at rest good here = absurd good
found_tasks caps control tasks task [] [] (k ∷ checks) at rest good here = absurd good
found_tasks caps control tasks task (size ∷ sizes) [] checks at rest good here = absurd good
found_tasks caps control tasks task (size ∷ sizes) (log ∷ logs) [] at rest good here = absurd good
found_tasks caps control tasks task (size ∷ sizes) (log ∷ logs) (k ∷ checks) at rest good here =
    let one = found_task caps control tasks task size log k at (flat_map task_bytes (zip logs checks) ++ rest) good.0 (here ∙ append_assoc (task_bytes (log, k)) (flat_map task_bytes (zip logs checks)) rest) in
    let others = found_tasks caps control tasks (task + 1) sizes logs checks one.after rest good.1 one.left in
    record {
      after = others.after;
      is = then_is (task_in caps control tasks task size at) (λ first. tasks_in caps control tasks (task + 1) sizes first.1 >>= λ rest. Ok ((first.0.0 ∷ rest.0.0, first.0.1 ∷ rest.0.1), rest.1)) ((log, k), one.after) (Ok ((log ∷ logs, k ∷ checks), others.after)) one.is
          (then_is (tasks_in caps control tasks (task + 1) sizes one.after) (λ rest. Ok ((log ∷ rest.0.0, k ∷ rest.0.1), rest.1)) ((logs, checks), others.after) (Ok ((log ∷ logs, k ∷ checks), others.after)) others.is refl);
      left = others.left;
    }

-- where a task stands that is read where it is written
pub record GoodStand (running task total : ℕ) (m : Marker) (state : ℕ) : Type 0 where
  pub epoch : m.epoch ≡ total - 1
  pub counted : total < 2 ^ 53
  pub marker : IsMarker m
  pub pc : m.pc < 2 ^ 32
  pub state_is : is_state running task state ≡ true

found_stand : (running task total : ℕ) (m : Marker) (state : ℕ) (at : Cursor) (rest : List ℕ) → GoodStand running task total m state →
    at.left ≡ stand_bytes (m, state) ++ rest → FoundAt (stand_in running task total at) (m, state) rest
unfolding stand_bytes marker_bytes
found_stand running task total m state at rest g here =
    let r3 = state ∷ rest in
    let r1 = word_bytes m.count ++ (word_bytes m.pc ++ r3) in
    let epoch_rule : (m.epoch == total - 1) ≡ true = (let e = g.epoch in grind (arith, nat_tests, e)) in
    let e = by_rule at (λ n. n == total - 1) (long_in at) m.epoch r1 epoch_rule
    (found_long at m.epoch r1 (omega (arith, g.epoch, g.counted)) (here ∙ four (long_bytes m.epoch) (word_bytes m.count) (word_bytes m.pc) (state ∷ []) rest)) in
    let i = found_instant false m e.after r3 g.marker g.pc (λ none. cc none) e.left in
    let s = by_rule i.after (is_state running task) (byte_in i.after) state rest g.state_is (found_byte i.after state rest i.left) in
    record {
      after = s.after;
      is = then_is _ _ (m.epoch, e.after) (Ok ((m, state), s.after)) e.is (then_is _ _ (m, i.after) (Ok ((m, state), s.after)) i.is (then_is _ _ (state, s.after) (Ok ((m, state), s.after)) s.is refl));
      left = s.left;
    }

abbrev pub GoodStands : ℕ → ℕ → List KeptChecks → List Marker → List ℕ → Type 0
GoodStands running task [] [] [] = Unit {0}
GoodStands running task (k ∷ checks) (m ∷ ats) (state ∷ states) = GoodStand running task k.total m state × GoodStands running (task + 1) checks ats states
GoodStands running task _ _ _ = ⊥

pub found_stands : (running task : ℕ) (checks : List KeptChecks) (ats : List Marker) (states : List ℕ) (at : Cursor) (rest : List ℕ) → GoodStands running task checks ats states →
    at.left ≡ flat_map stand_bytes (zip ats states) ++ rest → FoundAt (stands_in running task checks at) (ats, states) rest
found_stands running task [] [] [] at rest good here = record { after = at; is = refl; left = here }
found_stands running task [] (m ∷ ats) states at rest good here = absurd good
found_stands running task [] [] (state ∷ states) at rest good here = absurd good
found_stands running task (k ∷ checks) [] states at rest good here = absurd good
found_stands running task (k ∷ checks) (m ∷ ats) [] at rest good here = absurd good
found_stands running task (k ∷ checks) (m ∷ ats) (state ∷ states) at rest good here =
    let one = found_stand running task k.total m state at (flat_map stand_bytes (zip ats states) ++ rest) good.0 (here ∙ append_assoc (stand_bytes (m, state)) (flat_map stand_bytes (zip ats states)) rest) in
    let others = found_stands running (task + 1) checks ats states one.after rest good.1 one.left in
    record {
      after = others.after;
      is = then_is (stand_in running task k.total at) (λ first. stands_in running (task + 1) checks first.1 >>= λ rest. Ok ((first.0.0 ∷ rest.0.0, first.0.1 ∷ rest.0.1), rest.1)) ((m, state), one.after) (Ok ((m ∷ ats, state ∷ states), others.after)) one.is
          (then_is (stands_in running (task + 1) checks one.after) (λ rest. Ok ((m ∷ rest.0.0, state ∷ rest.0.1), rest.1)) ((ats, states), others.after) (Ok ((m ∷ ats, state ∷ states), others.after)) others.is refl);
      left = others.left;
    }

pub found_tail : (switches : List Switch) (checks : List KeptChecks) (tail : Tail) (at : Cursor) (rest : List ℕ) → tail.running ≡ runs_last switches → tail.ended ≡ ended_last switches →
    GoodStands tail.running 0 checks tail.at tail.state → at.left ≡ tail_bytes tail ++ rest → FoundAt (tail_in switches checks at) tail rest
unfolding tail_bytes
found_tail switches checks tail at rest running ended good here =
    let r2 = flat_map stand_bytes (zip tail.at tail.state) ++ rest in
    let running_rule : (tail.running == runs_last switches) ≡ true = grind (arith, nat_tests, running) in
    let ended_rule : (tail.ended == ended_last switches) ≡ true = grind (arith, nat_tests, ended) in
    let u = by_rule at (λ n. n == runs_last switches) (byte_in at) tail.running (tail.ended ∷ r2) running_rule
    (found_byte at tail.running (tail.ended ∷ r2) (here ∙ append_assoc (tail.running ∷ tail.ended ∷ []) (flat_map stand_bytes (zip tail.at tail.state)) rest)) in
    let v = by_rule u.after (λ n. n == ended_last switches) (byte_in u.after) tail.ended r2 ended_rule (found_byte u.after tail.ended r2 u.left) in
    let s = found_stands tail.running 0 checks tail.at tail.state v.after rest good v.left in
    record {
      after = s.after;
      is = then_is _ _ (tail.running, u.after) (Ok (tail, s.after)) u.is (then_is _ _ (tail.ended, v.after) (Ok (tail, s.after)) v.is (then_is _ _ ((tail.at, tail.state), s.after) (Ok (tail, s.after)) s.is refl));
      left = s.left;
    }
