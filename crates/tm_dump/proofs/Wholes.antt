-- What reading lists of things tells: entries, checkpoints, tasks.
use Rattle.std.proofs.Common.{◌≡◌, ℕ, ◌+◌, ◌-◌, ◌<◌, ◌≤◌, ◌^◌, List, [], ◌∷◌, ◌++◌, length, refl, ap, ◌∙◌, subst, arith, zero, suc, true, false, ◌&&◌, ◌==◌, nat_lt}
use Rattle.std.specs.Prelude.{Ok, Option, Some, None, min, All}
use Rattle.std.specs.List.{flat_map, zip, list_all}
use Rattle.std.proofs.lemmas.Bool.{and_parts}
use Rattle.std.proofs.lemmas.Bool.Decides.{nat_tests}
use Rattle.std.proofs.lemmas.List.Elements.{All-nil, All-cons}
use Rattle.tm_marker.specs.declared.marker.Marker.{Marker}
use Rattle.tm_marker.specs.declared.entries.Switch.{Switch}
use Rattle.tm_marker.specs.declared.entries.DataEntry.{DataEntry}
use Rattle.tm_marker.specs.declared.shape.Caps.{Caps}
use Rattle.tm_marker.specs.declared.tail.Tail.{Tail}
use Rattle.tm_ring.specs.Kept.{Kept, kept}
use Rattle.tm_check.specs.Checkpoint.{Checkpoint, KeptChecks, kept_checks}
use Rattle.tm_lines.specs.Steps.{◌>>=◌}
use Rattle.tm_log.specs.WellFormed.{IsMarker, IsFilled, IsCheckpoint, runs_last, ended_last}
use Rattle.tm_dump.specs.Cursor.{Cursor, Reading}
use Rattle.tm_dump.specs.Fields.{long_bytes, marker_bytes, entry_bytes, checkpoint_bytes}
use Rattle.tm_dump.specs.Dump.{log_bytes, checks_bytes, task_bytes, stand_bytes, tail_bytes}
use Rattle.tm_dump.specs.Reading.{entries_in, ring_in, checkpoint_in, checkpoints_in, is_reached, is_check_total, checks_in, data_in, task_in, tasks_in, is_state, stand_in, stands_in, tail_in}
use Rattle.tm_dump.proofs.Taken.{Only, took_nothing, took_both, ok_is, bound, only_byte, only_long}
use Rattle.tm_dump.proofs.Onlys.{only_marked, only_data, only_checkpoint}

-- each item is so, beside the one before
abbrev pub AllFrom : {X : Type 0} → (Option X → X → Type 0) → Option X → List X → Type 0
AllFrom Q before [] = Unit {0}
AllFrom Q before (x ∷ xs) = Q before x × AllFrom Q (Some x) xs

pub record AreEntries {X : Type 0} (Q : Option X → X → Type 0) (before : Option X) (n : ℕ) (xs : List X) : Type 0 where
  pub number : length xs ≡ n
  pub each : AllFrom Q before xs

pub only_entries : {X : Type 0} (spell : X → List ℕ) (Q : Option X → X → Type 0) (next : Option X → Cursor → Reading X)
    (each : (before : Option X) (at : Cursor) (r : X × Cursor) → next before at ≡ Ok r → Only spell (Q before) at r)
    (before : Option X) (n : ℕ) (at : Cursor) (r : List X × Cursor) → entries_in next before n at ≡ Ok r →
    Only (λ xs. flat_map spell xs) (AreEntries Q before n) at r
only_entries spell Q next each before zero at r e =
    subst (Only (λ xs. flat_map spell xs) (AreEntries Q before 0) at) (ok_is ([], at) r e) (record { took = took_nothing at; keeps = record { number = refl; each = tt } })
only_entries spell Q next each before (suc n) at r e =
    let Goal : Type 0 = Only (λ xs. flat_map spell xs) (AreEntries Q before (suc n)) at r in
    bound Goal (next before at) (λ entry. entries_in next (Some entry.0) n entry.1 >>= λ rest. Ok (entry.0 ∷ rest.0, rest.1)) r e (λ entry is e1.
    bound Goal (entries_in next (Some entry.0) n entry.1) (λ rest. Ok (entry.0 ∷ rest.0, rest.1)) r e1 (λ rest is2 e2.
    let one = each before at entry is in
    let others = only_entries spell Q next each (Some entry.0) n entry.1 rest is2 in
    subst (Only (λ xs. flat_map spell xs) (AreEntries Q before (suc n)) at) (ok_is (entry.0 ∷ rest.0, rest.1) r e2) (record {
      took = took_both at entry.1 rest.1 (spell entry.0) (flat_map spell rest.0) one.took others.took;
      keeps = record { number = ap suc others.keeps.number; each = (one.keeps, others.keeps.each) };
    })))

-- what holds of each by itself holds of all
pub all_of : {X : Type 0} (P : X → Type 0) (before : Option X) (xs : List X) → AllFrom (λ _. P) before xs → All P xs
all_of P before [] each = All-nil P
all_of P before (x ∷ xs) each = All-cons P x xs each.0 (all_of P (Some x) xs each.1)

-- how a ring is spelled
abbrev pub ring_spelled : {X : Type 0} → (X → List ℕ) → Kept X → List ℕ
ring_spelled spell ring = long_bytes ring.total ++ flat_map spell ring.items

pub record IsRingOf {X : Type 0} (Q : Option X → X → Type 0) (ring : Kept X) : Type 0 where
  pub filled : IsFilled (length ring.items) ring.total ring.cap
  pub each : AllFrom Q None ring.items

pub only_ring : {X : Type 0} (spell : X → List ℕ) (Q : Option X → X → Type 0) (next : Option X → Cursor → Reading X)
    (each : (before : Option X) (at : Cursor) (r : X × Cursor) → next before at ≡ Ok r → Only spell (Q before) at r)
    (cap : ℕ) (at : Cursor) (r : Kept X × Cursor) → ring_in next cap at ≡ Ok r → Only (ring_spelled spell) (IsRingOf Q) at r
only_ring spell Q next each cap at r e =
    let Goal : Type 0 = Only (ring_spelled spell) (IsRingOf Q) at r in
    bound Goal _ _ r e (λ total is e1.
    bound Goal _ _ r e1 (λ items is2 e2.
    let t = only_long (λ n. nat_lt n (2 ^ 53)) at total is in
    let i = only_entries spell Q next each None (min total.0 cap) total.1 items is2 in
    subst (Only (ring_spelled spell) (IsRingOf Q) at) (ok_is (kept items.0 total.0 cap, items.1) r e2) (record {
      took = took_both at total.1 items.1 (long_bytes total.0) (flat_map spell items.0) t.took i.took;
      keeps = record { filled = record { kept = i.keeps.number; counted = grind (arith, nat_tests, t.keeps) }; each = i.keeps.each };
    })))

pub record AreCheckpoints (entries switches n : ℕ) (xs : List Checkpoint) : Type 0 where
  pub number : length xs ≡ n
  pub each : All (IsCheckpoint entries switches) xs

pub only_checkpoints : (size entries switches n : ℕ) (at : Cursor) (r : List Checkpoint × Cursor) → checkpoints_in size entries switches n at ≡ Ok r →
    Only (λ xs. flat_map checkpoint_bytes xs) (AreCheckpoints entries switches n) at r
only_checkpoints size entries switches zero at r e =
    subst (Only (λ xs. flat_map checkpoint_bytes xs) (AreCheckpoints entries switches 0) at) (ok_is ([], at) r e)
    (record { took = took_nothing at; keeps = record { number = refl; each = All-nil (IsCheckpoint entries switches) } })
only_checkpoints size entries switches (suc n) at r e =
    let Goal : Type 0 = Only (λ xs. flat_map checkpoint_bytes xs) (AreCheckpoints entries switches (suc n)) at r in
    bound Goal (checkpoint_in size entries switches at) (λ first. checkpoints_in size entries switches n first.1 >>= λ rest. Ok (first.0 ∷ rest.0, rest.1)) r e (λ first is e1.
    bound Goal (checkpoints_in size entries switches n first.1) (λ rest. Ok (first.0 ∷ rest.0, rest.1)) r e1 (λ rest is2 e2.
    let one = only_checkpoint size entries switches at first is in
    let others = only_checkpoints size entries switches n first.1 rest is2 in
    subst (Only (λ xs. flat_map checkpoint_bytes xs) (AreCheckpoints entries switches (suc n)) at) (ok_is (first.0 ∷ rest.0, rest.1) r e2) (record {
      took = took_both at first.1 rest.1 (checkpoint_bytes first.0) (flat_map checkpoint_bytes rest.0) one.took others.took;
      keeps = record { number = ap suc others.keeps.number; each = All-cons (IsCheckpoint entries switches) first.0 rest.0 one.keeps others.keeps.each };
    })))

-- what is read of a task's checkpoints
pub record AreChecksOf (control : Kept Switch) (task entries : ℕ) (checks : KeptChecks) : Type 0 where
  pub filled : IsFilled (length checks.items) checks.total checks.cap
  pub booted : 0 < checks.total
  pub reached : list_all (is_reached task checks.total) control.items ≡ true
  pub bodies : All (IsCheckpoint entries control.total) checks.items

pub only_checks : (cap size : ℕ) (control : Kept Switch) (task entries : ℕ) (at : Cursor) (r : KeptChecks × Cursor) → checks_in cap size control task entries at ≡ Ok r →
    Only checks_bytes (AreChecksOf control task entries) at r
unfolding checks_bytes
only_checks cap size control task entries at r e =
    let Goal : Type 0 = Only checks_bytes (AreChecksOf control task entries) at r in
    bound Goal _ _ r e (λ total is e1.
    bound Goal _ _ r e1 (λ items is2 e2.
    let t = only_long (is_check_total control.items task) at total is in
    let i = only_checkpoints size entries control.total (min total.0 cap) total.1 items is2 in
    let outer = and_parts (nat_lt 0 total.0 && nat_lt total.0 (2 ^ 53)) (list_all (is_reached task total.0) control.items) t.keeps in
    let inner = and_parts (nat_lt 0 total.0) (nat_lt total.0 (2 ^ 53)) outer.0 in
    subst (Only checks_bytes (AreChecksOf control task entries) at) (ok_is (kept_checks items.0 total.0 cap size, items.1) r e2) (record {
      took = took_both at total.1 items.1 (long_bytes total.0) (flat_map checkpoint_bytes items.0) t.took i.took;
      keeps = record {
        filled = record { kept = i.keeps.number; counted = grind (arith, nat_tests, inner.1) };
        booted = grind (arith, nat_tests, inner.0);
        reached = outer.1;
        bodies = i.keeps.each;
      };
    })))

-- what is read of a task
pub record IsTaskOf (control : Kept Switch) (task : ℕ) (log : Kept DataEntry) (checks : KeptChecks) : Type 0 where
  pub log_filled : IsFilled (length log.items) log.total log.cap
  pub statuses : All (λ (entry : DataEntry). entry.status ≤ 8) log.items
  pub checks_of : AreChecksOf control task log.total checks

pub only_task : (caps : Caps) (control : Kept Switch) (tasks task size : ℕ) (at : Cursor) (r : (Kept DataEntry × KeptChecks) × Cursor) → task_in caps control tasks task size at ≡ Ok r →
    Only task_bytes (λ t. IsTaskOf control task t.0 t.1) at r
unfolding task_bytes log_bytes
only_task caps control tasks task size at r e =
    let Goal : Type 0 = Only task_bytes (λ t. IsTaskOf control task t.0 t.1) at r in
    bound Goal _ _ r e (λ log is e1.
    bound Goal _ _ r e1 (λ checks is2 e2.
    let l = only_ring entry_bytes (λ _ entry. entry.status ≤ 8) (data_in tasks) (only_data tasks) caps.logs at log is in
    let k = only_checks caps.checks size control task log.0.total log.1 checks is2 in
    subst (Only task_bytes (λ t. IsTaskOf control task t.0 t.1) at) (ok_is ((log.0, checks.0), checks.1) r e2) (record {
      took = took_both at log.1 checks.1 (ring_spelled entry_bytes log.0) (checks_bytes checks.0) l.took k.took;
      keeps = record { log_filled = l.keeps.filled; statuses = all_of (λ (entry : DataEntry). entry.status ≤ 8) None log.0.items l.keeps.each; checks_of = k.keeps };
    })))

-- what is read of the tasks from one on
abbrev pub TasksFrom : Kept Switch → ℕ → List ℕ → List (Kept DataEntry) → List KeptChecks → Type 0
TasksFrom control task [] [] [] = Unit {0}
TasksFrom control task (size ∷ sizes) (log ∷ logs) (checks ∷ others) = IsTaskOf control task log checks × TasksFrom control (task + 1) sizes logs others
TasksFrom control task _ _ _ = ⊥

pub only_tasks : (caps : Caps) (control : Kept Switch) (tasks task : ℕ) (sizes : List ℕ) (at : Cursor) (r : (List (Kept DataEntry) × List KeptChecks) × Cursor) → tasks_in caps control tasks task sizes at ≡ Ok r →
    Only (λ t. flat_map task_bytes (zip t.0 t.1)) (λ t. TasksFrom control task sizes t.0 t.1) at r
only_tasks caps control tasks task [] at r e =
    subst (Only (λ t. flat_map task_bytes (zip t.0 t.1)) (λ t. TasksFrom control task [] t.0 t.1) at) (ok_is (([], []), at) r e) (record { took = took_nothing at; keeps = tt })
only_tasks caps control tasks task (size ∷ sizes) at r e =
    let Goal : Type 0 = Only (λ t. flat_map task_bytes (zip t.0 t.1)) (λ t. TasksFrom control task (size ∷ sizes) t.0 t.1) at r in
    bound Goal (task_in caps control tasks task size at) (λ first. tasks_in caps control tasks (task + 1) sizes first.1 >>= λ rest. Ok ((first.0.0 ∷ rest.0.0, first.0.1 ∷ rest.0.1), rest.1)) r e (λ first is e1.
    bound Goal (tasks_in caps control tasks (task + 1) sizes first.1) (λ rest. Ok ((first.0.0 ∷ rest.0.0, first.0.1 ∷ rest.0.1), rest.1)) r e1 (λ rest is2 e2.
    let one = only_task caps control tasks task size at first is in
    let others = only_tasks caps control tasks (task + 1) sizes first.1 rest is2 in
    subst (Only (λ t. flat_map task_bytes (zip t.0 t.1)) (λ t. TasksFrom control task (size ∷ sizes) t.0 t.1) at) (ok_is ((first.0.0 ∷ rest.0.0, first.0.1 ∷ rest.0.1), rest.1) r e2) (record {
      took = took_both at first.1 rest.1 (task_bytes first.0) (flat_map task_bytes (zip rest.0.0 rest.0.1)) one.took others.took;
      keeps = (one.keeps, others.keeps);
    })))

-- what is read of where a task stands
pub record IsStandOf (running task total : ℕ) (at : Marker) (state : ℕ) : Type 0 where
  pub epoch : at.epoch ≡ total - 1
  pub marker : IsMarker at
  pub state_is : is_state running task state ≡ true

pub only_stand : (running task total : ℕ) (at : Cursor) (r : (Marker × ℕ) × Cursor) → stand_in running task total at ≡ Ok r →
    Only stand_bytes (λ s. IsStandOf running task total s.0 s.1) at r
unfolding stand_bytes
only_stand running task total at r e =
    let Goal : Type 0 = Only stand_bytes (λ s. IsStandOf running task total s.0 s.1) at r in
    bound Goal _ _ r e (λ epoch is e1.
    bound Goal _ _ r e1 (λ marker is2 e2.
    bound Goal _ _ r e2 (λ state is3 e3.
    let l = only_long (λ n. n == total - 1) at epoch is in
    let m = only_marked false at epoch marker l.took is2 in
    let s = only_byte (is_state running task) marker.1 state is3 in
    subst (Only stand_bytes (λ s. IsStandOf running task total s.0 s.1) at) (ok_is ((marker.0, state.0), state.1) r e3) (record {
      took = took_both at marker.1 state.1 (marker_bytes marker.0) (state.0 ∷ []) m.took s.took;
      keeps = record { epoch = m.keeps.epoch_is ∙ grind (arith, nat_tests, l.keeps); marker = m.keeps.marker; state_is = s.keeps };
    }))))

-- what is read of where the tasks stand from one on
abbrev pub StandsFrom : ℕ → ℕ → List KeptChecks → List Marker → List ℕ → Type 0
StandsFrom running task [] [] [] = Unit {0}
StandsFrom running task (checks ∷ others) (at ∷ ats) (state ∷ states) = IsStandOf running task checks.total at state × StandsFrom running (task + 1) others ats states
StandsFrom running task _ _ _ = ⊥

pub only_stands : (running task : ℕ) (checks : List KeptChecks) (at : Cursor) (r : (List Marker × List ℕ) × Cursor) → stands_in running task checks at ≡ Ok r →
    Only (λ s. flat_map stand_bytes (zip s.0 s.1)) (λ s. StandsFrom running task checks s.0 s.1) at r
only_stands running task [] at r e =
    subst (Only (λ s. flat_map stand_bytes (zip s.0 s.1)) (λ s. StandsFrom running task [] s.0 s.1) at) (ok_is (([], []), at) r e) (record { took = took_nothing at; keeps = tt })
only_stands running task (checks ∷ others) at r e =
    let Goal : Type 0 = Only (λ s. flat_map stand_bytes (zip s.0 s.1)) (λ s. StandsFrom running task (checks ∷ others) s.0 s.1) at r in
    bound Goal (stand_in running task checks.total at) (λ first. stands_in running (task + 1) others first.1 >>= λ rest. Ok ((first.0.0 ∷ rest.0.0, first.0.1 ∷ rest.0.1), rest.1)) r e (λ first is e1.
    bound Goal (stands_in running (task + 1) others first.1) (λ rest. Ok ((first.0.0 ∷ rest.0.0, first.0.1 ∷ rest.0.1), rest.1)) r e1 (λ rest is2 e2.
    let one = only_stand running task checks.total at first is in
    let more = only_stands running (task + 1) others first.1 rest is2 in
    subst (Only (λ s. flat_map stand_bytes (zip s.0 s.1)) (λ s. StandsFrom running task (checks ∷ others) s.0 s.1) at) (ok_is ((first.0.0 ∷ rest.0.0, first.0.1 ∷ rest.0.1), rest.1) r e2) (record {
      took = took_both at first.1 rest.1 (stand_bytes first.0) (flat_map stand_bytes (zip rest.0.0 rest.0.1)) one.took more.took;
      keeps = (one.keeps, more.keeps);
    })))

-- what is read of the last moment
pub record IsTailOf (switches : List Switch) (checks : List KeptChecks) (tail : Tail) : Type 0 where
  pub running : tail.running ≡ runs_last switches
  pub ended : tail.ended ≡ ended_last switches
  pub stands : StandsFrom tail.running 0 checks tail.at tail.state

pub only_tail : (switches : List Switch) (checks : List KeptChecks) (at : Cursor) (r : Tail × Cursor) → tail_in switches checks at ≡ Ok r →
    Only tail_bytes (IsTailOf switches checks) at r
unfolding tail_bytes
only_tail switches checks at r e =
    let Goal : Type 0 = Only tail_bytes (IsTailOf switches checks) at r in
    bound Goal _ _ r e (λ running is e1.
    bound Goal _ _ r e1 (λ ended is2 e2.
    bound Goal _ _ r e2 (λ stands is3 e3.
    let u = only_byte (λ n. n == runs_last switches) at running is in
    let v = only_byte (λ n. n == ended_last switches) running.1 ended is2 in
    let s = only_stands running.0 0 checks ended.1 stands is3 in
    let tail : Tail = record { running = running.0; ended = ended.0; at = stands.0.0; state = stands.0.1 } in
    subst (Only tail_bytes (IsTailOf switches checks) at) (ok_is (tail, stands.1) r e3) (record {
      took = took_both at ended.1 stands.1 (running.0 ∷ ended.0 ∷ []) (flat_map stand_bytes (zip stands.0.0 stands.0.1))
          (took_both at running.1 ended.1 (running.0 ∷ []) (ended.0 ∷ []) u.took v.took) s.took;
      keeps = record { running = grind (arith, nat_tests, u.keeps); ended = grind (arith, nat_tests, v.keeps); stands = s.keeps };
    }))))
