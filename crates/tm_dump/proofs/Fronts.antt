-- Reading lists item by item.
use Rattle.std.proofs.Common.{◌≡◌, ℕ, ◌+◌, ◌-◌, ◌<◌, ◌≤◌, List, [], ◌∷◌, ◌++◌, length, take, drop, refl, sym, ap, ◌∙◌, subst, arith, zero, suc}
use Rattle.std.specs.Prelude.{Ok, Err, Option, Some, slice_set, slice_get}
use Rattle.std.proofs.lemmas.List.{append_assoc, length-append, map-append}
use Rattle.std.proofs.lemmas.List.Elements.{All-push}
use Rattle.std.proofs.lemmas.Option.{slice_get_within}
use Rattle.tm_ring.specs.Buffer.{keep_last}
use Rattle.tm_marker.specs.declared.marker.Marker.{Marker}
use Rattle.tm_marker.specs.declared.entries.Switch.{Switch}
use Rattle.tm_marker.specs.declared.entries.DataEntry.{DataEntry}
use Rattle.tm_marker.specs.declared.shape.Caps.{Caps}
use Rattle.tm_ring.specs.Kept.{Kept}
use Rattle.tm_check.specs.Checkpoint.{Checkpoint, KeptChecks}
use Rattle.tm_lines.specs.Steps.{◌>>=◌}
use Rattle.tm_dump.specs.declared.fault.DumpFault.{DumpFault}
use Rattle.tm_dump.specs.declared.fault.DumpFault.TheVariants.{Magic, Version, Digest, OtherImage, Field, Extra, Memory}
use Rattle.tm_dump.specs.Cursor.{Cursor, Reading, UnlessMemory, word_in, words_in}
use Rattle.tm_dump.specs.Reading.{entries_in, checkpoint_in, checkpoints_in, task_in, tasks_in, stand_in, stands_in}
use Rattle.tm_dump.specs.Made.{AreOf}
use Rattle.tm_dump.proofs.Writing.{drop_next}

-- what is read behind items that are there
abbrev pub with_front : {X : Type 0} → List X → Reading (List X) → Reading (List X)
with_front front (Ok rest) = Ok (front ++ rest.0, rest.1)
with_front front (Err fault) = Err fault

module _ {X : Type 0} where
  on_front : (front : List X) (x : X) (rest : Reading (List X)) →
      with_front front (rest >>= λ ys. Ok (x ∷ ys.0, ys.1)) ≡ with_front (front ++ x ∷ []) rest
  on_front front x (Ok ys) = ap (λ l. Ok (l, ys.1)) (sym (append_assoc front (x ∷ []) ys.0))
  on_front front x (Err fault) = refl

  -- one more item is read
  pub front_more : (front : List X) (read : Reading X) (next : X × Cursor → Reading (List X)) (x : X) (at : Cursor) (whole : Reading (List X)) →
      with_front front (read >>= λ e. next e >>= λ rest. Ok (e.0 ∷ rest.0, rest.1)) ≡ whole →
      read ≡ Ok (x, at) → with_front (front ++ x ∷ []) (next (x, at)) ≡ whole
  front_more front read next x at whole before is =
      sym (ap (λ r. with_front front (r >>= λ e. next e >>= λ rest. Ok (e.0 ∷ rest.0, rest.1))) is ∙ on_front front x (next (x, at))) ∙ before

  -- an item is not read
  pub front_fails : (front : List X) (read : Reading X) (next : X × Cursor → Reading (List X)) (fault : DumpFault) (whole : Reading (List X)) →
      with_front front (read >>= λ e. next e >>= λ rest. Ok (e.0 ∷ rest.0, rest.1)) ≡ whole →
      read ≡ Err fault → whole ≡ Err fault
  front_fails front read next fault whole before is =
      sym before ∙ ap (λ r. with_front front (r >>= λ e. next e >>= λ rest. Ok (e.0 ∷ rest.0, rest.1))) is

  pub front_none : (rest : Reading (List X)) → with_front [] rest ≡ rest
  front_none (Ok rest) = refl
  front_none (Err fault) = refl

-- up to an item that was put there
pub taken_set : {X : Type 0} (i : ℕ) (xs : List X) (x : X) → i < length xs → take (i + 1) (slice_set xs i x) ≡ take i xs ++ x ∷ []
taken_set i [] x below = absurd (omega arith)
taken_set zero (y ∷ xs) x below = refl
taken_set (suc i) (y ∷ xs) x below =
    let e : suc i + 1 ≡ suc (i + 1) = omega arith in
    rw e (ap (λ l. y ∷ l) (taken_set i xs x (omega arith)))

-- one more word is read, and put at its index
pub words_more : (n i : ℕ) (words : List ℕ) (word : ℕ) (at next : Cursor) (whole : Reading (List ℕ)) →
    i < n → length words ≡ n → with_front (take i words) (words_in (n - i) at) ≡ whole → word_in at ≡ Ok (word, next) →
    with_front (take (i + 1) (slice_set words i word)) (words_in (n - (i + 1)) next) ≡ whole
words_more n i words word at next whole below same before is =
    let left : n - i ≡ suc (n - (i + 1)) = omega arith in
    rw (taken_set i words word (omega arith)) (
    front_more (take i words) (word_in at) (λ e. words_in (n - (i + 1)) e.1) word next whole
    (subst (λ m. with_front (take i words) (words_in m at) ≡ whole) left before) is)

-- nothing goes where there is room for all
pub all_kept : {X : Type 0} (cap : ℕ) (xs : List X) → length xs ≤ cap → keep_last cap xs ≡ xs
all_kept cap xs fits =
    let none : length xs - cap ≡ 0 = omega arith in
    ap (λ n. drop n xs) none

-- one more entry is read, and pushed
pub entries_more : {X : Type 0} (next : Option X → Cursor → Reading X) (cap n i : ℕ) (before : Option X) (items : List X) (entry : X) (at after : Cursor) (whole : Reading (List X)) →
    i < n → n ≤ cap → length items ≡ i →
    with_front items (entries_in next before (n - i) at) ≡ whole → next before at ≡ Ok (entry, after) →
    with_front (keep_last cap (items ++ entry ∷ [])) (entries_in next (Some entry) (n - (i + 1)) after) ≡ whole
entries_more next cap n i before items entry at after whole below fits len here is =
    let left : n - i ≡ suc (n - (i + 1)) = omega arith in
    rw (all_kept cap (items ++ entry ∷ []) (omega (arith, length-append items (entry ∷ [])))) (
    front_more items (next before at) (λ e. entries_in next (Some e.0) (n - (i + 1)) e.1) entry after whole
    (subst (λ m. with_front items (entries_in next before m at) ≡ whole) left here) is)

-- an entry is not read
pub entries_fail : {X : Type 0} (next : Option X → Cursor → Reading X) (n i : ℕ) (before : Option X) (items : List X) (fault : DumpFault) (at : Cursor) (whole : Reading (List X)) →
    i < n → with_front items (entries_in next before (n - i) at) ≡ whole → next before at ≡ Err fault → whole ≡ Err fault
entries_fail next n i before items fault at whole below here is =
    let left : n - i ≡ suc (n - (i + 1)) = omega arith in
    front_fails items (next before at) (λ e. entries_in next (Some e.0) (n - (i + 1)) e.1) fault whole
    (subst (λ m. with_front items (entries_in next before m at) ≡ whole) left here) is

-- one more checkpoint is read, and pushed
pub checks_more : (size entries switches cap n i : ℕ) (items : List Checkpoint) (c : Checkpoint) (at after : Cursor) (whole : Reading (List Checkpoint)) →
    i < n → n ≤ cap → length items ≡ i →
    with_front items (checkpoints_in size entries switches (n - i) at) ≡ whole → checkpoint_in size entries switches at ≡ Ok (c, after) →
    with_front (keep_last cap (items ++ c ∷ [])) (checkpoints_in size entries switches (n - (i + 1)) after) ≡ whole
checks_more size entries switches cap n i items c at after whole below fits len here is =
    let left : n - i ≡ suc (n - (i + 1)) = omega arith in
    rw (all_kept cap (items ++ c ∷ []) (omega (arith, length-append items (c ∷ [])))) (
    front_more items (checkpoint_in size entries switches at) (λ e. checkpoints_in size entries switches (n - (i + 1)) e.1) c after whole
    (subst (λ m. with_front items (checkpoints_in size entries switches m at) ≡ whole) left here) is)

-- a checkpoint is not read
pub checks_fail : (size entries switches n i : ℕ) (items : List Checkpoint) (fault : DumpFault) (at : Cursor) (whole : Reading (List Checkpoint)) →
    i < n → with_front items (checkpoints_in size entries switches (n - i) at) ≡ whole → checkpoint_in size entries switches at ≡ Err fault → whole ≡ Err fault
checks_fail size entries switches n i items fault at whole below here is =
    let left : n - i ≡ suc (n - (i + 1)) = omega arith in
    front_fails items (checkpoint_in size entries switches at) (λ e. checkpoints_in size entries switches (n - (i + 1)) e.1) fault whole
    (subst (λ m. with_front items (checkpoints_in size entries switches m at) ≡ whole) left here) is

-- a fact in place of another, but for want of memory
pub unless : (fault : DumpFault) (P Q : Type 0) → (P → Q) → UnlessMemory fault P → UnlessMemory fault Q
unless Magic P Q f p = f p
unless (Version n) P Q f p = f p
unless (Digest found computed) P Q f p = f p
unless (OtherImage found wanted) P Q f p = f p
unless (Field place) P Q f p = f p
unless (Extra place) P Q f p = f p
unless Memory P Q f p = p

-- up to an item
pub take_next : {X : Type 0} (xs : List X) (i : ℕ) (x : X) → slice_get xs i ≡ Some x → take (i + 1) xs ≡ take i xs ++ x ∷ []
take_next [] i x there = absurd (omega (arith, slice_get_within [] i x there))
take_next (y ∷ xs) zero x there = cc
take_next (y ∷ xs) (suc i) x there =
    let e : suc i + 1 ≡ suc (i + 1) = omega arith in
    rw e (ap (λ l. y ∷ l) (take_next xs i x there))

-- what is read behind the items of two lists
abbrev pub with_fronts : {A B : Type 0} → List A → List B → Reading (List A × List B) → Reading (List A × List B)
with_fronts ks bs (Ok rest) = Ok ((ks ++ rest.0.0, bs ++ rest.0.1), rest.1)
with_fronts ks bs (Err fault) = Err fault

module _ {A B : Type 0} where
  on_fronts : (ks : List A) (bs : List B) (a : A) (b : B) (rest : Reading (List A × List B)) →
      with_fronts ks bs (rest >>= λ ys. Ok ((a ∷ ys.0.0, b ∷ ys.0.1), ys.1)) ≡ with_fronts (ks ++ a ∷ []) (bs ++ b ∷ []) rest
  on_fronts ks bs a b (Ok ys) = λ i. Ok ((sym (append_assoc ks (a ∷ []) ys.0.0) i, sym (append_assoc bs (b ∷ []) ys.0.1) i), ys.1)
  on_fronts ks bs a b (Err fault) = refl

  -- one more item of each is read
  pub fronts_more : (ks : List A) (bs : List B) (read : Reading (A × B)) (next : (A × B) × Cursor → Reading (List A × List B)) (a : A) (b : B) (at : Cursor) (whole : Reading (List A × List B)) →
      with_fronts ks bs (read >>= λ e. next e >>= λ rest. Ok ((e.0.0 ∷ rest.0.0, e.0.1 ∷ rest.0.1), rest.1)) ≡ whole →
      read ≡ Ok ((a, b), at) → with_fronts (ks ++ a ∷ []) (bs ++ b ∷ []) (next ((a, b), at)) ≡ whole
  fronts_more ks bs read next a b at whole before is =
      sym (ap (λ r. with_fronts ks bs (r >>= λ e. next e >>= λ rest. Ok ((e.0.0 ∷ rest.0.0, e.0.1 ∷ rest.0.1), rest.1))) is ∙ on_fronts ks bs a b (next ((a, b), at))) ∙ before

  -- an item of each is not read
  pub fronts_fail : (ks : List A) (bs : List B) (read : Reading (A × B)) (next : (A × B) × Cursor → Reading (List A × List B)) (fault : DumpFault) (whole : Reading (List A × List B)) →
      with_fronts ks bs (read >>= λ e. next e >>= λ rest. Ok ((e.0.0 ∷ rest.0.0, e.0.1 ∷ rest.0.1), rest.1)) ≡ whole →
      read ≡ Err fault → whole ≡ Err fault
  fronts_fail ks bs read next fault whole before is =
      sym before ∙ ap (λ r. with_fronts ks bs (r >>= λ e. next e >>= λ rest. Ok ((e.0.0 ∷ rest.0.0, e.0.1 ∷ rest.0.1), rest.1))) is

  pub fronts_none : (rest : Reading (List A × List B)) → with_fronts [] [] rest ≡ rest
  fronts_none (Ok rest) = refl
  fronts_none (Err fault) = refl

-- one more task's place is read
pub stands_more : (running task : ℕ) (checks : List KeptChecks) (kept : KeptChecks) (ks : List Marker) (bs : List ℕ) (a : Marker) (b : ℕ) (at after : Cursor) (whole : Reading (List Marker × List ℕ)) →
    slice_get checks task ≡ Some kept →
    with_fronts ks bs (stands_in running task (drop task checks) at) ≡ whole → stand_in running task kept.total at ≡ Ok ((a, b), after) →
    with_fronts (ks ++ a ∷ []) (bs ++ b ∷ []) (stands_in running (task + 1) (drop (task + 1) checks) after) ≡ whole
stands_more running task checks kept ks bs a b at after whole there before is =
    fronts_more ks bs (stand_in running task kept.total at) (λ e. stands_in running (task + 1) (drop (task + 1) checks) e.1) a b after whole
    (subst (λ l. with_fronts ks bs (stands_in running task l at) ≡ whole) (drop_next checks task kept there) before) is

pub stands_fail : (running task : ℕ) (checks : List KeptChecks) (kept : KeptChecks) (ks : List Marker) (bs : List ℕ) (fault : DumpFault) (at : Cursor) (whole : Reading (List Marker × List ℕ)) →
    slice_get checks task ≡ Some kept →
    with_fronts ks bs (stands_in running task (drop task checks) at) ≡ whole → stand_in running task kept.total at ≡ Err fault → whole ≡ Err fault
stands_fail running task checks kept ks bs fault at whole there before is =
    fronts_fail ks bs (stand_in running task kept.total at) (λ e. stands_in running (task + 1) (drop (task + 1) checks) e.1) fault whole
    (subst (λ l. with_fronts ks bs (stands_in running task l at) ≡ whole) (drop_next checks task kept there) before) is

-- one more task is read
pub tasks_more : (caps : Caps) (control : Kept Switch) (tasks task : ℕ) (words : List ℕ) (size : ℕ) (ks : List (Kept DataEntry)) (bs : List KeptChecks) (a : Kept DataEntry) (b : KeptChecks) (at after : Cursor) (whole : Reading (List (Kept DataEntry) × List KeptChecks)) →
    slice_get words task ≡ Some size →
    with_fronts ks bs (tasks_in caps control tasks task (drop task words) at) ≡ whole → task_in caps control tasks task size at ≡ Ok ((a, b), after) →
    with_fronts (ks ++ a ∷ []) (bs ++ b ∷ []) (tasks_in caps control tasks (task + 1) (drop (task + 1) words) after) ≡ whole
tasks_more caps control tasks task words size ks bs a b at after whole there before is =
    fronts_more ks bs (task_in caps control tasks task size at) (λ e. tasks_in caps control tasks (task + 1) (drop (task + 1) words) e.1) a b after whole
    (subst (λ l. with_fronts ks bs (tasks_in caps control tasks task l at) ≡ whole) (drop_next words task size there) before) is

pub tasks_fail : (caps : Caps) (control : Kept Switch) (tasks task : ℕ) (words : List ℕ) (size : ℕ) (ks : List (Kept DataEntry)) (bs : List KeptChecks) (fault : DumpFault) (at : Cursor) (whole : Reading (List (Kept DataEntry) × List KeptChecks)) →
    slice_get words task ≡ Some size →
    with_fronts ks bs (tasks_in caps control tasks task (drop task words) at) ≡ whole → task_in caps control tasks task size at ≡ Err fault → whole ≡ Err fault
tasks_fail caps control tasks task words size ks bs fault at whole there before is =
    fronts_fail ks bs (task_in caps control tasks task size at) (λ e. tasks_in caps control tasks (task + 1) (drop (task + 1) words) e.1) fault whole
    (subst (λ l. with_fronts ks bs (tasks_in caps control tasks task l at) ≡ whole) (drop_next words task size there) before) is

-- how many are kept, with one more
pub kept_more : {X : Type 0} (cap : ℕ) (xs : List X) (x : X) → length xs < cap → length (keep_last cap (xs ++ x ∷ [])) ≡ length xs + 1
kept_more cap xs x below =
    rw (all_kept cap (xs ++ x ∷ []) (omega (arith, length-append xs (x ∷ [])))) (omega (arith, length-append xs (x ∷ [])))

pub entries_unless : {X : Type 0} (next : Option X → Cursor → Reading X) (n i : ℕ) (before : Option X) (items : List X) (fault : DumpFault) (at : Cursor) (whole : Reading (List X)) →
    i < n → with_front items (entries_in next before (n - i) at) ≡ whole →
    UnlessMemory fault (next before at ≡ Err fault) → UnlessMemory fault (whole ≡ Err fault)
entries_unless next n i before items fault at whole below here =
    unless fault (next before at ≡ Err fault) (whole ≡ Err fault) (entries_fail next n i before items fault at whole below here)

pub checks_unless : (size entries switches n i : ℕ) (items : List Checkpoint) (fault : DumpFault) (at : Cursor) (whole : Reading (List Checkpoint)) →
    i < n → with_front items (checkpoints_in size entries switches (n - i) at) ≡ whole →
    UnlessMemory fault (checkpoint_in size entries switches at ≡ Err fault) → UnlessMemory fault (whole ≡ Err fault)
checks_unless size entries switches n i items fault at whole below here =
    unless fault (checkpoint_in size entries switches at ≡ Err fault) (whole ≡ Err fault) (checks_fail size entries switches n i items fault at whole below here)

pub tasks_unless : (caps : Caps) (control : Kept Switch) (tasks task : ℕ) (words : List ℕ) (size : ℕ) (ks : List (Kept DataEntry)) (bs : List KeptChecks) (fault : DumpFault) (at : Cursor) (whole : Reading (List (Kept DataEntry) × List KeptChecks)) →
    slice_get words task ≡ Some size →
    with_fronts ks bs (tasks_in caps control tasks task (drop task words) at) ≡ whole →
    UnlessMemory fault (task_in caps control tasks task size at ≡ Err fault) → UnlessMemory fault (whole ≡ Err fault)
tasks_unless caps control tasks task words size ks bs fault at whole there before =
    unless fault (task_in caps control tasks task size at ≡ Err fault) (whole ≡ Err fault) (tasks_fail caps control tasks task words size ks bs fault at whole there before)

-- the buffers of one more task
pub of_more : (caps : Caps) (words : List ℕ) (task size : ℕ) (logs : List (Kept DataEntry)) (checks : List KeptChecks) (log : Kept DataEntry) (kept : KeptChecks) →
    slice_get words task ≡ Some size → log.cap ≡ caps.logs → kept.cap ≡ caps.checks → kept.words ≡ size →
    AreOf caps (take task words) logs checks → AreOf caps (take (task + 1) words) (logs ++ log ∷ []) (checks ++ kept ∷ [])
of_more caps words task size logs checks log kept there log_cap check_cap is made =
    let more : take (task + 1) words ≡ take task words ++ size ∷ [] = take_next words task size there in
    subst (λ ws. AreOf caps ws (logs ++ log ∷ []) (checks ++ kept ∷ [])) (sym more) (record {
      tasks = omega (arith, length-append logs (log ∷ []), length-append (take task words) (size ∷ []), made.tasks);
      log_caps = All-push (λ ring. ring.cap ≡ caps.logs) logs log made.log_caps log_cap;
      check_caps = All-push (λ kept. kept.cap ≡ caps.checks) checks kept made.check_caps check_cap;
      check_words = map-append (λ kept. kept.words) checks (kept ∷ []) ∙ ap (λ ws. ws ++ kept.words ∷ []) made.check_words ∙ ap (λ w. take task words ++ w ∷ []) is;
    })
