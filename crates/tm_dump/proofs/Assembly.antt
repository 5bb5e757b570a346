-- A window that was read is well formed, and the bytes are its dump.
use Rattle.std.proofs.Common.{◌≡◌, ℕ, ◌+◌, ◌-◌, ◌<◌, ◌≤◌, List, [], ◌∷◌, ◌++◌, length, take, drop, refl, sym, ap, ◌∙◌, subst, arith, zero, suc, Bool, true, false, not, ◌==◌, nat_lt, nat_le, if◌then◌else◌, inl, inr}
use Rattle.std.specs.Prelude.{Ok, Err, Option, Some, None, slice_get, slice_index, unwrap_or, All}
use Rattle.std.specs.List.{flat_map, zip, list_all}
use Rattle.std.specs.Str.{bytes_eq}
use Rattle.std.proofs.lemmas.Bool.{and_parts, or_cases}
use Rattle.std.proofs.lemmas.Bool.Decides.{nat_tests}
use Rattle.std.proofs.lemmas.List.{append-nil, take-take, take-append-drop, take_more}
use Rattle.std.proofs.lemmas.List.Elements.{All-nil, All-cons, All-take}
use Rattle.tm_marker.specs.declared.marker.Marker.{Marker}
use Rattle.tm_marker.specs.declared.entries.Switch.{Switch}
use Rattle.tm_marker.specs.declared.entries.DataEntry.{DataEntry}
use Rattle.tm_marker.specs.declared.shape.Shape.{Shape}
use Rattle.tm_ring.specs.Kept.{Kept, kept}
use Rattle.tm_check.specs.Checkpoint.{KeptChecks, kept_checks}
use Rattle.tm_log.specs.Window.{WindowView, window_from, nobody, log_of, checks_of}
use Rattle.tm_log.specs.WellFormed.{IsSide, IsEntry, AreChained, IsTaskWell, IsWellFormed, IsOutput, IsTaskOrNobody, IsFilled, IsCheckpoint, ended_by}
use Rattle.tm_dump.specs.declared.fault.DumpFault.{DumpFault}
use Rattle.tm_dump.specs.declared.fault.DumpFault.TheVariants.{Magic, Version, Digest, OtherImage, Field, Extra}
use Rattle.tm_dump.specs.Bytes.{AreBytes}
use Rattle.tm_dump.specs.Cursor.{Cursor}
use Rattle.tm_dump.specs.Fields.{switch_bytes, output_bytes}
use Rattle.tm_dump.specs.Dump.{magic_bytes, head_bytes, control_bytes, outputs_bytes, task_bytes, tail_bytes, body_bytes, closing_digest, dump_bytes}
use Rattle.tm_dump.specs.Reading.{switch_in, output_in, is_below_on, is_reached, is_state, fields_in, whole, inside, behind_version, enclosed, window_in, before_digest, found_digest, is_dump}
use Rattle.tm_dump.proofs.Taken.{Took, took_both, took_past, ok_is, bound, only_byte}
use Rattle.tm_dump.proofs.Onlys.{IsSwitch, IsMarkerOf, only_switch, only_output}
use Rattle.tm_dump.proofs.Wholes.{AllFrom, all_of, only_ring, IsTaskOf, TasksFrom, only_tasks, IsStandOf, StandsFrom, only_tail}

-- each entry follows the one before
chained : (tasks : ℕ) (before : Option Switch) (entries : List Switch) → AllFrom (IsSwitch tasks) before entries → AreChained entries
chained tasks before [] each = tt
chained tasks before (entry ∷ []) each = tt
chained tasks before (entry ∷ after ∷ rest) each =
    let both = and_parts (after.from == entry.to) (ended_by entry.kind == 0) each.1.0.follows_on in
    (record { from = grind (arith, nat_tests, both.0); goes_on = grind (arith, nat_tests, both.1) }, chained tasks (Some entry) (after ∷ rest) each.1)

-- a task on a side of an entry has come no further than its checkpoints
below_of : (task total who : ℕ) (at : Marker) → is_below_on task total who at ≡ true → who ≡ task → at.epoch < total
below_of task total who at keeps same = elim (or_cases (not (who == task)) (nat_lt at.epoch total) keeps) [
  | inl differs ↦ absurd (grind (arith, nat_tests, differs, same))
  | inr below ↦ grind (arith, nat_tests, below)
]

side_of : (w : WindowView) (who : ℕ) (at : Marker) → IsTaskOrNobody (length w.shape.words) who → IsMarkerOf (who == nobody) at →
    ((task : ℕ) → task < length w.shape.words → is_below_on task (checks_of w task).total who at ≡ true) → IsSide w who at
side_of w who at there marker below = record {
  there = there;
  marker = marker.marker;
  nobody = λ none. marker.zero (grind (arith, nat_tests, none));
  reached = λ within. below_of who (checks_of w who).total who at (below who within) refl;
}

entry_of : (w : WindowView) (before : Option Switch) (e : Switch) → IsSwitch (length w.shape.words) before e →
    ((task : ℕ) → task < length w.shape.words → is_reached task (checks_of w task).total e ≡ true) → IsEntry w e
entry_of w before e s reached = record {
  from = side_of w e.from e.from_at s.from_there s.from_marker
      (λ task within. (and_parts (is_below_on task (checks_of w task).total e.from e.from_at) (is_below_on task (checks_of w task).total e.to e.to_at) (reached task within)).0);
  to = side_of w e.to e.to_at s.to_there s.to_marker
      (λ task within. (and_parts (is_below_on task (checks_of w task).total e.from e.from_at) (is_below_on task (checks_of w task).total e.to e.to_at) (reached task within)).1);
  idle = s.kind.idle;
  nobody = s.kind.nobody;
  goes = s.goes;
}

entries_of : (w : WindowView) (before : Option Switch) (entries : List Switch) → AllFrom (IsSwitch (length w.shape.words)) before entries →
    ((task : ℕ) → task < length w.shape.words → list_all (is_reached task (checks_of w task).total) entries ≡ true) → All (IsEntry w) entries
entries_of w before [] each reached = All-nil (IsEntry w)
entries_of w before (e ∷ es) each reached =
    All-cons (IsEntry w) e es
    (entry_of w before e each.0 (λ task within. (and_parts (is_reached task (checks_of w task).total e) (list_all (is_reached task (checks_of w task).total) es) (reached task within)).0))
    (entries_of w (Some e) es each.1 (λ task within. (and_parts (is_reached task (checks_of w task).total e) (list_all (is_reached task (checks_of w task).total) es) (reached task within)).1))

-- the buffers of one task
record TaskAt (control : Kept Switch) (start : ℕ) (logs : List (Kept DataEntry)) (checks : List KeptChecks) (i : ℕ) : Type 0 where
  log : Kept DataEntry
  kept : KeptChecks
  log_is : slice_get logs i ≡ Some log
  kept_is : slice_get checks i ≡ Some kept
  keeps : IsTaskOf control (start + i) log kept

task_at : (control : Kept Switch) (start : ℕ) (sizes : List ℕ) (logs : List (Kept DataEntry)) (checks : List KeptChecks) (i : ℕ) →
    TasksFrom control start sizes logs checks → i < length sizes → TaskAt control start logs checks i
task_at control start [] logs checks i each below = absurd (omega arith)
task_at control start (size ∷ sizes) [] checks i each below = absurd each
task_at control start (size ∷ sizes) (log ∷ logs) [] i each below = absurd each
task_at control start (size ∷ sizes) (log ∷ logs) (kept ∷ checks) zero each below =
    let same : start + 0 ≡ start = omega arith in
    record { log = log; kept = kept; log_is = refl; kept_is = refl; keeps = subst (λ n. IsTaskOf control n log kept) (sym same) each.0 }
task_at control start (size ∷ sizes) (log ∷ logs) (kept ∷ checks) (suc i) each below =
    let more = task_at control (start + 1) sizes logs checks i each.1 (omega arith) in
    let same : start + 1 + i ≡ start + suc i = omega arith in
    record { log = more.log; kept = more.kept; log_is = more.log_is; kept_is = more.kept_is; keeps = subst (λ n. IsTaskOf control n more.log more.kept) same more.keeps }

-- where one task stands
record StandAt (running start : ℕ) (kept : KeptChecks) (ats : List Marker) (states : List ℕ) (i : ℕ) : Type 0 where
  at : Marker
  state : ℕ
  at_is : slice_get ats i ≡ Some at
  state_is : slice_get states i ≡ Some state
  keeps : IsStandOf running (start + i) kept.total at state

same_some : {X : Type 0} (x y : X) → Some x ≡ Some y → x ≡ y
same_some x y e = cc e

stand_at : (running start : ℕ) (checks : List KeptChecks) (ats : List Marker) (states : List ℕ) (i : ℕ) (kept : KeptChecks) →
    StandsFrom running start checks ats states → slice_get checks i ≡ Some kept → StandAt running start kept ats states i
stand_at running start [] ats states i kept each there = cc there
stand_at running start (k ∷ checks) [] states i kept each there = absurd each
stand_at running start (k ∷ checks) (a ∷ ats) [] i kept each there = absurd each
stand_at running start (k ∷ checks) (a ∷ ats) (s ∷ states) zero kept each there =
    let same : start + 0 ≡ start = omega arith in
    record {
      at = a;
      state = s;
      at_is = refl;
      state_is = refl;
      keeps = subst (λ n. IsStandOf running n kept.total a s) (sym same) (subst (λ (c : KeptChecks). IsStandOf running start c.total a s) (same_some k kept there) each.0);
    }
stand_at running start (k ∷ checks) (a ∷ ats) (s ∷ states) (suc i) kept each there =
    let more = stand_at running (start + 1) checks ats states i kept each.1 there in
    let same : start + 1 + i ≡ start + suc i = omega arith in
    record { at = more.at; state = more.state; at_is = more.at_is; state_is = more.state_is; keeps = subst (λ n. IsStandOf running n kept.total more.at more.state) same more.keeps }

by_running : (running task n : ℕ) (b : Bool) → (running == task) ≡ b → (if b then n == 2 else not (n == 2)) ≡ true → (n ≡ 2 → running ≡ task) × (running ≡ task → n ≡ 2)
by_running running task n true same keeps = (λ _. grind (arith, nat_tests, same), λ _. grind (arith, nat_tests, keeps))
by_running running task n false other keeps = (λ two. absurd (grind (arith, nat_tests, keeps, two)), λ same. absurd (grind (arith, nat_tests, other, same)))

state_of : (running task n : ℕ) → is_state running task n ≡ true → (n ≤ 3) × ((n ≡ 2 → running ≡ task) × (running ≡ task → n ≡ 2))
state_of running task n is =
    let both = and_parts (nat_le n 3) (if running == task then n == 2 else not (n == 2)) is in
    (grind (arith, nat_tests, both.0), by_running running task n (running == task) refl both.1)

task_well : (w : WindowView) (control : Kept Switch) (i : ℕ) (sizes : List ℕ) → w.control ≡ control →
    TasksFrom control 0 sizes w.logs w.checks → StandsFrom w.tail.running 0 w.checks w.tail.at w.tail.state → i < length sizes → IsTaskWell w i
task_well w control i sizes same tasks stands below =
    let t = task_at control 0 sizes w.logs w.checks i tasks below in
    let s = stand_at w.tail.running 0 w.checks w.tail.at w.tail.state i t.kept stands t.kept_is in
    let log_is : log_of w i ≡ t.log = ap (λ o. unwrap_or o (kept [] 0 0)) t.log_is in
    let kept_is : checks_of w i ≡ t.kept = ap (λ o. unwrap_or o (kept_checks [] 0 0 0)) t.kept_is in
    let first : 0 + i ≡ i = omega arith in
    let stand = subst (λ n. IsStandOf w.tail.running n t.kept.total s.at s.state) first s.keeps in
    let states = state_of w.tail.running i s.state stand.state_is in
    record {
      log = subst (λ (l : Kept DataEntry). IsFilled (length l.items) l.total l.cap) (sym log_is) t.keeps.log_filled;
      statuses = subst (λ (l : Kept DataEntry). All (λ (entry : DataEntry). entry.status ≤ 8) l.items) (sym log_is) t.keeps.statuses;
      checks = subst (λ (c : KeptChecks). IsFilled (length c.items) c.total c.cap) (sym kept_is) t.keeps.checks_of.filled;
      booted = subst (λ (c : KeptChecks). 0 < c.total) (sym kept_is) t.keeps.checks_of.booted;
      bodies = subst (λ (k : Kept Switch). All (IsCheckpoint (log_of w i).total k.total) (checks_of w i).items) (sym same)
          (subst (λ (l : Kept DataEntry). All (IsCheckpoint l.total control.total) (checks_of w i).items) (sym log_is)
          (subst (λ (c : KeptChecks). All (IsCheckpoint t.log.total control.total) c.items) (sym kept_is) t.keeps.checks_of.bodies));
      at = s.at;
      at_is = s.at_is;
      marker = s.keeps.marker;
      epoch = subst (λ (c : KeptChecks). s.at.epoch ≡ c.total - 1) (sym kept_is) s.keeps.epoch;
      state = s.state;
      state_is = s.state_is;
      state_number = states.0;
      runs = states.1.0;
      running = states.1.1;
    }

-- the control entries reach no epoch past a task's checkpoints
reached_of : (w : WindowView) (control : Kept Switch) (sizes : List ℕ) → TasksFrom control 0 sizes w.logs w.checks → (task : ℕ) → task < length sizes →
    list_all (is_reached task (checks_of w task).total) control.items ≡ true
reached_of w control sizes tasks task below =
    let t = task_at control 0 sizes w.logs w.checks task tasks below in
    let kept_is : checks_of w task ≡ t.kept = ap (λ o. unwrap_or o (kept_checks [] 0 0 0)) t.kept_is in
    let first : 0 + task ≡ task = omega arith in
    let keeps = subst (λ n. IsTaskOf control n t.log t.kept) first t.keeps in
    subst (λ (c : KeptChecks). list_all (is_reached task c.total) control.items ≡ true) (sym kept_is) keeps.checks_of.reached

-- all fields: the bytes up to where they end, and the window
pub record IsRead (shape : Shape) (start : Cursor) (head : List ℕ) (r : WindowView × Cursor) : Type 0 where
  pub took : Took start r.1 (head ++ (length shape.words ∷ []) ++ control_bytes r.0.control ++ outputs_bytes r.0.outputs
      ++ flat_map task_bytes (zip r.0.logs r.0.checks) ++ tail_bytes r.0.tail)
  pub well : IsWellFormed r.0 shape

pub only_fields : (shape : Shape) (start at : Cursor) (head : List ℕ) (r : WindowView × Cursor) → Took start at head → fields_in shape at ≡ Ok r → IsRead shape start head r
unfolding control_bytes outputs_bytes
only_fields shape start at head r before e =
    let T = length shape.words in
    let Goal : Type 0 = IsRead shape start head r in
    bound Goal _ _ r e (λ number is e1.
    bound Goal _ _ r e1 (λ control is2 e2.
    bound Goal _ _ r e2 (λ outputs is3 e3.
    bound Goal _ _ r e3 (λ lists is4 e4.
    bound Goal _ _ r e4 (λ tail is5 e5.
    let n = only_byte (λ n. n == T) at number is in
    let c = only_ring switch_bytes (IsSwitch T) (switch_in T) (only_switch T) shape.caps.control number.1 control is2 in
    let o = only_ring output_bytes (λ _. IsOutput T) (output_in T) (only_output T) shape.caps.outputs control.1 outputs is3 in
    let t = only_tasks shape.caps control.0 T 0 shape.words outputs.1 lists is4 in
    let l = only_tail control.0.items lists.0.1 lists.1 tail is5 in
    let w = window_from shape control.0 outputs.0 lists.0.0 lists.0.1 tail.0 in
    let number_is : number.0 ≡ T = grind (arith, nat_tests, n.keeps) in
    let p0 = took_both start at number.1 head (T ∷ []) before (subst (λ k. Took at number.1 (k ∷ [])) number_is n.took) in
    let p1 = took_both start number.1 control.1 (head ++ (T ∷ [])) (control_bytes control.0) p0 c.took in
    let p2 = took_both start control.1 outputs.1 (head ++ (T ∷ []) ++ control_bytes control.0) (outputs_bytes outputs.0) p1 o.took in
    let p3 = took_both start outputs.1 lists.1 (head ++ (T ∷ []) ++ control_bytes control.0 ++ outputs_bytes outputs.0) (flat_map task_bytes (zip lists.0.0 lists.0.1)) p2 t.took in
    let p4 = took_both start lists.1 tail.1 (head ++ (T ∷ []) ++ control_bytes control.0 ++ outputs_bytes outputs.0 ++ flat_map task_bytes (zip lists.0.0 lists.0.1)) (tail_bytes tail.0) p3 l.took in
    subst (IsRead shape start head) (ok_is (w, tail.1) r e5) (record {
      took = p4;
      well = record {
        same_shape = refl;
        control = c.keeps.filled;
        entries = entries_of w None control.0.items c.keeps.each (reached_of w control.0 shape.words t.keeps);
        chained = chained T None control.0.items c.keeps.each;
        output_number = o.keeps.filled;
        outputs = all_of (IsOutput T) None outputs.0.items o.keeps.each;
        tasks = λ task below. task_well w control.0 task shape.words refl t.keeps l.keeps.stands below;
        running = l.keeps.running;
        ended = l.keeps.ended;
      };
    }))))))

none_left : (bytes : List ℕ) → length bytes ≡ 0 → bytes ≡ []
none_left [] none = refl
none_left (byte ∷ bytes) none = absurd (omega arith)

whole_of : (b : Bool) (x : WindowView × Cursor) (w : WindowView) (e : DumpFault) → (length x.1.left == 0) ≡ b → (if b then Ok x.0 else Err e) ≡ Ok w →
    (x.0 ≡ w) × (x.1.left ≡ [])
whole_of true x w e none is = (ok_is x.0 w is, none_left x.1.left (grind (arith, nat_tests, none)))
whole_of false x w e some is = cc is

same_bytes : (xs ys : List ℕ) → bytes_eq xs ys ≡ true → xs ≡ ys
same_bytes [] [] is = refl
same_bytes [] (y ∷ ys) is = cc is
same_bytes (x ∷ xs) [] is = cc is
same_bytes (x ∷ xs) (y ∷ ys) is =
    let both = and_parts (x == y) (bytes_eq xs ys) is in
    let head : x ≡ y = grind (arith, nat_tests, both.0) in
    λ i. head i ∷ same_bytes xs ys both.1 i

-- what the tests before the fields tell
record IsEnclosed (bytes within : List ℕ) : Type 0 where
  long : 37 ≤ length bytes
  magic : take 4 bytes ≡ 0x54 ∷ 0x4d ∷ 0x44 ∷ 0x50 ∷ []
  version : slice_index bytes 4 ≡ 1
  digest : found_digest bytes ≡ closing_digest (before_digest bytes)
  within_is : drop 5 (before_digest bytes) ≡ within

tests_passed : (bytes within : List ℕ) (a b c : Bool) → is_dump bytes ≡ a → (slice_index bytes 4 == 1) ≡ b → bytes_eq (found_digest bytes) (closing_digest (before_digest bytes)) ≡ c →
    (if not a then Err Magic else (if not b then Err (Version (slice_index bytes 4)) else (if c then Ok (drop 5 (before_digest bytes)) else Err (Digest (found_digest bytes) (closing_digest (before_digest bytes)))))) ≡ Ok within →
    IsEnclosed bytes within
tests_passed bytes within false b c is_a is_b is_c e = cc e
tests_passed bytes within true false c is_a is_b is_c e = cc e
tests_passed bytes within true true false is_a is_b is_c e = cc e
tests_passed bytes within true true true is_a is_b is_c e =
    let both = and_parts (nat_le 37 (length bytes)) (bytes_eq (take 4 bytes) (0x54 ∷ 0x4d ∷ 0x44 ∷ 0x50 ∷ [])) is_a in
    record {
      long = grind (arith, nat_tests, both.0);
      magic = same_bytes (take 4 bytes) (0x54 ∷ 0x4d ∷ 0x44 ∷ 0x50 ∷ []) both.1;
      version = grind (arith, nat_tests, is_b);
      digest = same_bytes (found_digest bytes) (closing_digest (before_digest bytes)) is_c;
      within_is = ok_is (drop 5 (before_digest bytes)) within e;
    }

magic_is : (bytes within : List ℕ) → IsEnclosed bytes within → take 5 (before_digest bytes) ≡ magic_bytes
magic_is bytes within i =
    let long : 5 ≤ length bytes - 32 = omega (arith, i.long) in
    take-take 5 (length bytes - 32) bytes long ∙ take_more bytes 4 0 (omega (arith, i.long)) ∙ ap (λ l. l ++ slice_index bytes 4 ∷ []) i.magic
    ∙ ap (λ n. 0x54 ∷ 0x4d ∷ 0x44 ∷ 0x50 ∷ n ∷ []) i.version

behind_tests : (shape : Shape) (bytes : List ℕ) (w : WindowView) (a b : Bool) → nat_lt (length bytes) 32 ≡ a → bytes_eq (take 32 bytes) shape.image ≡ b →
    (if a then Err (Field 5) else (if b then inside shape (drop 32 bytes) else Err (OtherImage (take 32 bytes) shape.image))) ≡ Ok w →
    (take 32 bytes ≡ shape.image) × (inside shape (drop 32 bytes) ≡ Ok w)
behind_tests shape bytes w true b is_a is_b e = cc e
behind_tests shape bytes w false false is_a is_b e = cc e
behind_tests shape bytes w false true is_a is_b e = (same_bytes (take 32 bytes) shape.image is_b, e)

record IsBody (shape : Shape) (body : List ℕ) (w : WindowView) : Type 0 where
  well : IsWellFormed w shape
  is : body ≡ body_bytes w

body_of : (shape : Shape) (body : List ℕ) (w : WindowView) → AreBytes body → take 5 body ≡ magic_bytes → behind_version shape (drop 5 body) ≡ Ok w → IsBody shape body w
unfolding body_bytes head_bytes
body_of shape body w small magic e =
    let tests = behind_tests shape (drop 5 body) w (nat_lt (length (drop 5 body)) 32) (bytes_eq (take 32 (drop 5 body)) shape.image) refl refl e in
    let at0 : Cursor = record { place = 0; left = body } in
    let at1 : Cursor = record { place = 5; left = drop 5 body } in
    let at2 : Cursor = record { place = 37; left = drop 32 (drop 5 body) } in
    let one : Took at0 at1 magic_bytes = subst (λ bytes. Took at0 at1 bytes) magic (took_past 5 at0) in
    let two : Took at1 at2 shape.image = subst (λ bytes. Took at1 at2 bytes) tests.0 (took_past 32 at1) in
    let head : Took at0 at2 (magic_bytes ++ shape.image) = took_both at0 at1 at2 magic_bytes shape.image one two in
    bound (IsBody shape body w) (fields_in shape at2) whole w tests.1 (λ found is e1.
    let f = only_fields shape at0 at2 (magic_bytes ++ shape.image) found head is in
    let end = whole_of (length found.1.left == 0) found w (Extra found.1.place) refl e1 in
    let read = (f.took small).0 in
    let closed = read ∙ ap (λ l. magic_bytes ++ shape.image ++ (length shape.words ∷ []) ++ control_bytes found.0.control ++ outputs_bytes found.0.outputs
    ++ flat_map task_bytes (zip found.0.logs found.0.checks) ++ tail_bytes found.0.tail ++ l) end.1
    ∙ append-nil (magic_bytes ++ shape.image ++ (length shape.words ∷ []) ++ control_bytes found.0.control ++ outputs_bytes found.0.outputs
    ++ flat_map task_bytes (zip found.0.logs found.0.checks) ++ tail_bytes found.0.tail) in
    subst (IsBody shape body) end.0 (record {
      well = f.well;
      is = subst (λ (s : Shape). body ≡ magic_bytes ++ s.image ++ (length s.words ∷ []) ++ control_bytes found.0.control ++ outputs_bytes found.0.outputs
          ++ flat_map task_bytes (zip found.0.logs found.0.checks) ++ tail_bytes found.0.tail) (sym f.well.same_shape) closed;
    }))

pub reads_dumps : (shape : Shape) (bytes : List ℕ) (w : WindowView) → AreBytes bytes → window_in shape bytes ≡ Ok w → IsWellFormed w shape × (bytes ≡ dump_bytes w)
unfolding window_in dump_bytes
reads_dumps shape bytes w small e =
    bound (IsWellFormed w shape × (bytes ≡ dump_bytes w)) (enclosed bytes) (behind_version shape) w e (λ within is e1.
    let i = tests_passed bytes within (is_dump bytes) (slice_index bytes 4 == 1) (bytes_eq (found_digest bytes) (closing_digest (before_digest bytes))) refl refl refl is in
    let b = body_of shape (before_digest bytes) w (All-take (λ byte. byte < 256) (length bytes - 32) bytes small) (magic_is bytes within i)
    (subst (λ l. behind_version shape l ≡ Ok w) (sym i.within_is) e1) in
    (b.well, sym (take-append-drop (length bytes - 32) bytes) ∙ ap (λ l. before_digest bytes ++ l) i.digest ∙ ap (λ l. l ++ closing_digest l) b.is))
