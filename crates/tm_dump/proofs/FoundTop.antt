-- The dump of a well-formed window is read, and gives that window.
use Rattle.std.proofs.Common.{◌≡◌, ℕ, ◌+◌, ◌-◌, ◌<◌, ◌≤◌, ◌^◌, List, [], ◌∷◌, ◌++◌, length, take, drop, map, refl, sym, ap, ◌∙◌, subst, arith, zero, suc, Bool, true, false, not, ◌&&◌, ◌||◌, ◌==◌, nat_lt, nat_le, if◌then◌else◌, inl, inr}
use Rattle.std.specs.Prelude.{Ok, Err, Option, Some, None, slice_get, slice_index, unwrap_or, All}
use Rattle.std.specs.List.{flat_map, zip, list_all}
use Rattle.std.specs.Str.{bytes_eq}
use Rattle.std.proofs.lemmas.Bool.{and_from, cases_eq, ne_eqb, eq-eqb, le-ltb, le-leb}
use Rattle.std.proofs.lemmas.Bool.Decides.{nat_tests}
use Rattle.std.proofs.lemmas.List.{append_assoc, append-nil, length-append, take_at}
use Rattle.std.proofs.lemmas.List.Elements.{All-head, All-tail}
use Rattle.std.proofs.lemmas.Option.{slice_get_within}
use Rattle.sha2.proofs.Facts256.{length-sha256}
use Rattle.tm_marker.specs.declared.marker.Marker.{Marker}
use Rattle.tm_marker.specs.declared.entries.Switch.{Switch}
use Rattle.tm_marker.specs.declared.entries.DataEntry.{DataEntry}
use Rattle.tm_marker.specs.declared.shape.Caps.{Caps}
use Rattle.tm_marker.specs.declared.shape.Shape.{Shape}
use Rattle.tm_ring.specs.Kept.{Kept, kept}
use Rattle.tm_check.specs.Checkpoint.{Checkpoint, KeptChecks, kept_checks, IsChecks}
use Rattle.tm_log.specs.Window.{WindowView, log_of, checks_of, IsWindow}
use Rattle.tm_log.specs.WellFormed.{IsSide, IsEntry, IsNext, AreChained, IsWellFormed, IsFilled, IsCheckpoint, IsMarker, ended_by}
use Rattle.tm_dump.specs.declared.fault.DumpFault.TheVariants.{Magic, Version, Digest, OtherImage, Field, Extra}
use Rattle.tm_dump.specs.Laws.{AreBuffers}
use Rattle.tm_dump.specs.Widths.{IsWord, FitsSwitch, FitsData, FitsCheckpoint, Fits}
use Rattle.tm_dump.specs.Cursor.{Cursor, byte_in}
use Rattle.tm_dump.specs.Fields.{switch_bytes, output_bytes}
use Rattle.tm_dump.specs.Dump.{head_bytes, control_bytes, outputs_bytes, task_bytes, tail_bytes, body_bytes, closing_digest, dump_bytes}
use Rattle.tm_dump.specs.Reading.{ring_in, follows, switch_in, output_in, is_below_on, is_reached, is_state, fields_in, whole, inside, behind_version, enclosed, window_in, before_digest, found_digest, is_dump}
use Rattle.tm_dump.proofs.Wholes.{AllFrom}
use Rattle.tm_dump.proofs.Found.{FoundAt, then_is, four, found_byte, by_rule, GoodSwitch, found_switch, GoodOutput, found_output, GoodData, GoodCheckpoint}
use Rattle.tm_dump.proofs.FoundLists.{found_ring, GoodTask, GoodTasks, found_tasks, GoodStand, GoodStands, found_tail}

module _ {X : Type 0} where
  all_at : (P : X → Type 0) (xs : List X) (i : ℕ) (x : X) → All P xs → slice_get xs i ≡ Some x → P x
  all_at P [] i x all there = cc there
  all_at P (y ∷ xs) zero x all there = let same : y ≡ x = cc there in subst P same (All-head P y xs all)
  all_at P (y ∷ xs) (suc i) x all there = all_at P xs i x (All-tail P y xs all) there

  all_from : (P : X → Type 0) (before : Option X) (xs : List X) → All P xs → AllFrom (λ _. P) before xs
  all_from P before [] all = tt
  all_from P before (x ∷ xs) all = (All-head P x xs all, all_from P (Some x) xs (All-tail P x xs all))

map_at : {X Y : Type 0} (f : X → Y) (xs : List X) (i : ℕ) (x : X) → slice_get xs i ≡ Some x → slice_get (map f xs) i ≡ Some (f x)
map_at f [] i x there = cc there
map_at f (y ∷ xs) zero x there = let same : y ≡ x = cc there in ap (λ z. Some (f z)) same
map_at f (y ∷ xs) (suc i) x there = map_at f xs i x there

some_same : {X : Type 0} (x y : X) → Some x ≡ Some y → x ≡ y
some_same x y e = cc e

-- what is first among these follows the entry before
abbrev FollowsFirst : Option Switch → List Switch → Type 0
FollowsFirst before [] = Unit {0}
FollowsFirst before (e ∷ es) = follows before e.from ≡ true

first_follows : (es : List Switch) → FollowsFirst None es
first_follows [] = tt
first_follows (e ∷ es) = refl

follows_rule : (before after : Switch) → IsNext before after → follows (Some before) after.from ≡ true
follows_rule before after next =
    let from : (after.from == before.to) ≡ true = (let f = next.from in grind (arith, nat_tests, f)) in
    let on : (ended_by before.kind == 0) ≡ true = (let g = next.goes_on in grind (arith, nat_tests, g)) in
    and_from (after.from == before.to) (ended_by before.kind == 0) from on

good_switch : (w : WindowView) (before : Option Switch) (e : Switch) → IsEntry w e → FitsSwitch e → follows before e.from ≡ true → GoodSwitch (length w.shape.words) before e
good_switch w before e i f on = record {
  from_there = i.from.there;
  follows_on = on;
  idle = i.idle;
  none = i.nobody;
  from_marker = i.from.marker;
  from_zero = i.from.nobody;
  from_fits = f.from_at;
  to_there = i.to.there;
  goes = i.goes;
  to_marker = i.to.marker;
  to_zero = i.to.nobody;
  to_fits = f.to_at;
}

good_switches : (w : WindowView) (before : Option Switch) (es : List Switch) → All (IsEntry w) es → All FitsSwitch es → AreChained es → FollowsFirst before es →
    AllFrom (GoodSwitch (length w.shape.words)) before es
good_switches w before [] each fits chain first = tt
good_switches w before (e ∷ []) each fits chain first = (good_switch w before e (All-head (IsEntry w) e [] each) (All-head FitsSwitch e [] fits) first, tt)
good_switches w before (e ∷ after ∷ rest) each fits chain first = (
  good_switch w before e (All-head (IsEntry w) e (after ∷ rest) each) (All-head FitsSwitch e (after ∷ rest) fits) first,
  good_switches w (Some e) (after ∷ rest) (All-tail (IsEntry w) e (after ∷ rest) each) (All-tail FitsSwitch e (after ∷ rest) fits) chain.1 (follows_rule e after chain.0),
)

or_right : (b : Bool) → (b || true) ≡ true
or_right true = refl
or_right false = refl

below_rule : (w : WindowView) (task who : ℕ) (at : Marker) → IsSide w who at → task < length w.shape.words → is_below_on task (checks_of w task).total who at ≡ true
below_rule w task who at side within = elim (cases_eq who task) [
  | inl same ↦
      let below : at.epoch < (checks_of w task).total = subst (λ t. at.epoch < (checks_of w t).total) same (side.reached (subst (λ t. t < length w.shape.words) (sym same) within)) in
      let yes : nat_lt at.epoch (checks_of w task).total ≡ true = grind (arith, nat_tests, below) in
      ap (λ b. not (who == task) || b) yes ∙ or_right (not (who == task))
  | inr other ↦ ap (λ b. not b || nat_lt at.epoch (checks_of w task).total) (ne_eqb who task other)
]

reached_rule : (w : WindowView) (task : ℕ) (es : List Switch) → All (IsEntry w) es → task < length w.shape.words → list_all (is_reached task (checks_of w task).total) es ≡ true
reached_rule w task [] each within = refl
reached_rule w task (e ∷ es) each within =
    let head = All-head (IsEntry w) e es each in
    and_from (is_reached task (checks_of w task).total e) (list_all (is_reached task (checks_of w task).total) es)
    (and_from (is_below_on task (checks_of w task).total e.from e.from_at) (is_below_on task (checks_of w task).total e.to e.to_at)
    (below_rule w task e.from e.from_at head.from within) (below_rule w task e.to e.to_at head.to within))
    (reached_rule w task es (All-tail (IsEntry w) e es each) within)

good_checkpoint : (entries switches size : ℕ) (c : Checkpoint) → entries < 2 ^ 53 → switches < 2 ^ 53 → IsCheckpoint entries switches c → FitsCheckpoint c → length c.body.words ≡ size →
    GoodCheckpoint size entries switches c
good_checkpoint entries switches size c some few i f sized = record {
  checkpoint = i;
  pc = f.pc;
  registers = f.registers;
  regs = f.regs;
  data_fits = omega (arith, i.data_number, some);
  control_fits = omega (arith, i.control_number, few);
  sized = sized;
  words = f.words;
}

good_task : (w : WindowView) (shape : Shape) (i size : ℕ) (log : Kept DataEntry) (k : KeptChecks) → IsWindow w → AreBuffers w → Fits w → IsWellFormed w shape →
    slice_get w.shape.words i ≡ Some size → slice_get w.logs i ≡ Some log → slice_get w.checks i ≡ Some k → GoodTask w.shape.caps w.control i size log k
good_task w shape i size log k window buffers fits well size_is log_is k_is =
    let within : i < length w.shape.words = slice_get_within w.shape.words i size size_is in
    let t = well.tasks i within in
    let log_same : log_of w i ≡ log = ap (λ o. unwrap_or o (kept [] 0 0)) log_is in
    let k_same : checks_of w i ≡ k = ap (λ o. unwrap_or o (kept_checks [] 0 0 0)) k_is in
    let log_filled : IsFilled (length log.items) log.total log.cap = subst (λ (l : Kept DataEntry). IsFilled (length l.items) l.total l.cap) log_same t.log in
    let filled : IsFilled (length k.items) k.total k.cap = subst (λ (c : KeptChecks). IsFilled (length c.items) c.total c.cap) k_same t.checks in
    let statuses : All (λ (entry : DataEntry). entry.status ≤ 8) log.items = subst (λ (l : Kept DataEntry). All (λ (entry : DataEntry). entry.status ≤ 8) l.items) log_same t.statuses in
    let datas = all_at (λ (ring : Kept DataEntry). All FitsData ring.items) w.logs i log fits.logs log_is in
    let fitting = all_at (λ (c : KeptChecks). All FitsCheckpoint c.items) w.checks i k fits.checks k_is in
    let sound = all_at IsChecks w.checks i k buffers.checks k_is in
    let bodies : All (IsCheckpoint log.total w.control.total) k.items =
    subst (λ (c : KeptChecks). All (IsCheckpoint log.total w.control.total) c.items) k_same
    (subst (λ (l : Kept DataEntry). All (IsCheckpoint l.total w.control.total) (checks_of w i).items) log_same t.bodies) in
    let words_is : k.words ≡ size = some_same k.words size (sym (map_at (λ (c : KeptChecks). c.words) w.checks i k k_is) ∙ ap (λ ws. slice_get ws i) window.check_words ∙ size_is) in
    let entries : All GoodData log.items = λ n d below. record { status = statuses n d below; four = (datas n d below).four; words = (datas n d below).words } in
    record {
      log_cap = all_at (λ (ring : Kept DataEntry). ring.cap ≡ w.shape.caps.logs) w.logs i log window.log_caps log_is;
      log_filled = log_filled;
      entries = all_from GoodData None log.items entries;
      check_cap = all_at (λ (c : KeptChecks). c.cap ≡ w.shape.caps.checks) w.checks i k window.check_caps k_is;
      check_words = words_is;
      filled = filled;
      booted = subst (λ (c : KeptChecks). 0 < c.total) k_same t.booted;
      reached = subst (λ (c : KeptChecks). list_all (is_reached i c.total) w.control.items ≡ true) k_same (reached_rule w i w.control.items well.entries within);
      bodies = λ n d below. good_checkpoint log.total w.control.total size _ log_filled.counted well.control.counted (bodies n d below) (fitting n d below) (sound.sized n d below ∙ words_is);
    }

good_tasks : (caps : Caps) (control : Kept Switch) (start : ℕ) (sizes : List ℕ) (logs : List (Kept DataEntry)) (checks : List KeptChecks) →
    length logs ≡ length sizes → length checks ≡ length sizes →
    ((i size : ℕ) (log : Kept DataEntry) (k : KeptChecks) → slice_get sizes i ≡ Some size → slice_get logs i ≡ Some log → slice_get checks i ≡ Some k → GoodTask caps control (start + i) size log k) →
    GoodTasks caps control start sizes logs checks
good_tasks caps control start [] [] [] l c each = tt
good_tasks caps control start [] [] (k ∷ checks) l c each = absurd (omega (arith, c))
good_tasks caps control start [] (log ∷ logs) checks l c each = absurd (omega (arith, l))
good_tasks caps control start (size ∷ sizes) [] checks l c each = absurd (omega (arith, l))
good_tasks caps control start (size ∷ sizes) (log ∷ logs) [] l c each = absurd (omega (arith, c))
good_tasks caps control start (size ∷ sizes) (log ∷ logs) (k ∷ checks) l c each =
    let here : start + 0 ≡ start = omega arith in (
      subst (λ n. GoodTask caps control n size log k) here (each 0 size log k refl refl refl),
      good_tasks caps control (start + 1) sizes logs checks (omega (arith, l)) (omega (arith, c)) (λ i size' log' k' a b d.
          let there : start + suc i ≡ start + 1 + i = omega arith in
          subst (λ n. GoodTask caps control n size' log' k') there (each (suc i) size' log' k' a b d)),
    )

state_by : (b : Bool) (running task n : ℕ) → (running == task) ≡ b → n ≤ 3 → (n ≡ 2 → running ≡ task) → (running ≡ task → n ≡ 2) → (nat_le n 3 && (if b then n == 2 else not (n == 2))) ≡ true
state_by true running task n is small runs is_run =
    let few : nat_le n 3 ≡ true = grind (arith, nat_tests, small) in
    let two = is_run (grind (arith, nat_tests, is)) in
    let yes : (n == 2) ≡ true = grind (arith, nat_tests, two) in
    and_from (nat_le n 3) (n == 2) few yes
state_by false running task n is small runs is_run =
    let few : nat_le n 3 ≡ true = grind (arith, nat_tests, small) in
    and_from (nat_le n 3) (not (n == 2)) few (ap not (ne_eqb n 2 (λ two. let same = runs two in absurd (grind (arith, nat_tests, is, same)))))

good_stand : (w : WindowView) (shape : Shape) (i : ℕ) (k : KeptChecks) (m : Marker) (state : ℕ) → Fits w → IsWellFormed w shape → i < length w.shape.words →
    slice_get w.checks i ≡ Some k → slice_get w.tail.at i ≡ Some m → slice_get w.tail.state i ≡ Some state → GoodStand w.tail.running i k.total m state
good_stand w shape i k m state fits well within k_is m_is state_is =
    let t = well.tasks i within in
    let k_same : checks_of w i ≡ k = ap (λ o. unwrap_or o (kept_checks [] 0 0 0)) k_is in
    let at_same : t.at ≡ m = some_same t.at m (sym t.at_is ∙ m_is) in
    let state_same : t.state ≡ state = some_same t.state state (sym t.state_is ∙ state_is) in
    let filled : IsFilled (length k.items) k.total k.cap = subst (λ (c : KeptChecks). IsFilled (length c.items) c.total c.cap) k_same t.checks in
    let epoch : t.at.epoch ≡ k.total - 1 = subst (λ (c : KeptChecks). t.at.epoch ≡ c.total - 1) k_same t.epoch in
    record {
      epoch = subst (λ (a : Marker). a.epoch ≡ k.total - 1) at_same epoch;
      counted = filled.counted;
      marker = subst IsMarker at_same t.marker;
      pc = all_at (λ (a : Marker). IsWord a.pc) w.tail.at i m fits.at m_is;
      state_is = subst (λ n. is_state w.tail.running i n ≡ true) state_same (state_by (w.tail.running == i) w.tail.running i t.state refl t.state_number t.runs t.running);
    }

good_stands : (running start : ℕ) (checks : List KeptChecks) (ats : List Marker) (states : List ℕ) → length ats ≡ length checks → length states ≡ length checks →
    ((i : ℕ) (k : KeptChecks) (m : Marker) (state : ℕ) → slice_get checks i ≡ Some k → slice_get ats i ≡ Some m → slice_get states i ≡ Some state → GoodStand running (start + i) k.total m state) →
    GoodStands running start checks ats states
good_stands running start [] [] [] l c each = tt
good_stands running start [] [] (s ∷ states) l c each = absurd (omega (arith, c))
good_stands running start [] (m ∷ ats) states l c each = absurd (omega (arith, l))
good_stands running start (k ∷ checks) [] states l c each = absurd (omega (arith, l))
good_stands running start (k ∷ checks) (m ∷ ats) [] l c each = absurd (omega (arith, c))
good_stands running start (k ∷ checks) (m ∷ ats) (s ∷ states) l c each =
    let here : start + 0 ≡ start = omega arith in (
      subst (λ n. GoodStand running n k.total m s) here (each 0 k m s refl refl refl),
      good_stands running (start + 1) checks ats states (omega (arith, l)) (omega (arith, c)) (λ i k' m' s' a b d.
          let there : start + suc i ≡ start + 1 + i = omega arith in
          subst (λ n. GoodStand running n k'.total m' s') there (each (suc i) k' m' s' a b d)),
    )

five : (a b c d e rest : List ℕ) → a ++ b ++ c ++ d ++ e ++ rest ≡ a ++ (b ++ (c ++ (d ++ (e ++ rest))))
five a b c d e rest = append_assoc (a ++ b ++ c ++ d) e rest ∙ four a b c d (e ++ rest)

found_fields : (w : WindowView) (shape : Shape) (at : Cursor) (rest : List ℕ) → IsWindow w → AreBuffers w → Fits w → IsWellFormed w shape →
    at.left ≡ (length w.shape.words ∷ []) ++ control_bytes w.control ++ outputs_bytes w.outputs ++ flat_map task_bytes (zip w.logs w.checks) ++ tail_bytes w.tail ++ rest →
    FoundAt (fields_in w.shape at) w rest
unfolding control_bytes outputs_bytes
found_fields w shape at rest window buffers fits well here =
    let T = length w.shape.words in
    let r5 = tail_bytes w.tail ++ rest in
    let r4 = flat_map task_bytes (zip w.logs w.checks) ++ r5 in
    let r3 = outputs_bytes w.outputs ++ r4 in
    let r2 = control_bytes w.control ++ r3 in
    let n = by_rule at (λ n. n == T) (byte_in at) T r2 (eq-eqb T T refl)
    (found_byte at T r2 (here ∙ five (T ∷ []) (control_bytes w.control) (outputs_bytes w.outputs) (flat_map task_bytes (zip w.logs w.checks)) (tail_bytes w.tail) rest)) in
    let c = subst (λ cap. FoundAt (ring_in (switch_in T) cap n.after) w.control r3) window.control
    (found_ring switch_bytes (GoodSwitch T) (switch_in T) (found_switch T) w.control n.after r3 well.control
    (good_switches w None w.control.items well.entries fits.control well.chained (first_follows w.control.items)) n.left) in
    let outs : All (GoodOutput T) w.outputs.items = λ i d below. record { output = well.outputs i d below; value = fits.outputs i d below } in
    let o = subst (λ cap. FoundAt (ring_in (output_in T) cap c.after) w.outputs r4) window.outputs
    (found_ring output_bytes (λ _. GoodOutput T) (output_in T) (found_output T) w.outputs c.after r4 well.output_number (all_from (GoodOutput T) None w.outputs.items outs) c.left) in
    let tasks = good_tasks w.shape.caps w.control 0 w.shape.words w.logs w.checks window.logs window.checks (λ i size log k a b d.
    let first : i ≡ 0 + i = omega arith in
    subst (λ n. GoodTask w.shape.caps w.control n size log k) first (good_task w shape i size log k window buffers fits well a b d)) in
    let t = found_tasks w.shape.caps w.control T 0 w.shape.words w.logs w.checks o.after r5 tasks o.left in
    let stands = good_stands w.tail.running 0 w.checks w.tail.at w.tail.state (window.at ∙ sym window.checks) (window.state ∙ sym window.checks) (λ i k m state a b d.
    let first : i ≡ 0 + i = omega arith in
    let within : i < T = omega (arith, slice_get_within w.checks i k a, window.checks) in
    subst (λ n. GoodStand w.tail.running n k.total m state) first (good_stand w shape i k m state fits well within a b d)) in
    let l = found_tail w.control.items w.checks w.tail t.after rest well.running well.ended stands t.left in
    record {
      after = l.after;
      is = then_is _ _ (T, n.after) (Ok (w, l.after)) n.is (then_is _ _ (w.control, c.after) (Ok (w, l.after)) c.is (then_is _ _ (w.outputs, o.after) (Ok (w, l.after)) o.is
          (then_is _ _ ((w.logs, w.checks), t.after) (Ok (w, l.after)) t.is (then_is _ _ (w.tail, l.after) (Ok (w, l.after)) l.is refl))));
      left = l.left;
    }

bytes_same : (xs : List ℕ) → bytes_eq xs xs ≡ true
bytes_same [] = refl
bytes_same (x ∷ xs) = and_from (x == x) (bytes_eq xs xs) (eq-eqb x x refl) (bytes_same xs)

shifted : (a b c d e f : List ℕ) → a ++ b ++ c ++ d ++ e ++ f ≡ a ++ (b ++ c ++ d ++ e ++ f)
shifted [] b c d e f = refl
shifted (x ∷ a) b c d e f = ap (λ l. x ∷ l) (shifted a b c d e f)

drop_front : (p q : List ℕ) (n : ℕ) → length p ≡ n → drop n (p ++ q) ≡ q
drop_front [] q zero same = refl
drop_front [] q (suc n) same = absurd (omega (arith, same))
drop_front (x ∷ p) q zero same = absurd (omega (arith, same))
drop_front (x ∷ p) q (suc n) same = drop_front p q n (omega (arith, same))

found_inside : (w : WindowView) (shape : Shape) (bytes : List ℕ) → IsWindow w → AreBuffers w → Fits w → IsWellFormed w shape →
    bytes ≡ (length w.shape.words ∷ []) ++ control_bytes w.control ++ outputs_bytes w.outputs ++ flat_map task_bytes (zip w.logs w.checks) ++ tail_bytes w.tail →
    inside w.shape bytes ≡ Ok w
found_inside w shape bytes window buffers fits well here =
    let at : Cursor = record { place = 37; left = bytes } in
    let f = found_fields w shape at [] window buffers fits well (here ∙ sym (append-nil ((length w.shape.words ∷ []) ++ control_bytes w.control ++ outputs_bytes w.outputs ++ flat_map task_bytes (zip w.logs w.checks) ++ tail_bytes w.tail))) in
    then_is (fields_in w.shape at) whole (w, f.after) (Ok w) f.is (ap (λ l. if length l == 0 then Ok w else Err (Extra f.after.place)) f.left)

behind_passes : (shape : Shape) (bytes : List ℕ) (w : WindowView) (a b : Bool) → a ≡ false → b ≡ true → inside shape (drop 32 bytes) ≡ Ok w →
    (if a then Err (Field 5) else (if b then inside shape (drop 32 bytes) else Err (OtherImage (take 32 bytes) shape.image))) ≡ Ok w
behind_passes shape bytes w true b is_a is_b is = cc is_a
behind_passes shape bytes w false true is_a is_b is = is
behind_passes shape bytes w false false is_a is_b is = cc is_b

found_behind : (w : WindowView) (shape : Shape) (rest : List ℕ) → length w.shape.image ≡ 32 → inside w.shape rest ≡ Ok w → behind_version w.shape (w.shape.image ++ rest) ≡ Ok w
found_behind w shape rest long is =
    let bytes = w.shape.image ++ rest in
    let enough : nat_lt (length bytes) 32 ≡ false = (let n = length-append w.shape.image rest in let m : 32 ≤ length bytes = omega (arith, n, long) in le-ltb (length bytes) 32 m) in
    let image : take 32 bytes ≡ w.shape.image = take_at w.shape.image rest 32 long in
    behind_passes w.shape bytes w (nat_lt (length bytes) 32) (bytes_eq (take 32 bytes) w.shape.image) enough
    (ap (λ l. bytes_eq l w.shape.image) image ∙ bytes_same w.shape.image)
    (ap (λ l. inside w.shape l) (drop_front w.shape.image rest 32 long) ∙ is)

enclosed_passes : (bytes within : List ℕ) (a b c : Bool) → a ≡ true → b ≡ true → c ≡ true → drop 5 (before_digest bytes) ≡ within →
    (if not a then Err Magic else (if not b then Err (Version (slice_index bytes 4)) else (if c then Ok (drop 5 (before_digest bytes)) else Err (Digest (found_digest bytes) (closing_digest (before_digest bytes)))))) ≡ Ok within
enclosed_passes bytes within false b c is_a is_b is_c is = cc is_a
enclosed_passes bytes within true false c is_a is_b is_c is = cc is_b
enclosed_passes bytes within true true false is_a is_b is_c is = cc is_c
enclosed_passes bytes within true true true is_a is_b is_c is = ap (λ l. Ok l) is

length-closing_digest : (body : List ℕ) → length (closing_digest body) ≡ 32
unfolding closing_digest
length-closing_digest body = length-sha256 body

found_enclosed : (inner : List ℕ) → 32 ≤ length inner → enclosed ((0x54 ∷ 0x4d ∷ 0x44 ∷ 0x50 ∷ 1 ∷ inner) ++ closing_digest (0x54 ∷ 0x4d ∷ 0x44 ∷ 0x50 ∷ 1 ∷ inner)) ≡ Ok inner
found_enclosed inner long =
    let B = 0x54 ∷ 0x4d ∷ 0x44 ∷ 0x50 ∷ 1 ∷ inner in
    let D = closing_digest B in
    let cut : length (B ++ D) - 32 ≡ length B = omega (arith, length-append B D, length-closing_digest B) in
    let before : before_digest (B ++ D) ≡ B = ap (λ n. take n (B ++ D)) cut ∙ take_at B D (length B) refl in
    let found : found_digest (B ++ D) ≡ D = ap (λ n. drop n (B ++ D)) cut ∙ drop_front B D (length B) refl in
    let enough : 37 ≤ length (B ++ D) = omega (arith, length-append B D, length-closing_digest B, long) in
    enclosed_passes (B ++ D) inner (is_dump (B ++ D)) (slice_index (B ++ D) 4 == 1) (bytes_eq (found_digest (B ++ D)) (closing_digest (before_digest (B ++ D))))
    (and_from (nat_le 37 (length (B ++ D))) (bytes_eq (take 4 (B ++ D)) (0x54 ∷ 0x4d ∷ 0x44 ∷ 0x50 ∷ [])) (le-leb 37 (length (B ++ D)) enough) refl)
    refl
    (ap (λ l. bytes_eq l (closing_digest (before_digest (B ++ D)))) found ∙ ap (λ l. bytes_eq D (closing_digest l)) before ∙ bytes_same D)
    (ap (λ l. drop 5 l) before)

dump_read : (w : WindowView) (shape : Shape) → IsWindow w → AreBuffers w → Fits w → IsWellFormed w shape → window_in w.shape (dump_bytes w) ≡ Ok w
unfolding window_in dump_bytes body_bytes head_bytes
dump_read w shape window buffers fits well =
    let T = length w.shape.words ∷ [] in
    let c = control_bytes w.control in
    let o = outputs_bytes w.outputs in
    let t = flat_map task_bytes (zip w.logs w.checks) in
    let l = tail_bytes w.tail in
    let inner = w.shape.image ++ T ++ c ++ o ++ t ++ l in
    let same : inner ≡ w.shape.image ++ (T ++ c ++ o ++ t ++ l) = shifted w.shape.image T c o t l in
    let long : 32 ≤ length inner = omega (arith, ap (λ x. length x) same, length-append w.shape.image (T ++ c ++ o ++ t ++ l), window.shape.image) in
    then_is (enclosed ((0x54 ∷ 0x4d ∷ 0x44 ∷ 0x50 ∷ 1 ∷ inner) ++ closing_digest (0x54 ∷ 0x4d ∷ 0x44 ∷ 0x50 ∷ 1 ∷ inner))) (behind_version w.shape) inner (Ok w) (found_enclosed inner long)
    (ap (λ x. behind_version w.shape x) same ∙ found_behind w shape (T ++ c ++ o ++ t ++ l) window.shape.image (found_inside w shape (T ++ c ++ o ++ t ++ l) window buffers fits well refl))

pub dumps_read : (shape : Shape) (w : WindowView) → IsWindow w → AreBuffers w → Fits w → IsWellFormed w shape → window_in shape (dump_bytes w) ≡ Ok w
dumps_read shape w window buffers fits well = subst (λ s. window_in s (dump_bytes w) ≡ Ok w) well.same_shape (dump_read w shape window buffers fits well)
