-- A dump is no longer than the bound of its window's shape.
use Rattle.std.proofs.Common.{◌≡◌, ℕ, suc, ◌+◌, ◌*◌, ◌≤◌, List, [], ◌∷◌, ◌++◌, length, map, ap, subst, arith}
use Rattle.std.specs.Prelude.{All, sum_by}
use Rattle.std.specs.List.{flat_map, zip}
use Rattle.std.proofs.lemmas.List.{length-append}
use Rattle.std.proofs.lemmas.List.Sums.{sum_by-cons}
use Rattle.std.proofs.lemmas.Slice.Zip.{length-zip}
use Rattle.std.proofs.Math.Nat.{mul-le-mul_left}
use Rattle.sha2.proofs.Facts256.{length-sha256}
use Rattle.tm_marker.specs.declared.entries.Switch.{Switch}
use Rattle.tm_marker.specs.declared.entries.DataEntry.{DataEntry}
use Rattle.tm_marker.specs.declared.entries.OutputEntry.{OutputEntry}
use Rattle.tm_marker.specs.declared.marker.Marker.{Marker}
use Rattle.tm_marker.specs.declared.shape.Caps.{Caps}
use Rattle.tm_marker.specs.declared.shape.Shape.{Shape}
use Rattle.tm_marker.specs.declared.tail.Tail.{Tail}
use Rattle.tm_marker.specs.Shape.{IsShape}
use Rattle.tm_ring.specs.Kept.{Kept, IsRing}
use Rattle.tm_check.specs.Checkpoint.{Checkpoint, KeptChecks, IsChecks, AreSized}
use Rattle.tm_log.specs.Window.{WindowView, IsWindow, task_bound, dump_bound}
use Rattle.tm_dump.specs.Fields.{long_bytes, marker_bytes, switch_bytes, output_bytes, entry_bytes, checkpoint_bytes}
use Rattle.tm_dump.specs.Dump.{magic_bytes, head_bytes, control_bytes, outputs_bytes, log_bytes, checks_bytes, task_bytes, stand_bytes, tail_bytes, body_bytes, closing_digest, dump_bytes}
use Rattle.tm_dump.specs.Laws.{AreBuffers, DumpsAreBounded}
use Rattle.tm_dump.proofs.Lengths.{length-long_bytes, length-marker_bytes, length-switch_bytes, length-output_bytes, length-entry_bytes, length-checkpoint_bytes, length-flat_same, length-flat_most}

most_head : (shape : Shape) → IsShape shape → length (head_bytes shape) ≡ 38
unfolding head_bytes
most_head shape s =
    omega (arith, length-append (magic_bytes ++ shape.image) (length shape.words ∷ []), length-append magic_bytes shape.image, s.image)

most_control : (ring : Kept Switch) → IsRing ring → length (control_bytes ring) ≤ 8 + 35 * ring.cap
unfolding control_bytes
most_control ring r =
    omega (
      arith,
      length-append (long_bytes ring.total) (flat_map switch_bytes ring.items),
      length-long_bytes ring.total,
      length-flat_same switch_bytes 35 length-switch_bytes ring.items,
      r.fit,
    )

most_outputs : (ring : Kept OutputEntry) → IsRing ring → length (outputs_bytes ring) ≤ 8 + 6 * ring.cap
unfolding outputs_bytes
most_outputs ring r =
    omega (
      arith,
      length-append (long_bytes ring.total) (flat_map output_bytes ring.items),
      length-long_bytes ring.total,
      length-flat_same output_bytes 6 length-output_bytes ring.items,
      r.fit,
    )

most_log : (ring : Kept DataEntry) → IsRing ring → length (log_bytes ring) ≤ 8 + 21 * ring.cap
unfolding log_bytes
most_log ring r =
    omega (
      arith,
      length-append (long_bytes ring.total) (flat_map entry_bytes ring.items),
      length-long_bytes ring.total,
      length-flat_most entry_bytes 21 length-entry_bytes ring.items,
      r.fit,
    )

-- what holds of all items holds of the first, and of those after it
first_of_all : {X : Type 0} (P : X → Type 0) (x : X) (xs : List X) → All P (x ∷ xs) → P x
first_of_all P x xs all = all 0 x (omega arith)

others_of_all : {X : Type 0} (P : X → Type 0) (x : X) (xs : List X) → All P (x ∷ xs) → All P xs
others_of_all P x xs all = λ k d below. all (suc k) d (omega arith)

most_bodies : (words : ℕ) (items : List Checkpoint) → AreSized words items →
    length (flat_map checkpoint_bytes items) ≤ (144 + 4 * words) * length items
most_bodies words [] sized = omega arith
most_bodies words (c ∷ items) sized =
    let here : length c.body.words ≡ words = first_of_all (λ (c : Checkpoint). length c.body.words ≡ words) c items sized in
    omega (
      arith,
      here,
      length-append (checkpoint_bytes c) (flat_map checkpoint_bytes items),
      length-checkpoint_bytes c,
      most_bodies words items (others_of_all (λ (c : Checkpoint). length c.body.words ≡ words) c items sized),
    )

most_checks : (checks : KeptChecks) → IsChecks checks → length (checks_bytes checks) ≤ 8 + (144 + 4 * checks.words) * checks.cap
unfolding checks_bytes
most_checks checks k =
    omega (
      arith,
      length-append (long_bytes checks.total) (flat_map checkpoint_bytes checks.items),
      length-long_bytes checks.total,
      most_bodies checks.words checks.items k.sized,
      mul-le-mul_left (144 + 4 * checks.words) k.fit,
    )

most_task : (log : Kept DataEntry) (checks : KeptChecks) → IsRing log → IsChecks checks →
    length (task_bytes (log, checks)) ≤ 16 + 21 * log.cap + (144 + 4 * checks.words) * checks.cap
unfolding task_bytes
most_task log checks r k = omega (arith, length-append (log_bytes log) (checks_bytes checks), most_log log r, most_checks checks k)

-- every task's buffers, where each has the capacities
most_tasks : (caps : Caps) (logs : List (Kept DataEntry)) (all : List KeptChecks) →
    All (λ (r : Kept DataEntry). r.cap ≡ caps.logs) logs → All (λ (k : KeptChecks). k.cap ≡ caps.checks) all →
    All IsRing logs → All IsChecks all →
    length (flat_map task_bytes (zip logs all)) ≤ sum_by (task_bound caps) (map (λ (k : KeptChecks). k.words) all)
most_tasks caps [] all log_caps check_caps rings sound = omega arith
most_tasks caps (log ∷ logs) [] log_caps check_caps rings sound = omega arith
most_tasks caps (log ∷ logs) (checks ∷ all) log_caps check_caps rings sound =
    let log_cap : log.cap ≡ caps.logs = first_of_all (λ (r : Kept DataEntry). r.cap ≡ caps.logs) log logs log_caps in
    let check_cap : checks.cap ≡ caps.checks = first_of_all (λ (k : KeptChecks). k.cap ≡ caps.checks) checks all check_caps in
    let e : (144 + 4 * checks.words) * checks.cap ≡ (144 + 4 * checks.words) * caps.checks = ap (λ n. (144 + 4 * checks.words) * n) check_cap in
    omega (
      arith,
      log_cap,
      e,
      length-append (task_bytes (log, checks)) (flat_map task_bytes (zip logs all)),
      most_task log checks (first_of_all IsRing log logs rings) (first_of_all IsChecks checks all sound),
      sum_by-cons (task_bound caps) checks.words (map (λ (k : KeptChecks). k.words) all),
      most_tasks caps logs all (others_of_all (λ (r : Kept DataEntry). r.cap ≡ caps.logs) log logs log_caps)
          (others_of_all (λ (k : KeptChecks). k.cap ≡ caps.checks) checks all check_caps)
          (others_of_all IsRing log logs rings) (others_of_all IsChecks checks all sound),
    )

length-stand_bytes : (task : Marker × ℕ) → length (stand_bytes task) ≡ 17
unfolding stand_bytes
length-stand_bytes task = omega (arith, length-append (marker_bytes task.0) (task.1 ∷ []), length-marker_bytes task.0)

most_tail : (tail : Tail) (tasks : ℕ) → length tail.at ≡ tasks → length (tail_bytes tail) ≤ 2 + 17 * tasks
unfolding tail_bytes
most_tail tail tasks at =
    omega (
      arith,
      length-append (tail.running ∷ tail.ended ∷ []) (flat_map stand_bytes (zip tail.at tail.state)),
      length-flat_same stand_bytes 17 length-stand_bytes (zip tail.at tail.state),
      length-zip tail.at tail.state,
      at,
    )

pub length-closing_digest : (body : List ℕ) → length (closing_digest body) ≡ 32
unfolding closing_digest
length-closing_digest body = length-sha256 body

length-five : (a b c d e : List ℕ) → length (a ++ b ++ c ++ d ++ e) ≡ length a + length b + length c + length d + length e
length-five a b c d e =
    omega (arith, length-append (a ++ b ++ c ++ d) e, length-append (a ++ b ++ c) d, length-append (a ++ b) c, length-append a b)

most_body : (w : WindowView) → IsWindow w → AreBuffers w → length (body_bytes w) + 32 ≤ dump_bound w.shape
unfolding body_bytes
most_body w i b =
    let tasks : length (flat_map task_bytes (zip w.logs w.checks)) ≤ sum_by (task_bound w.shape.caps) w.shape.words =
    subst (λ ws. length (flat_map task_bytes (zip w.logs w.checks)) ≤ sum_by (task_bound w.shape.caps) ws) i.check_words
    (most_tasks w.shape.caps w.logs w.checks i.log_caps i.check_caps b.logs b.checks) in
    omega (
      arith,
      tasks,
      length-five (head_bytes w.shape) (control_bytes w.control) (outputs_bytes w.outputs) (flat_map task_bytes (zip w.logs w.checks)) (tail_bytes w.tail),
      most_head w.shape i.shape,
      most_control w.control b.control,
      i.control,
      most_outputs w.outputs b.outputs,
      i.outputs,
      most_tail w.tail (length w.shape.words) i.at,
    )

pub dumps_bounded : DumpsAreBounded
unfolding dump_bytes
dumps_bounded w i b =
    omega (arith, length-append (body_bytes w) (closing_digest (body_bytes w)), length-closing_digest (body_bytes w), most_body w i b)
