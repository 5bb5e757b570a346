-- What the window of a run tells of the lists of the run: the last items, by their numbers in the whole lists.
use Rattle.std.proofs.Common.{◌≡◌, ℕ, zero, suc, ◌+◌, ◌-◌, ◌<◌, ◌≤◌, List, [], ◌∷◌, length, drop, refl, ap, ◌∙◌, arith, None, slice_get, unwrap_or, length-drop}
use Rattle.std.proofs.lemmas.List.{drop-drop, length-map}
use Rattle.std.proofs.lemmas.Bool.{lt-ltb, le-ltb}
use Rattle.tm_task.specs.Standing.{marker_of}
use Rattle.tm_ring.specs.Kept.{kept, first_of, item_of}
use Rattle.tm_check.specs.Checkpoint.{Checkpoint, kept_checks, first_epoch, check_of}
use Rattle.tm_log.specs.Window.{log_of, checks_of, zero_marker}
use Rattle.tm_image.specs.Image.{ImageView, words_of}
use Rattle.tm_system.specs.History.{History}
use Rattle.tm_system.specs.Marks.{standing_at}
use Rattle.tm_system.specs.Controls.{controls, entries, checkpoints}
use Rattle.tm_system.specs.Accepted.{IsPointKept}
use Rattle.tm_system.proofs.Below.{slice_get-below}
use Rattle.tm_system.specs.WindowOf.{last_items, last_checks, window_of}
use Rattle.tm_log.specs.Points.{entries_from, resumed_in, tail_marker}
use Rattle.tm_fidelity.specs.Finding.{MarkersAreOfPoints}
use Rattle.tm_fidelity.proofs.Points.{stood_at}

-- an item of the rest of a list
slice_get-drop : {X : Type 0} (n : ℕ) (xs : List X) (i : ℕ) → slice_get (drop n xs) i ≡ slice_get xs (n + i)
slice_get-drop zero xs i = ap (slice_get xs) (let e : i ≡ 0 + i = omega arith in e)
slice_get-drop (suc n) [] i = refl
slice_get-drop (suc n) (x ∷ xs) i = slice_get-drop n xs i ∙ ap (slice_get (x ∷ xs)) (let e : suc (n + i) ≡ suc n + i = omega arith in e)

-- the number of the first of the last items
pub first_is : {X : Type 0} (cap : ℕ) (all : List X) → first_of (last_items cap all) ≡ length all - cap
first_is cap all = omega (arith, length-drop (length all - cap) all)

first_epoch_is : (cap words : ℕ) (all : List Checkpoint) → first_epoch (last_checks cap words all) ≡ length all - cap
first_epoch_is cap words all = omega (arith, length-drop (length all - cap) all)

-- the kept items from a number on are those of the whole list
pub rest_is : {X : Type 0} (cap : ℕ) (all : List X) (number : ℕ) → length all ≤ number + cap →
    drop (number - first_of (last_items cap all)) (last_items cap all).items ≡ drop number all
rest_is cap all number kept =
    let first = first_is cap all in
    drop-drop (number - first_of (last_items cap all)) (length all - cap) all
    ∙ ap (λ n. drop n all) (let e : length all - cap + (number - first_of (last_items cap all)) ≡ number = omega (arith, first, kept) in e)

-- an item that is kept is that of the whole list
pub item_kept : {X : Type 0} (cap : ℕ) (all : List X) (number : ℕ) → length all ≤ number + cap →
    item_of (last_items cap all) number ≡ slice_get all number
item_kept cap all number kept =
    let first = first_is cap all in
    let not_before : first_of (last_items cap all) ≤ number = omega (arith, first, kept) in
    rw (le-ltb number (first_of (last_items cap all)) not_before)
    (slice_get-drop (length all - cap) all (number - first_of (last_items cap all))
    ∙ ap (slice_get all) (let e : length all - cap + (number - first_of (last_items cap all)) ≡ number = omega (arith, first, kept) in e))

-- a checkpoint that is kept is that of the whole list, and one that was dropped is not there
pub check_kept : (cap words : ℕ) (all : List Checkpoint) (epoch : ℕ) → length all ≤ epoch + cap →
    check_of (last_checks cap words all) epoch ≡ slice_get all epoch
check_kept cap words all epoch kept =
    let first = first_epoch_is cap words all in
    let not_before : first_epoch (last_checks cap words all) ≤ epoch = omega (arith, first, kept) in
    rw (le-ltb epoch (first_epoch (last_checks cap words all)) not_before)
    (slice_get-drop (length all - cap) all (epoch - first_epoch (last_checks cap words all))
    ∙ ap (slice_get all) (let e : length all - cap + (epoch - first_epoch (last_checks cap words all)) ≡ epoch = omega (arith, first, kept) in e))

pub check_dropped : (cap words : ℕ) (all : List Checkpoint) (epoch : ℕ) → epoch + cap < length all →
    check_of (last_checks cap words all) epoch ≡ None
check_dropped cap words all epoch dropped =
    let first = first_epoch_is cap words all in
    let before : epoch < first_epoch (last_checks cap words all) = omega (arith, first, dropped) in
    rw (lt-ltb epoch (first_epoch (last_checks cap words all)) before) refl

-- a window has as many tasks as the image
pub tasks_are : (image : ImageView) (h : History) → length (window_of image h).shape.words ≡ length image.loads
tasks_are image h = length-map image.loads _

-- a task's buffers in the window of a run
pub log_is : (image : ImageView) (h : History) (t : ℕ) → t < length image.loads →
    log_of (window_of image h) t ≡ last_items image.caps.logs (entries t h)
log_is image h t below =
    ap (λ o. unwrap_or o (kept [] 0 0)) (slice_get-below (length image.loads) (λ task. last_items image.caps.logs (entries task h)) t below)

pub checks_is : (image : ImageView) (h : History) (t : ℕ) → t < length image.loads →
    checks_of (window_of image h) t ≡ last_checks image.caps.checks (length (words_of image t)) (checkpoints image t h)
checks_is image h t below =
    ap (λ o. unwrap_or o (kept_checks [] 0 0 0))
    (slice_get-below (length image.loads) (λ task. last_checks image.caps.checks (length (words_of image task)) (checkpoints image task h)) t below)

pub tail_is : (image : ImageView) (h : History) (t : ℕ) → t < length image.loads →
    tail_marker (window_of image h) t ≡ marker_of (standing_at image h t)
tail_is image h t below =
    ap (λ o. unwrap_or o zero_marker) (slice_get-below (length image.loads) (λ task. marker_of (standing_at image h task)) t below)

-- the entries from a point's own on, where it is kept
pub point_kept : (image : ImageView) (h : History) (point : ℕ) → IsPointKept image h point →
    length (controls image h) ≤ point - 1 + image.caps.control
point_kept image h zero kept = omega (arith, kept)
point_kept image h (suc number) kept = omega (arith, kept)

pub entries_are : (image : ImageView) (h : History) (point : ℕ) → IsPointKept image h point →
    entries_from (window_of image h).control (point - 1) ≡ drop (point - 1) (controls image h)
entries_are image h point kept = rest_is image.caps.control (controls image h) (point - 1) (point_kept image h point kept)

-- a task's marker at a kept point, read from the window, is the one that it had
pub markers_are_of_points : MarkersAreOfPoints
markers_are_of_points image h point t i r reached kept below =
    ap (λ l. unwrap_or (resumed_in l t) (tail_marker (window_of image h) t)) (entries_are image h point kept)
    ∙ ap (unwrap_or (resumed_in (drop (point - 1) (controls image h)) t)) (tail_is image h t below)
    ∙ stood_at image h point t i r reached below
