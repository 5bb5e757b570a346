-- The window of a recorder is that of its script's run: each of its lists is one that the run has left.
use Rattle.std.proofs.Common.{◌≡◌, ℕ, ◌<◌, List, [], length, map, get_or, ap, sym, ◌∙◌, arith, unwrap_or, Option}
use Rattle.std.proofs.lemmas.List.{ext_get_or, length-map}
use Rattle.std.proofs.lemmas.Option.{unwrap_or-slice_get, get_or_from_slice_get}
use Rattle.tm_ring.specs.Buffer.{keep_last}
use Rattle.tm_marker.specs.declared.shape.Shape.{Shape}
use Rattle.tm_marker.specs.declared.entries.DataEntry.{DataEntry}
use Rattle.tm_task.specs.Standing.{marker_of}
use Rattle.tm_kernel.specs.State.{state_number}
use Rattle.tm_image.specs.Image.{ImageView, IsImage, words_of, shape_of}
use Rattle.tm_ring.specs.Kept.{Kept, kept, Holds}
use Rattle.tm_check.specs.Checkpoint.{Checkpoint, KeptChecks, kept_checks, HoldsChecks}
use Rattle.tm_log.specs.Window.{WindowView, IsWindow, zero_marker, log_of, checks_of}
use Rattle.tm_system.specs.History.{History}
use Rattle.tm_system.specs.Run.{now, run}
use Rattle.tm_system.specs.Marks.{standing_at}
use Rattle.tm_system.specs.Controls.{controls, entries, outputs, checkpoints}
use Rattle.tm_system.specs.Telling.{below}
use Rattle.tm_system.specs.Laws.{IsSoundAt}
use Rattle.tm_system.proofs.Below.{length-below, slice_get-below}
use Rattle.tm_system.proofs.Following.{scripts_are_sound}
use Rattle.tm_record.specs.Window.{HoldsLists, IsTailOf}
use Rattle.tm_record.specs.WindowOf.{last_items, last_checks, tail_at, window_of, WindowsAreOfRuns}
use Rattle.tm_record.proofs.Ending.{mapped_got}
use Rattle.tm_record.proofs.Moments.{shape_tasks, check_size}

-- a list whose items are those of a function of their places
pub list_below : {A : Type 0} (xs : List A) (n : ℕ) (f : ℕ → A) (d : A) → length xs ≡ n → ((t : ℕ) → t < n → get_or xs t d ≡ f t) → xs ≡ below n f
list_below xs n f d long each =
    ext_get_or d xs (below n f) (long ∙ sym (length-below n f))
    (λ t there. (let within : t < n = omega (arith, there, long) in
    each t within ∙ sym (get_or_from_slice_get (below n f) t (f t) d (slice_get-below n f t within))))

-- a ring that holds the last items of a list
same_ring : {X : Type 0} (ring : Kept X) (cap : ℕ) (all : List X) → Holds ring all → ring.cap ≡ cap → ring ≡ last_items cap all
same_ring ring cap all h c =
    ap (λ xs. kept xs ring.total ring.cap) h.items ∙ ap (λ n. kept (keep_last ring.cap all) n ring.cap) h.total ∙
    ap (λ k. kept (keep_last k all) (length all) k) c

-- the last checkpoints of a list
same_checks : (checks : KeptChecks) (cap words : ℕ) (all : List Checkpoint) → HoldsChecks checks all → checks.cap ≡ cap → checks.words ≡ words →
    checks ≡ last_checks cap words all
same_checks checks cap words all h c w =
    ap (λ xs. kept_checks xs checks.total checks.cap checks.words) h.items ∙
    ap (λ n. kept_checks (keep_last checks.cap all) n checks.cap checks.words) h.total ∙
    ap (λ k. kept_checks (keep_last k all) (length all) k checks.words) c ∙ ap (λ n. kept_checks (keep_last cap all) (length all) cap n) w

same_logs : (image : ImageView) (w : WindowView) (h : History) → IsWindow w → w.shape ≡ shape_of image → HoldsLists image w h →
    w.logs ≡ below (length image.loads) (λ task. last_items (shape_of image).caps.logs (entries task h))
same_logs image w h i s l =
    let many : length w.logs ≡ length image.loads = i.logs ∙ shape_tasks image w s in
    let no_log : Kept DataEntry = kept [] 0 0 in
    list_below w.logs (length image.loads) _ no_log many (λ t there.
    (let is : log_of w t ≡ get_or w.logs t no_log = unwrap_or-slice_get w.logs t no_log in
    let cap : (get_or w.logs t no_log).cap ≡ (shape_of image).caps.logs =
    i.log_caps t no_log (omega (arith, there, many)) ∙ ap (λ (x : Shape). x.caps.logs) s in
    sym is ∙ same_ring (log_of w t) _ (entries t h) (l.logs t there) (ap (λ (k : Kept DataEntry). k.cap) is ∙ cap)))

same_all_checks : (image : ImageView) (w : WindowView) (h : History) → IsWindow w → w.shape ≡ shape_of image → HoldsLists image w h →
    w.checks ≡ below (length image.loads) (λ task. last_checks (shape_of image).caps.checks (length (words_of image task)) (checkpoints image task h))
same_all_checks image w h i s l =
    let many : length w.checks ≡ length image.loads = i.checks ∙ shape_tasks image w s in
    let none : KeptChecks = kept_checks [] 0 0 0 in
    list_below w.checks (length image.loads) _ none many (λ t there.
    (let is : checks_of w t ≡ get_or w.checks t none = unwrap_or-slice_get w.checks t none in
    let cap : (get_or w.checks t none).cap ≡ (shape_of image).caps.checks =
    i.check_caps t none (omega (arith, there, many)) ∙ ap (λ (x : Shape). x.caps.checks) s in
    sym is ∙ same_checks (checks_of w t) _ _ (checkpoints image t h) (l.checks t there) (ap (λ (k : KeptChecks). k.cap) is ∙ cap)
    (check_size image w t i s there)))

same_tail : (image : ImageView) (w : WindowView) (h : History) → IsImage image → IsWindow w → w.shape ≡ shape_of image → IsSoundAt image h →
    IsTailOf image w.tail h → w.tail ≡ tail_at image h
same_tail image w h image_is i s sound tail =
    let tasks : length w.shape.words ≡ length image.loads = shape_tasks image w s in
    let states : length (now image h).kernel.states ≡ length image.loads =
    sound.kernel.states ∙ ap (λ x. length x.tasks) sound.spec ∙ sym image_is.loads in
    let at : w.tail.at ≡ below (length image.loads) (λ task. marker_of (standing_at image h task)) =
    list_below w.tail.at (length image.loads) _ zero_marker (i.at ∙ tasks)
    (λ t there. get_or_from_slice_get w.tail.at t (marker_of (standing_at image h t)) zero_marker (tail.at t there)) in
    let state : w.tail.state ≡ map state_number (now image h).kernel.states =
    ext_get_or 0 w.tail.state (map state_number (now image h).kernel.states)
    (i.state ∙ tasks ∙ sym (length-map (now image h).kernel.states state_number ∙ states))
    (λ t there. sym (unwrap_or-slice_get w.tail.state t 0) ∙
    ap (λ (o : Option ℕ). unwrap_or o 0) (tail.state t (omega (arith, there, i.state, tasks)) ∙ sym (mapped_got state_number (now image h).kernel.states t)) ∙
    unwrap_or-slice_get (map state_number (now image h).kernel.states) t 0) in
    ap (λ x. record w.tail { running = x }) tail.running ∙
    ap (λ x. record (tail_at image h) { ended = x; at = w.tail.at; state = w.tail.state }) tail.ended ∙
    ap (λ x. record (tail_at image h) { at = x; state = w.tail.state }) at ∙ ap (λ x. record (tail_at image h) { state = x }) state

pub windows_are_of_runs : WindowsAreOfRuns
windows_are_of_runs image r script image_is i stands =
    let h : History = run image script in
    let w : WindowView = r.window in
    let is = stands.window in
    let caps : w.shape.caps ≡ (shape_of image).caps = ap (λ (x : Shape). x.caps) is.shape in
    let control : w.control ≡ last_items (shape_of image).caps.control (controls image h) =
    same_ring w.control _ (controls image h) is.lists.control (i.control ∙ ap (λ c. c.control) caps) in
    let outs : w.outputs ≡ last_items (shape_of image).caps.outputs (outputs h) =
    same_ring w.outputs _ (outputs h) is.lists.outputs (i.outputs ∙ ap (λ c. c.outputs) caps) in
    ap (λ x. record w { shape = x }) is.shape ∙
    ap (λ x. record (window_of image h) { control = x; outputs = w.outputs; logs = w.logs; checks = w.checks; tail = w.tail }) control ∙
    ap (λ x. record (window_of image h) { outputs = x; logs = w.logs; checks = w.checks; tail = w.tail }) outs ∙
    ap (λ x. record (window_of image h) { logs = x; checks = w.checks; tail = w.tail }) (same_logs image w h i is.shape is.lists) ∙
    ap (λ x. record (window_of image h) { checks = x; tail = w.tail }) (same_all_checks image w h i is.shape is.lists) ∙
    ap (λ x. record (window_of image h) { tail = x }) (same_tail image w h image_is i is.shape (scripts_are_sound image script image_is) is.tail)
