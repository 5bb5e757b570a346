-- What the buffers of a recorder tell of its live machine: its window is that of a run, and the machine
-- stands where the run does.
use Rattle.std.proofs.Common.{◌≡◌, ℕ, ◌+◌, ◌<◌, ◌≤◌, List, [], ◌++◌, length, map, drop, refl, ap, sym, ◌∙◌, subst, arith, Option, Some, slice_get, unwrap_or, append-nil}
use Rattle.std.specs.Prelude.{Ok, IsOk}
use Rattle.std.proofs.lemmas.List.{ext_get_or}
use Rattle.std.proofs.lemmas.Option.{get_or_from_slice_get, slice_get_within}
use Rattle.tm_marker.specs.declared.marker.Marker.{Marker}
use Rattle.tm_marker.specs.declared.tail.Tail.{Tail}
use Rattle.tm_task.specs.Standing.{Standing, TaskView, task_view, boot_body, marker_of}
use Rattle.tm_kernel.specs.State.{KernelState, state_number}
use Rattle.tm_image.specs.Image.{ImageView, IsImage, words_of}
use Rattle.tm_log.specs.Window.{WindowView, IsWindow}
use Rattle.tm_marker.specs.declared.entries.DataEntry.{DataEntry}
use Rattle.tm_task.specs.Place.{Place, start_place}
use Rattle.tm_ring.specs.Kept.{Kept, first_of}
use Rattle.tm_check.specs.Checkpoint.{Checkpoint, KeptChecks, check_of}
use Rattle.tm_log.specs.Window.{log_of, checks_of}
use Rattle.tm_log.specs.Points.{items_from}
use Rattle.tm_system.specs.Controls.{entries, checkpoints}
use Rattle.tm_system.specs.Accepted.{IsAccepted}
use Rattle.tm_system.specs.Follows.{IsRun}
use Rattle.tm_system.specs.Tracing.{Tracing}
use Rattle.tm_system.specs.Alone.{Alone, Comes, walk_to}
use Rattle.tm_system.specs.Replaying.{alone_in, replayed_task, replayed, Fits}
use Rattle.tm_system.proofs.Walking.{walks_end}
use Rattle.tm_fidelity.proofs.Moving.{alone_with, here}
use Rattle.tm_fidelity.proofs.Ways.{Leads, Way, way, not_before_itself}
use Rattle.tm_fidelity.proofs.Traced.{IsTraced, traced}
use Rattle.tm_fidelity.proofs.Fitting.{IsReplay}
use Rattle.tm_fidelity.proofs.Closing.{script_replays}
use Rattle.tm_fidelity.proofs.Accepting.{finder_is_right}
use Rattle.tm_points.specs.Finder.{lost_of}
use Rattle.tm_fidelity.proofs.Reading.{first_is, rest_is, log_is, checks_is}
use Rattle.tm_fidelity.proofs.Refusing.{check_found}
use Rattle.tm_system.specs.History.{History}
use Rattle.tm_system.specs.Run.{run}
use Rattle.tm_system.specs.Marks.{epochs, standing_at}
use Rattle.tm_system.specs.Telling.{below}
use Rattle.tm_system.specs.Machine.{MachineView, IsAt, task_at}
use Rattle.tm_system.specs.WindowOf.{last_items, tail_at, window_of}
use Rattle.tm_system.proofs.Below.{length-below, slice_get-below}
use Rattle.tm_record.specs.StandsFor.{RecorderView, IsReal}
use Rattle.tm_record.specs.Recording.{task_in, tail_of}
use Rattle.tm_system.proofs.Following.{scripts_are_runs}
use Rattle.tm_system.proofs.Counts.{checkpoints_count}
use Rattle.tm_record.proofs.WindowOf.{windows_are_of_runs}
use Rattle.tm_recorders.specs.Recorders.{TailsAreLive, CheckpointsAreLive, PointsAreLive}
use Rattle.tm_fidelity.proofs.Stories.{map-below}

-- a list with these items
list_of : {A : Type 0} (xs : List A) (n : ℕ) (f : ℕ → A) → length xs ≡ n → ((t : ℕ) → t < n → slice_get xs t ≡ Some (f t)) → xs ≡ below n f
list_of xs n f long each =
    ext_get_or (f 0) xs (below n f) (long ∙ sym (length-below n f))
    (λ t there. (let within : t < n = omega (arith, there, long) in
    get_or_from_slice_get xs t (f t) (f 0) (each t within) ∙ sym (get_or_from_slice_get (below n f) t (f t) (f 0) (slice_get-below n f t within))))

same_tail : (r s e f : ℕ) (a b : List Marker) (x y : List ℕ) → r ≡ s → e ≡ f → a ≡ b → x ≡ y →
    (let tail : Tail = record { running = r; ended = e; at = a; state = x } in tail) ≡ record { running = s; ended = f; at = b; state = y }
same_tail r s e f a b x y p q u v = cc

-- the tail of a machine that is where a run is
tail_there : (image : ImageView) (machine : MachineView) (h : History) → IsAt image machine h → tail_of machine ≡ tail_at image h
tail_there image machine h at =
    same_tail _ _ _ _ _ _ _ _ (ap (λ (k : KernelState). k.running) at.kernel) (ap (λ (k : KernelState). k.ended) at.kernel)
    (ap (map (λ (t : TaskView). marker_of t.standing)) (list_of machine.tasks (length image.loads) (task_at image h) at.tasks at.each)
    ∙ map-below (λ (t : TaskView). marker_of t.standing) (length image.loads) (task_at image h))
    (ap (λ (k : KernelState). map state_number k.states) at.kernel)

-- the window of a recorder is that of the run that it stands for
pub window_there : (r : RecorderView) → IsImage r.image → IsWindow r.window → (real : IsReal r) → r.window ≡ window_of r.image (run r.image real.script)
window_there r i w real = windows_are_of_runs r.image r real.script i w real.stands

-- and the live task is where the run's is
pub standing_there : (r : RecorderView) (real : IsReal r) (t : ℕ) → t < length r.image.loads →
    (task_in r.machine t).standing ≡ standing_at r.image (run r.image real.script) t
standing_there r real t below' =
    ap (λ (o : Option TaskView). (unwrap_or o (task_view 0 (boot_body 0 []) 0 0)).standing) (real.stands.machine.each t below')

pub tails_are_live : TailsAreLive
tails_are_live r i w real =
    ap (λ (x : WindowView). x.tail) (window_there r i w real)
    ∙ sym (tail_there r.image r.machine (run r.image real.script) real.stands.machine)

-- from a checkpoint a task by itself comes to where it stands, with all its kept data entries since
record LeadsTo (image : ImageView) (w : WindowView) (s : Standing) (t epoch : ℕ) (check : Checkpoint) : Type 0 where
  place : Place
  walks : walk_to (alone_in image t (log_of w t) check.data_number) (marker_of s) (start_place check.body epoch) ≡ Comes place
  standing : place.standing ≡ s
  used : place.used ≡ length (items_from (log_of w t) check.data_number)

some_same : (a b : Checkpoint) → Some a ≡ Some b → a ≡ b
some_same a b e = cc

leads_to : (image : ImageView) (h : History) (t epoch : ℕ) (check : Checkpoint) → IsImage image → IsRun image h → t < length image.loads →
    epoch ≤ epochs t h → slice_get (checkpoints image t h) epoch ≡ Some check → length (entries t h) ≤ check.data_number + image.caps.logs →
    LeadsTo image (window_of image h) (standing_at image h t) t epoch check
leads_to image h t epoch check i r below' reached taken kept =
    let w : Way image t h epoch = way image t h epoch i r below' reached in
    let rest = rest_is image.caps.logs (entries t h) check.data_number kept in
    let log = log_is image h t below' in
    let alone : alone_in image t (log_of (window_of image h) t) check.data_number
    ≡ alone_with image t check.data_number (length (entries t h)) (drop check.data_number (entries t h) ++ []) =
    ap (λ (l : Kept DataEntry). alone_with image t check.data_number l.total (items_from l check.data_number)) log
    ∙ ap (alone_with image t check.data_number (length (entries t h))) (rest ∙ sym (append-nil (drop check.data_number (entries t h)))) in
    let leads : Leads image t check.data_number (length (entries t h)) h (start_place check.body epoch) w.outs =
    subst (λ (c : Checkpoint). Leads image t c.data_number (length (entries t h)) h (start_place c.body epoch) w.outs)
    (some_same w.check check (sym w.taken ∙ taken)) (w.leads (length (entries t h))) in
    let still = not_before_itself (marker_of (standing_at image h t)) in
    record {
      place = here image t check.data_number h w.outs;
      walks = ap (λ (a : Alone). walk_to a (marker_of (standing_at image h t)) (start_place check.body epoch)) alone
          ∙ leads [] (marker_of (standing_at image h t)) still
          ∙ walks_end _ (marker_of (standing_at image h t)) (here image t check.data_number h w.outs) still;
      standing = refl;
      used = ap length (sym (ap (λ (l : Kept DataEntry). items_from l check.data_number) log ∙ rest));
    }

-- a checkpoint that the window has, with all data entries since
found_leads : (image : ImageView) (h : History) (t epoch : ℕ) (check : Checkpoint) → IsImage image → IsRun image h → t < length image.loads →
    check_of (checks_of (window_of image h) t) epoch ≡ Some check → first_of (log_of (window_of image h) t) ≤ check.data_number →
    LeadsTo image (window_of image h) (standing_at image h t) t epoch check
found_leads image h t epoch check i r below' found first =
    let taken : slice_get (checkpoints image t h) epoch ≡ Some check =
    check_found image h t epoch (length (words_of image t)) check
    (ap (λ (k : KeptChecks). check_of k epoch) (sym (checks_is image h t below')) ∙ found) in
    let reached : epoch < length (checkpoints image t h) = slice_get_within (checkpoints image t h) epoch check taken in
    let least : first_of (last_items image.caps.logs (entries t h)) ≤ check.data_number =
    subst (λ (k : Kept DataEntry). first_of k ≤ check.data_number) (log_is image h t below') first in
    leads_to image h t epoch check i r below' (omega (arith, reached, checkpoints_count image t h)) taken
    (omega (arith, least, first_is image.caps.logs (entries t h)))

live_leads : (image : ImageView) (h : History) (w : WindowView) (s : Standing) (t epoch : ℕ) (check : Checkpoint) → IsImage image → IsRun image h →
    t < length image.loads → w ≡ window_of image h → s ≡ standing_at image h t →
    check_of (checks_of w t) epoch ≡ Some check → first_of (log_of w t) ≤ check.data_number → LeadsTo image w s t epoch check
live_leads image h w s t epoch check i r below' is live found first =
    subst (λ (x : WindowView). LeadsTo image x s t epoch check) (sym is)
    (subst (λ (x : Standing). LeadsTo image (window_of image h) x t epoch check) (sym live)
    (found_leads image h t epoch check i r below'
    (ap (λ (x : WindowView). check_of (checks_of x t) epoch) (sym is) ∙ found)
    (subst (λ (x : WindowView). first_of (log_of x t) ≤ check.data_number) is first)))

pub checkpoints_are_live : CheckpointsAreLive
checkpoints_are_live r t epoch check i window real below' found first =
    let leads = live_leads r.image (run r.image real.script) r.window (task_in r.machine t).standing t epoch check i
    (scripts_are_runs r.image real.script i) below' (window_there r i window real) (standing_there r real t below') found first in
    record { place = leads.place; walks = leads.walks; standing = leads.standing; used = leads.used }

-- each point of which nothing is lost
fits_window : (image : ImageView) (w x : WindowView) (p : ℕ) (tracings : List Tracing) → w ≡ x → replayed image x p ≡ Ok tracings → Fits image w p
fits_window image w x p tracings is ok = subst IsOk (sym (ap (λ (v : WindowView). replayed image v p) is ∙ ok)) refl

pub points_are_live : PointsAreLive
points_are_live r p i window real none =
    let image : ImageView = r.image in
    let h : History = run image real.script in
    let is : r.window ≡ window_of image h = window_there r i window real in
    let run_is : IsRun image h = scripts_are_runs image real.script i in
    let accepted : IsAccepted image h p = (finder_is_right image h p i run_is).0 (ap (λ (x : WindowView). lost_of x p) (sym is) ∙ none) in
    let replay : IsReplay image h p = script_replays image real.script p i accepted in
    record {
      fits = fits_window image r.window (window_of image h) p replay.tracings is replay.fits;
      tasks = λ t below'. (let x : IsTraced image h p t = traced image h p t i run_is accepted below' in
          record {
            tracing = x.tracing;
            replays = ap (λ (v : WindowView). replayed_task image v p t) is ∙ x.is;
            standing = x.standing ∙ sym (standing_there r real t below');
          });
    }
