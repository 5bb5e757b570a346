-- The window of every recorder is one that a run could have left.
use Rattle.std.proofs.Common.{◌≡◌, ℕ, ◌+◌, ◌<◌, ◌≤◌, ◌^◌, length, get_or, slice_get, refl, ap, sym, ◌∙◌, subst, arith, inl, inr, Some, option_map}
use Rattle.std.proofs.lemmas.List.Elements.{All-weaker}
use Rattle.std.proofs.lemmas.Option.{slice_get-get_or}
use Rattle.tm_marker.specs.declared.marker.Marker.{Marker}
use Rattle.tm_marker.specs.declared.entries.Switch.{Switch}
use Rattle.tm_task.specs.Standing.{marker_of}
use Rattle.tm_kernel.specs.declared.kernel.TaskState.{TaskState}
use Rattle.tm_kernel.specs.declared.kernel.TaskState.TheVariants.{Suspended, Ready, Running, Waiting}
use Rattle.tm_kernel.specs.State.{KernelState, IsKernel, state_number}
use Rattle.tm_image.specs.Image.{ImageView, IsImage, shape_of}
use Rattle.tm_log.specs.Window.{WindowView, IsWindow, log_of, checks_of}
use Rattle.tm_log.specs.WellFormed.{IsSide, IsEntry, AreChained, runs_last, ended_last, IsOutput, IsCheckpoint, IsTaskWell, IsWellFormed}
use Rattle.tm_system.specs.History.{History}
use Rattle.tm_system.specs.Run.{now, run}
use Rattle.tm_system.specs.Marks.{standing_at}
use Rattle.tm_system.specs.Controls.{controls, entries, outputs, checkpoints}
use Rattle.tm_system.proofs.Texts.{controls_few}
use Rattle.tm_record.specs.Window.{IsWindowOf}
use Rattle.tm_record.specs.StandsFor.{RecorderView, IsReal}
use Rattle.tm_record.specs.Laws.{RecordersAreWellFormed}
use Rattle.tm_system.proofs.Counts.{entries_few, outputs_few, checkpoints_few, checkpoints_count}
use Rattle.tm_record.proofs.Consistent.{run_short}
use Rattle.tm_record.proofs.Moments.{shape_tasks}
use Rattle.tm_record.proofs.KeptLists.{holds_filled, checks_filled, holds_all, checks_all, chained_kept, runs_kept, ended_kept}
use Rattle.tm_record.proofs.Histories.{IsGood, run_holding}
use Rattle.tm_record.proofs.Marks.{IsSideAt, task_marker}
use Rattle.tm_record.proofs.Switches.{IsEntryAt, AreEntries, entries_kept}
use Rattle.tm_record.proofs.Items.{AreOutputs, outputs_kept, HasStatus, HaveStatuses, statuses_kept, AreChecks, checks_kept}

-- the lists of a history are sound, and shorter than 2^53
record AreLists (image : ImageView) (h : History) : Type 0 where
  image_is : IsImage image
  good : IsGood image h
  entries : AreEntries image h
  outputs : AreOutputs image h
  statuses : (t : ℕ) → HaveStatuses t h
  checks : (t : ℕ) → t < length image.loads → AreChecks image t h
  short : length h + 1 < 2 ^ 53

-- the run of the script that a recorder stands for
run_lists : (r : RecorderView) → IsImage r.image → (real : IsReal r) → AreLists r.image (run r.image real.script)
run_lists r i real =
    let entered = run_holding r.image (AreEntries r.image) real.script i (entries_kept r.image i) in
    record {
      image_is = i;
      good = entered.good;
      entries = entered.holds;
      outputs = (run_holding r.image (AreOutputs r.image) real.script i (outputs_kept r.image)).holds;
      statuses = λ t. (run_holding r.image (HaveStatuses t) real.script i (statuses_kept r.image t)).holds;
      checks = λ t below. (run_holding r.image (AreChecks r.image t) real.script i (checks_kept r.image t i below)).holds;
      short = omega (arith, run_short r real, real.few);
    }

-- one task of the window
state_small : (s : TaskState) → state_number s ≤ 3
state_small Suspended = omega arith
state_small Ready = omega arith
state_small Running = omega arith
state_small Waiting = omega arith

state_running : (s : TaskState) → state_number s ≡ 2 → s ≡ Running
state_running Suspended e = absurd (omega (arith, e))
state_running Ready e = absurd (omega (arith, e))
state_running Running e = refl
state_running Waiting e = absurd (omega (arith, e))

-- the running task alone is in the state running
record IsStateOf (k : KernelState) (task : ℕ) : Type 0 where
  state : TaskState
  there : slice_get k.states task ≡ Some state
  runs : state_number state ≡ 2 → k.running ≡ task
  running : k.running ≡ task → state_number state ≡ 2

state_of : (k : KernelState) (task : ℕ) → IsKernel k → task < length k.states → IsStateOf k task
state_of k task kernel below =
    let s : TaskState = get_or k.states task Suspended in
    let there : slice_get k.states task ≡ Some s = slice_get-get_or k.states task Suspended below in
    record {
      state = s;
      there = there;
      runs = λ two. kernel.alone task (there ∙ ap Some (state_running s two));
      running = λ e. elim kernel.running [
        | inl none ↦ absurd (omega (arith, none, e, below, kernel.states, kernel.spec.few_tasks))
        | inr runs ↦
            let same : Some s ≡ Some Running = sym there ∙ subst (λ (t : ℕ). slice_get k.states t ≡ Some Running) e runs in
            ap state_number (some_same s Running same)
      ];
    }
  where
    some_same : (a b : TaskState) → Some a ≡ Some b → a ≡ b
    some_same a b e = cc

task_well : (image : ImageView) (w : WindowView) (h : History) → AreLists image h → IsWindowOf image w h → (task : ℕ) → task < length image.loads →
    IsTaskWell w task
task_well image w h l is task below =
    let log = is.lists.logs task below in
    let checks = is.lists.checks task below in
    let count = checkpoints_count image task h in
    let k : KernelState = (now image h).kernel in
    let kernel : IsKernel k = l.good.good.sound.kernel in
    let states : length k.states ≡ length image.loads =
    kernel.states ∙ ap (λ s. length s.tasks) l.good.good.sound.spec ∙ sym l.image_is.loads in
    let s : IsStateOf k task = state_of k task kernel (omega (arith, below, states)) in
    record {
      log = holds_filled (log_of w task) (entries task h) log (omega (arith, entries_few task h, l.short));
      statuses = holds_all HasStatus (log_of w task) (entries task h) log (l.statuses task);
      checks = checks_filled (checks_of w task) (checkpoints image task h) checks (omega (arith, checkpoints_few image task h, l.short));
      booted = omega (arith, checks.total, count);
      bodies = checks_all (IsCheckpoint (log_of w task).total w.control.total) (checks_of w task) (checkpoints image task h) checks
          (All-weaker (IsCheckpoint (length (entries task h)) (length (controls image h))) (IsCheckpoint (log_of w task).total w.control.total)
          (λ c each. record {
            aligned = each.aligned;
            data_number = omega (arith, each.data_number, log.total);
            control_number = omega (arith, each.control_number, is.lists.control.total);
          })
          (checkpoints image task h) (l.checks task below));
      at = marker_of (standing_at image h task);
      at_is = is.tail.at task below;
      marker = task_marker image h task l.good below;
      epoch = omega (arith, checks.total, count);
      state = state_number s.state;
      state_is = is.tail.state task below ∙ ap (option_map state_number) s.there;
      state_number = state_small s.state;
      runs = λ two. is.tail.running ∙ s.runs two;
      running = λ e. s.running (sym is.tail.running ∙ e);
    }

-- a control entry of the window
side_well : (image : ImageView) (w : WindowView) (h : History) (task : ℕ) (at : Marker) → IsWindowOf image w h → IsSideAt image h task at → IsSide w task at
side_well image w h task at is s =
    let many : length w.shape.words ≡ length image.loads = shape_tasks image w is.shape in
    record {
      there = rw many s.there;
      marker = s.marker;
      nobody = s.zero;
      reached = λ below.
          let there : task < length image.loads = omega (arith, below, many) in
          omega (arith, s.reached there, (is.lists.checks task there).total, checkpoints_count image task h);
    }

entry_well : (image : ImageView) (w : WindowView) (h : History) → IsWindowOf image w h → (entry : Switch) → IsEntryAt image h entry → IsEntry w entry
entry_well image w h is entry e = record {
  from = side_well image w h entry.from entry.from_at is e.from;
  to = side_well image w h entry.to entry.to_at is e.to;
  idle = e.idle;
  nobody = e.nobody;
  goes = e.goes;
}

window_well : (image : ImageView) (w : WindowView) (h : History) → IsWindow w → AreLists image h → IsWindowOf image w h → IsWellFormed w (shape_of image)
window_well image w h window l is =
    let many : length w.shape.words ≡ length image.loads = shape_tasks image w is.shape in
    let control = is.lists.control in
    let cap : 0 < w.control.cap = omega (arith, window.control, window.shape.caps.control.some) in
    record {
      same_shape = is.shape;
      control = holds_filled w.control (controls image h) control (omega (arith, controls_few image h, l.short));
      entries = holds_all (IsEntry w) w.control (controls image h) control
          (All-weaker (IsEntryAt image h) (IsEntry w) (entry_well image w h is) (controls image h) l.entries.each);
      chained = subst AreChained (sym control.items) (chained_kept w.control.cap (controls image h) l.entries.chained);
      output_number = holds_filled w.outputs (outputs h) is.lists.outputs (omega (arith, outputs_few h, l.short));
      outputs = holds_all (IsOutput (length w.shape.words)) w.outputs (outputs h) is.lists.outputs (rw many l.outputs);
      tasks = λ task below. task_well image w h l is task (omega (arith, below, many));
      running = is.tail.running ∙ l.entries.running ∙ sym (runs_kept w.control.cap (controls image h) cap) ∙ ap runs_last (sym control.items);
      ended = is.tail.ended ∙ l.entries.ended ∙ sym (ended_kept w.control.cap (controls image h) cap) ∙ ap ended_last (sym control.items);
    }

pub recorders_are_well_formed : RecordersAreWellFormed
recorders_are_well_formed r i window real =
    window_well r.image r.window (run r.image real.script) window (run_lists r i real) real.stands.window
