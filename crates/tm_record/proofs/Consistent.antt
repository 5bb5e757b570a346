-- What a recorder keeps, since it stands for a script.
use Rattle.std.proofs.Common.{◌≡◌, ℕ, ◌+◌, ◌-◌, ◌*◌, ◌<◌, ◌≤◌, List, [], length, All, ap, sym, ◌∙◌, subst, arith, length-drop, unwrap_or, Option}
use Rattle.std.proofs.lemmas.Option.{unwrap_or-slice_get}
use Rattle.tm_marker.specs.declared.entries.Slice.{Slice}
use Rattle.tm_task.specs.Standing.{TaskView, task_view, boot_body}
use Rattle.tm_kernel.specs.State.{KernelState, IsKernel, nobody}
use Rattle.tm_kernel.specs.Schedule.{pick}
use Rattle.tm_kernel.specs.Nesting.{IsNested, IsSettled}
use Rattle.tm_check.specs.Checkpoint.{Checkpoint, KeptChecks, kept_checks, HoldsChecks, IsCheckKept}
use Rattle.tm_log.specs.Window.{WindowView, IsWindow, checks_of}
use Rattle.tm_system.specs.History.{History}
use Rattle.tm_system.specs.Run.{run}
use Rattle.tm_system.specs.Marks.{epochs}
use Rattle.tm_system.specs.Controls.{checkpoints}
use Rattle.tm_system.specs.Machine.{task_at}
use Rattle.tm_system.specs.Laws.{IsSoundAt}
use Rattle.tm_system.proofs.Lengths.{played_short, first_moment}
use Rattle.tm_system.proofs.Following.{scripts_are_sound}
use Rattle.tm_system.proofs.Texts.{controls_few}
use Rattle.tm_record.specs.StandsFor.{RecorderView, IsReal}
use Rattle.tm_system.specs.Bodies.{HaveBodies}
use Rattle.tm_system.specs.Moving.{task_in}
use Rattle.tm_record.specs.Laws.{TotalsAreBounded, RecordersAreOfTheirImage}
use Rattle.tm_system.proofs.Bodies.{boot_bodies, played_bodies}
use Rattle.tm_system.proofs.Counts.{entries_few, outputs_few, checkpoints_few, checkpoints_count}
use Rattle.tm_record.proofs.Moments.{shape_tasks}

-- the run of the script that a recorder stands for is as long as its slices could make it
pub run_short : (r : RecorderView) (real : IsReal r) → length (run r.image real.script) ≤ r.slices * 1048577
run_short r real =
    let short : All (λ (s : Slice). s.length ≤ 1048576) real.script = λ k d below. (real.valid k d below).short in
    omega (arith, played_short r.image real.script [] short, real.stands.slices)

pub totals_are_bounded : TotalsAreBounded
totals_are_bounded r real =
    let h : History = run r.image real.script in
    let short = run_short r real in
    let l = real.stands.window.lists in
    record {
      control = omega (arith, l.control.total, controls_few r.image h, short);
      outputs = omega (arith, l.outputs.total, outputs_few h, short);
      logs = λ t below. omega (arith, (l.logs t below).total, entries_few t h, short);
      checks = λ t below. omega (arith, (l.checks t below).total, checkpoints_few r.image t h, short);
    }

-- the newest checkpoint is kept
newest_kept : (k : KeptChecks) (all : List Checkpoint) (e : ℕ) → HoldsChecks k all → length all ≡ e + 1 → 0 < k.cap → IsCheckKept k e
newest_kept k all e h long some =
    let kept : length k.items ≡ length all - (length all - k.cap) = ap length h.items ∙ length-drop (length all - k.cap) all in
    record { reached = omega (arith, kept, h.total, long); made = omega (arith, h.total, long) }

check_cap : (w : WindowView) (t : ℕ) → IsWindow w → t < length w.checks → 0 < (checks_of w t).cap
check_cap w t i below =
    let is : (checks_of w t).cap ≡ w.shape.caps.checks =
    ap (λ (c : KeptChecks). c.cap) (unwrap_or-slice_get w.checks t (kept_checks [] 0 0 0)) ∙ i.check_caps t (kept_checks [] 0 0 0) below in
    omega (arith, is, i.shape.caps.checks.some)

pub recorders_are_of_their_image : RecordersAreOfTheirImage
recorders_are_of_their_image r i window real =
    let h : History = run r.image real.script in
    let at = real.stands.machine in
    let shape = real.stands.window.shape in
    let sound : IsSoundAt r.image h = scripts_are_sound r.image real.script i in
    let bodies : HaveBodies r.image h = played_bodies r.image real.script [] i (boot_bodies r.image i) in
    let many : length r.window.checks ≡ length r.image.loads = window.checks ∙ shape_tasks r.image r.window shape in
    let task : (t : ℕ) → t < length r.image.loads → task_in r.machine t ≡ task_at r.image h t =
    λ t below. ap (λ (o : Option TaskView). unwrap_or o (task_view 0 (boot_body 0 []) 0 0)) (at.each t below) in
    record {
      shape = shape;
      spec = at.spec;
      tasks = at.tasks;
      entry = λ t below. ap (λ (x : TaskView). x.entry) (task t below);
      words = λ t below. ap (λ (x : TaskView). length x.standing.body.words) (task t below) ∙ (bodies.each t below).words;
      live = λ t below. subst (λ (e : ℕ). IsCheckKept (checks_of r.window t) e) (sym (ap (λ (x : TaskView). x.standing.epoch) (task t below)))
          (newest_kept (checks_of r.window t) (checkpoints r.image t h) (epochs t h) (real.stands.window.lists.checks t below)
          (checkpoints_count r.image t h) (check_cap r.window t window (omega (arith, below, many))));
      kernel = subst IsKernel (sym at.kernel) sound.kernel;
      nested = subst IsNested (sym at.kernel) sound.nested;
      settled = subst IsSettled (sym at.kernel) sound.settled;
      nobody_waits = λ some. subst (λ (k : KernelState). k.ended ≡ 0 → k.running ≡ nobody → pick k ≡ nobody) (sym at.kernel)
          (sound.nobody_waits (first_moment r.image real.script (omega (arith, some, real.stands.slices))));
    }
