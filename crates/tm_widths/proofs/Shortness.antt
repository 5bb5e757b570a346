-- The dump of a run is short: the limits of an image's buffers bound it.
use Rattle.std.proofs.Common.{ℕ, suc, ◌+◌, ◌*◌, ◌≤◌, List, [], ◌∷◌, All, length, arith}
use Rattle.std.specs.Prelude.{sum_by}
use Rattle.std.proofs.lemmas.List.Sums.{sum_by-cons}
use Rattle.std.proofs.Math.Nat.{mul-le-mul_left}
use Rattle.tm_marker.specs.declared.shape.Caps.{Caps}
use Rattle.tm_marker.specs.declared.shape.Shape.{Shape}
use Rattle.tm_marker.specs.Shape.{IsCaps, IsWordCount, IsShape}
use Rattle.tm_log.specs.Window.{task_bound, dump_bound}
use Rattle.tm_system.specs.History.{History}
use Rattle.tm_system.specs.Run.{run}
use Rattle.tm_system.specs.WindowOf.{window_of}
use Rattle.tm_dump.proofs.Most.{dumps_bounded}
use Rattle.tm_widths.specs.Legible.{DumpsOfRunsAreShort}
use Rattle.tm_widths.proofs.Runs.{IsWide, run_wide}
use Rattle.tm_widths.proofs.Windows.{window_is, buffers_are, run_short}

-- the most bytes of one task's buffers
task_few : (caps : Caps) (words : ℕ) → IsCaps caps → IsWordCount words → task_bound caps words ≤ 5579792
task_few caps words c w =
    omega (arith, c.logs.few, w.few, mul-le-mul_left (144 + 4 * words) c.checks.few)

-- and of all tasks' buffers
tasks_few : (caps : Caps) (words : List ℕ) → IsCaps caps → All IsWordCount words → sum_by (task_bound caps) words ≤ 5579792 * length words
tasks_few caps [] c all = omega arith
tasks_few caps (n ∷ words) c all =
    omega (arith, sum_by-cons (task_bound caps) n words, task_few caps n c (all 0 n (omega arith)), tasks_few caps words c (λ k d below. all (suc k) d (omega arith)))

-- the most bytes of a dump
bound_few : (shape : Shape) → IsShape shape → dump_bound shape ≤ 91964008
bound_few shape s =
    omega (arith, s.caps.control.few, s.caps.outputs.few, s.few_tasks, tasks_few shape.caps shape.words s.caps s.words)

pub dumps_of_runs_are_short : DumpsOfRunsAreShort
dumps_of_runs_are_short image script i f is =
    let h : History = run image script in
    let x : IsWide image h = run_wide image script i f is.ports in
    let w = window_is image h i x.good.sound in
    let short = run_short image script is in
    let bound = dumps_bounded (window_of image h) w (buffers_are image h i x.fits (omega (arith, short))) in
    omega (arith, bound, bound_few (window_of image h).shape w.shape)
