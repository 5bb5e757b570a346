-- What holds of every recorder, since it stands for a script.
use Rattle.std.specs.Prelude.{◌≡◌, ℕ, ◌+◌, ◌*◌, ◌<◌, ◌≤◌, length}
use Rattle.tm_kernel.specs.State.{IsKernel, nobody}
use Rattle.tm_kernel.specs.Schedule.{pick}
use Rattle.tm_kernel.specs.Nesting.{IsNested, IsSettled}
use Rattle.tm_image.specs.Image.{IsImage, entry_of, words_of, shape_of}
use Rattle.tm_check.specs.Checkpoint.{IsCheckKept}
use Rattle.tm_log.specs.Window.{IsWindow, log_of, checks_of}
use Rattle.tm_log.specs.WellFormed.{IsWellFormed}
use Rattle.tm_record.specs.StandsFor.{RecorderView, IsReal}
use Rattle.tm_system.specs.Moving.{task_in}

-- a slice makes at most 1,048,577 moments: its arrival and its instructions
abbrev pub most_moments : ℕ
most_moments = 1048577

-- no list has more items than the slices could make, but for the boot's checkpoint
pub record IsBounded (r : RecorderView) : Type 0 where
  pub control : r.window.control.total ≤ r.slices * most_moments
  pub outputs : r.window.outputs.total ≤ r.slices * most_moments
  pub logs : (task : ℕ) → task < length r.image.loads → (log_of r.window task).total ≤ r.slices * most_moments
  pub checks : (task : ℕ) → task < length r.image.loads → (checks_of r.window task).total ≤ r.slices * most_moments + 1

abbrev pub TotalsAreBounded : Type 0
TotalsAreBounded = (r : RecorderView) → IsReal r → IsBounded r

-- the window and the machine are of the image: the shape, the specification, and each task's entry and
-- number of data words; each task's checkpoint of its epoch is kept; and the kernel keeps its rules: the
-- running task is the picked one, the holders of resources are nested, and after the first slice, while
-- the run goes on, nobody runs only where no task can
pub record IsOfImage (r : RecorderView) : Type 0 where
  pub shape : r.window.shape ≡ shape_of r.image
  pub spec : r.machine.kernel.spec ≡ r.image.spec
  pub tasks : length r.machine.tasks ≡ length r.image.loads
  pub entry : (task : ℕ) → task < length r.image.loads → (task_in r.machine task).entry ≡ entry_of r.image task
  pub words : (task : ℕ) → task < length r.image.loads →
      length (task_in r.machine task).standing.body.words ≡ length (words_of r.image task)
  pub live : (task : ℕ) → task < length r.image.loads →
      IsCheckKept (checks_of r.window task) (task_in r.machine task).standing.epoch
  pub kernel : IsKernel r.machine.kernel
  pub nested : IsNested r.machine.kernel
  pub settled : IsSettled r.machine.kernel
  pub nobody_waits : 0 < r.slices → r.machine.kernel.ended ≡ 0 → r.machine.kernel.running ≡ nobody →
      pick r.machine.kernel ≡ nobody

abbrev pub RecordersAreOfTheirImage : Type 0
RecordersAreOfTheirImage = (r : RecorderView) → IsImage r.image → IsWindow r.window → IsReal r → IsOfImage r

-- the window is one that a run could have left, as far as its own numbers tell
abbrev pub RecordersAreWellFormed : Type 0
RecordersAreWellFormed = (r : RecorderView) → IsImage r.image → IsWindow r.window → IsReal r →
    IsWellFormed r.window (shape_of r.image)
