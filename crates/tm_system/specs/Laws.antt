-- What holds of every run of a script.
use Rattle.std.specs.Prelude.{◌≡◌, ◌≢◌, ◌<◌, List, length}
use Rattle.tm_marker.specs.declared.entries.Slice.{Slice}
use Rattle.tm_kernel.specs.State.{IsKernel, nobody}
use Rattle.tm_kernel.specs.Schedule.{pick}
use Rattle.tm_kernel.specs.Nesting.{IsNested, IsSettled}
use Rattle.tm_image.specs.Image.{ImageView, IsImage}
use Rattle.tm_system.specs.History.{History}
use Rattle.tm_system.specs.Run.{now, running_at, run}
use Rattle.tm_system.specs.Follows.{IsRun}

-- at a moment: the kernel is one of the image's specification and keeps what every kernel keeps, there is
-- one body for each task, and nobody runs after the end; the holders of resources are nested, and the
-- running task is the picked one, so that no declared user finds a resource held by another task; after
-- the first moment, while the run goes on, nobody runs only where no task can
pub record IsSoundAt (image : ImageView) (h : History) : Type 0 where
  pub spec : (now image h).kernel.spec ≡ image.spec
  pub kernel : IsKernel (now image h).kernel
  pub bodies : length (now image h).bodies ≡ length image.loads
  pub idle : (now image h).kernel.ended ≢ 0 → running_at image h ≡ nobody
  pub nested : IsNested (now image h).kernel
  pub settled : IsSettled (now image h).kernel
  pub nobody_waits : 0 < length h → (now image h).kernel.ended ≡ 0 → running_at image h ≡ nobody →
      pick (now image h).kernel ≡ nobody

-- every script's run of an image is a run: boot, and moments that each follow
abbrev pub ScriptsAreRuns : Type 0
ScriptsAreRuns = (image : ImageView) (script : List Slice) → IsImage image → IsRun image (run image script)

-- and it is sound at its last moment, so at each
abbrev pub ScriptsAreSound : Type 0
ScriptsAreSound = (image : ImageView) (script : List Slice) → IsImage image → IsSoundAt image (run image script)
