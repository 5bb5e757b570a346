-- What every body of a run keeps of what its task was loaded from.
use Rattle.std.specs.Prelude.{◌≡◌, ℕ, ◌%◌, ◌<◌, length}
use Rattle.tm_marker.specs.declared.body.Body.{Body}
use Rattle.tm_image.specs.Image.{Load, ImageView, load_of}
use Rattle.tm_system.specs.History.{History}
use Rattle.tm_system.specs.Run.{now, body_at}

-- a body that a task loaded from there can have
pub record IsBodyOf (load : Load) (b : Body) : Type 0 where
  pub aligned : b.pc % 4 ≡ 0
  pub words : length b.words ≡ length load.words

-- every task of the image has such a body
pub record HaveBodies (image : ImageView) (h : History) : Type 0 where
  pub number : length (now image h).bodies ≡ length image.loads
  pub each : (task : ℕ) → task < length image.loads → IsBodyOf (load_of image task) (body_at image h task)
