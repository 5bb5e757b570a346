-- Turns, one after another.
use Rattle.std.specs.Prelude.{◌≡◌, ℕ, ◌+◌}
use Rattle.tm_image.specs.Image.{ImageView}
use Rattle.tm_system.specs.History.{History}
use Rattle.tm_system.specs.Run.{turns}

-- so many turns, and then some more, are as many as their sum
abbrev pub TurnsAdd : Type 0
TurnsAdd = (image : ImageView) (a b : ℕ) (h : History) → turns image (a + b) h ≡ turns image b (turns image a h)
