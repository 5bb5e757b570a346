-- What a recorder stands for: a script.
use Rattle.std.specs.Prelude.{◌≡◌, ℕ, ◌^◌, ◌<◌, List, length, All}
use Rattle.tm_marker.specs.declared.entries.Slice.{Slice}
use Rattle.tm_image.specs.Image.{ImageView}
use Rattle.tm_image.specs.Plan.{IsSlice}
use Rattle.tm_log.specs.Window.{WindowView}
use Rattle.tm_system.specs.Run.{run}
use Rattle.tm_system.specs.Machine.{MachineView, IsAt}
use Rattle.tm_record.specs.Window.{IsWindowOf}

-- the image, the machine and the window, and how many slices were done
pub record RecorderView : Type 0 where
  pub image : ImageView
  pub machine : MachineView
  pub window : WindowView
  pub slices : ℕ

-- the machine is where the script's run has led, the window is that of the run, and each slice was done
pub record StandsFor (image : ImageView) (recorder : RecorderView) (script : List Slice) : Type 0 where
  pub opened : recorder.image ≡ image
  pub machine : IsAt image recorder.machine (run image script)
  pub window : IsWindowOf image recorder.window (run image script)
  pub slices : recorder.slices ≡ length script

-- what every recorder keeps: there is a script of valid slices that it stands for, fewer than 2^32
pub record IsReal (recorder : RecorderView) : Type 0 where
  pub script : List Slice
  pub valid : All IsSlice script
  pub stands : StandsFor recorder.image recorder script
  pub few : recorder.slices < 2 ^ 32
