-- The kernel's part of a run that is published.
use Rattle.std.specs.Prelude.{◌≡◌, ℕ, ◌+◌, ◌-◌, ◌<◌, ◌≤◌, List, ◌++◌, length}
use mathlib.Core.List.{IsPrefix}
use Rattle.tm_marker.specs.declared.entries.Slice.{Slice}
use Rattle.tm_irq.specs.Lists.{KernelLists}
use Rattle.tm_irq.specs.Bench.{BenchLists}
use Rattle.tm_live.specs.Growth.{GrewBy}
use Rattle.tm_live.specs.Tape.{TapeView}
use Rattle.tm_live.specs.Kernel.{StaysSeated, tape_between}
use Rattle.tm_live.specs.Drive.{deeds_at}
use Rattle.tm_watch.specs.Views.{Watched}

-- a watch that published these slices more
abbrev pub published : Watched → List Slice → Watched
published watch slices = record watch { list = watch.list ++ slices }

-- so many slices of one length were taken, published and put on the tape
pub record PublishedSlices (count len : ℕ) (seat seat' : KernelLists) (tape tape' : TapeView) (watch watch' : Watched) : Type 0 where
  pub seated : StaysSeated seat seat'
  pub takes : GrewBy count seat.takes seat'.takes
  pub latches : GrewBy count seat.latches seat'.latches
  pub slices : tape'.slices ≡ tape.slices ++ tape_between seat seat' len
  pub room : tape'.room ≡ tape.room - count
  pub list : watch' ≡ published watch (tape_between seat seat' len)

-- at most so many slices were taken, and the watch is the same, whatever it published
pub record WentOn (most : ℕ) (seat seat' : KernelLists) (watch watch' : Watched) : Type 0 where
  pub seated : StaysSeated seat seat'
  pub takes : IsPrefix seat.takes seat'.takes
  pub few : length seat'.takes ≤ length seat.takes + most
  pub latches : IsPrefix seat.latches seat'.latches
  pub same : watch' ≡ record watch { list = watch'.list }

-- each list of a bench begins with what it was, and has at most so many takes more
pub record OnlyGrew (most : ℕ) (before after : BenchLists) : Type 0 where
  pub takes : IsPrefix before.takes after.takes
  pub few : length after.takes ≤ length before.takes + most
  pub latches : IsPrefix before.latches after.latches
  pub raises : (device : ℕ) → device < length before.deeds → IsPrefix (deeds_at before device).raises (deeds_at after device).raises
  pub stores : (device : ℕ) → device < length before.deeds → IsPrefix (deeds_at before device).stores (deeds_at after device).stores
