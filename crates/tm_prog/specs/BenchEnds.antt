-- What a call leaves of the bench.
use Rattle.std.specs.Prelude.{◌≡◌, ℕ, ◌<◌, ◌^◌, Bool, List, Option, Some, None, Result, Ok, IsTrue}
use Rattle.tm_irq.specs.declared.audit.Audit.{Audit}
use Rattle.tm_irq.specs.declared.bench.Bench.{Bench}
use Rattle.tm_irq.specs.Audit.{IsAudit, IsSettled, TakesFit, LatchesFit, GlancesFit, Balances, raises_in}
use Rattle.tm_irq.specs.Bench.{BenchLists, bench_lists}
use Rattle.tm_plant.specs.declared.plant.Act.{Act}
use Rattle.tm_plant.specs.Plant.{acts_of}
use Rattle.tm_plant.specs.Plays.{raised_by, stored_by}
use Rattle.tm_live.specs.Growth.{GrewBy}
use Rattle.tm_live.specs.Devices.{GrewByRaises, GrewByStores}
use Rattle.tm_live.specs.Drive.{deeds_at}
use Rattle.tm_io.specs.Shelf.{ShelfView}
use Rattle.tm_words.specs.declared.command.Command.{Command}
use Rattle.tm_words.specs.declared.command.Command.TheVariants.{Live}
use Rattle.tm_prog.specs.declared.status.Status.{Status}
use Rattle.tm_prog.specs.Class.{Class, Done, HalfDone}
use Rattle.tm_prog.specs.Files.{plant_in}

-- the lines were taken and the ports latched so often, and each of the eight devices raised and stored what the
-- plant gives it: nothing, where the plant has no such device
pub record WasDriven (slices : ℕ) (plant : List (List Act)) (before after : BenchLists) : Type 0 where
  pub takes : GrewBy slices before.takes after.takes
  pub latches : GrewBy slices before.latches after.latches
  pub raises : (device : ℕ) → device < 8 → GrewByRaises (raised_by (acts_of plant device)) (deeds_at before device).raises (deeds_at after device).raises
  pub stores : (device : ℕ) → device < 8 → GrewByStores (stored_by (acts_of plant device)) (deeds_at before device).stores (deeds_at after device).stores

-- the audit counts the lists of a bench, and every take, latch and glance fits them
pub record IsAuditOf (audit : Audit) (lists : BenchLists) : Type 0 where
  pub counts : IsAudit audit lists.takes lists.deeds
  pub takes : TakesFit lists.takes lists.deeds
  pub latches : LatchesFit lists.latches lists.deeds
  pub glances : GlancesFit lists.deeds
  pub settled : (pending : ℕ) × IsSettled lists.takes lists.latches lists.deeds pending
  pub balance : raises_in lists.deeds < 2 ^ 64 → (line : ℕ) → line < 16 → Balances audit line

-- the bench is closed by the audit of its lists
pub record IsClosedBy (audit : Audit) (bench : Bench) : Type 0 where
  pub shut : bench.kernel ≡ None
  pub closed : bench.closed ≡ Some audit
  pub audited : IsAuditOf audit (bench_lists bench)

-- the bench was driven by a plant and then closed
pub record RanLive (slices : ℕ) (plant : List (List Act)) (before after : Bench) : Type 0 where
  pub audit : Audit
  pub driven : WasDriven slices plant (bench_lists before) (bench_lists after)
  pub closed : IsClosedBy audit after

-- by the plant that the second file says, where the shelf tells its contents
pub record RanPlant (slices : ℕ) (said : Option (Result (List (List Act)) Status)) (tells : Bool) (before after : Bench) : Type 0 where
  pub plant : List (List Act)
  pub told : IsTrue tells → said ≡ Some (Ok plant)
  pub ran : RanLive slices plant before after

-- what was done leaves the bench so: only `live` drives it
abbrev pub Drives : Option Command → ShelfView → Bench → Bench → Type 0
Drives (Some (Live image plant dump slices len tape)) shelf before after = RanPlant slices (plant_in (shelf.content plant)) shelf.tells before after
Drives _ shelf before after = after ≡ before

-- a call that does nothing of what it is asked for leaves the bench as it was
abbrev pub BenchEnds : Class → Option Command → ShelfView → Bench → Bench → Type 0
BenchEnds Done command shelf before after = Drives command shelf before after
BenchEnds HalfDone command shelf before after = Drives command shelf before after
BenchEnds _ command shelf before after = after ≡ before
