-- What contracts see of the seats: their lists.
use Rattle.std.specs.Prelude.{◌≡◌, ℕ, ◌<◌, ◌≤◌, List, [], ◌∷◌, length, slice_index_or}
use Rattle.atomic_table.specs.Seated.{TableId}
use Rattle.atomic_table.specs.declared.shared.Seat.{Seat}
use Rattle.tm_irq.specs.declared.views.Raise.{Raise}
use Rattle.tm_irq.specs.declared.views.Store.{Store}
use Rattle.tm_irq.specs.declared.views.Glance.{Glance}
use Rattle.tm_irq.specs.declared.views.Deeds.{Deeds}
use Rattle.tm_irq.specs.declared.views.View.{View}
use Rattle.tm_irq.specs.Views.{no_deeds}

-- the kernel's seat: its table and the number of the table's devices, its takes and latches, and the deeds of
-- the devices that are home with it
pub record KernelLists : Type 0 where
  pub table : TableId
  pub devices : ℕ
  pub takes : List ℕ
  pub latches : List (List ℕ)
  pub home : List Deeds

-- a device's seat: its table, the device's number, its raises, its stores and its glances
pub record DeviceLists : Type 0 where
  pub table : TableId
  pub device : ℕ
  pub raises : List Raise
  pub stores : List Store
  pub glances : List Glance

abbrev pub Token : Type 0
Token = Seat (Unit {0}) View

abbrev pub kernel_lists : Token → KernelLists
kernel_lists s = record { table = s.table_id; devices = s.me.0.devices; takes = s.me.0.takes; latches = s.me.0.latches; home = s.me.0.deeds }

-- the deeds of a view that has those of one device
abbrev pub only : List Deeds → Deeds
only [] = no_deeds 0
only (d ∷ ds) = d

abbrev pub deeds_lists : TableId → Deeds → DeviceLists
deeds_lists table d = record { table = table; device = d.device; raises = d.raises; stores = d.stores; glances = d.glances }

abbrev pub device_lists : Token → DeviceLists
device_lists s = deeds_lists s.table_id (only s.me.0.deeds)

-- the deeds that a device's seat has
abbrev pub deeds_of : DeviceLists → Deeds
deeds_of d = record { device = d.device; raises = d.raises; stores = d.stores; glances = d.glances }

-- an open bench has 1 to 8 devices, each by its number, all at the kernel's table, and none is home
pub record AreSeats (k : KernelLists) (devices : List DeviceLists) : Type 0 where
  pub some : 0 < length devices
  pub few : length devices ≤ 8
  pub count : k.devices ≡ length devices
  pub away : length k.home ≡ 0
  pub tables : (i : ℕ) (d : DeviceLists) → i < length devices → (slice_index_or devices i d).table ≡ k.table
  pub names : (i : ℕ) (d : DeviceLists) → i < length devices → (slice_index_or devices i d).device ≡ i
