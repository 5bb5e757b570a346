-- What each kind of step tells the seat that makes it.
use Rattle.std.specs.Prelude.{◌≡◌, ℕ, ◌+◌, ◌/◌, ◌%◌, ◌^◌, ◌<◌, ◌==◌, [], ◌∷◌, ◌++◌}
use Rattle.std.specs.Int.{bit_at}
use Rattle.atomic_table.specs.Table.{Me, Step}
use Rattle.tm_irq.specs.declared.views.Raise.{Raise}
use Rattle.tm_irq.specs.declared.views.Store.{Store}
use Rattle.tm_irq.specs.declared.views.View.{View}
use Rattle.tm_irq.specs.Views.{with_raise, with_store, with_glance}
use Rattle.tm_irq.specs.Audit.{AllHome, IsSettled}

abbrev Mine : Type 0
Mine = Me (Unit {0}) View

-- a raise of a line that found this in word 0
abbrev pub raise_of : ℕ → ℕ → Raise
raise_of line found = record { line = line; joined = bit_at found line == 1; number = found / 65536 }

-- a store of a value in a port
abbrev pub store_of : ℕ → ℕ → Store
store_of port value = record { port = port; value = value }

-- a raise: the operand has the bit of a line alone, and the raise is added
abbrev pub Raises : Step (Unit {0}) → Mine → ℕ → Mine → Type 0
Raises s v found w = (line : ℕ) × (s.first ≡ 2 ^ line) × (w ≡ (with_raise (raise_of line found) v.0, v.1))

-- a take: the lines that were found are added as one mask
abbrev pub Takes : Step (Unit {0}) → Mine → ℕ → Mine → Type 0
Takes s v found w = w ≡ (record v.0 { takes = v.0.takes ++ (found % 65536) ∷ [] }, v.1)

-- a set: the store is added
abbrev pub Sets : Step (Unit {0}) → Mine → ℕ → Mine → Type 0
Sets s v value w = (port : ℕ) × (s.word ≡ port + 1) × (w ≡ (with_store (store_of port value) v.0, v.1))

-- a port is loaded for a latch that goes on: one more word of it
abbrev pub Latches : Step (Unit {0}) → Mine → ℕ → Mine → Type 0
Latches s v found w = (found < 2 ^ 32) × (w ≡ (record v.0 { latching = v.0.latching ++ found ∷ [] }, v.1))

-- the last port is loaded: the latch is added
abbrev pub EndsLatch : Step (Unit {0}) → Mine → ℕ → Mine → Type 0
EndsLatch s v found w = (found < 2 ^ 32) × (w ≡ (record v.0 { latches = v.0.latches ++ (v.0.latching ++ found ∷ []) ∷ []; latching = [] }, v.1))

-- a glance changes no word; it finds the lines that pend, and is added
abbrev pub Glances : Step (Unit {0}) → Mine → ℕ → Mine → Type 0
Glances s v found w = w ≡ (with_glance (found % 65536) (found / 65536) v.0, v.1)

-- the last glance: with every device home, all entries stand in the kernel's view
abbrev pub Settles : Step (Unit {0}) → Mine → ℕ → Mine → Type 0
Settles s v found w = (w ≡ v) × (AllHome v.0.devices v.0.deeds → IsSettled v.0.takes v.0.latches v.0.deeds (found % 65536))
