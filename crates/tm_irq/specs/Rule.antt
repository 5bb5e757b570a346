-- The rule of the five words: what holds of them and of all views between any two steps of any threads.
-- Word 0 has the bits of the lines that pend, and above them the number of takes; words 1 to 4 are the ports.
use Rattle.std.specs.Prelude.{◌≡◌, ◌≢◌, ℕ, ◌+◌, ◌*◌, ◌^◌, ◌<◌, ◌≤◌, ◌⊎◌, true, false, nat_lt, if◌then◌else◌, List, [], ◌∷◌, ◌++◌, length, slice_index, All}
use Rattle.std.specs.Int.{bit_at}
use mathlib.Core.Option.{some}
use lib.ListN.{get_elem?}
use Rattle.atomic_table.specs.Table.{State}
use Rattle.tm_irq.specs.declared.views.View.{View}
use Rattle.tm_irq.specs.Views.{fresh, joined, stored, seen, missed, of_device, late, in_all}

-- the five words, no slot, and the views
abbrev pub Board : Type 0
Board = State (Unit {0}) View

-- a view that isn't the kernel's: no take and no latch stands in it, and the deeds of one device at most
pub record IsDevice (v : View) : Type 0 where
  pub kernel : v.kernel ≡ false
  pub takes : v.takes ≡ []
  pub latches : v.latches ≡ []
  pub latching : v.latching ≡ []
  pub deeds : length v.deeds ≤ 1

-- exactly one view is the kernel's, and each device's deeds stand in one place
pub record IsSeated (devices seat : ℕ) (kernel : View) (views : List View) : Type 0 where
  pub there : get_elem? views seat ≡ some kernel
  pub is_kernel : kernel.kernel ≡ true
  pub knows : kernel.devices ≡ devices
  pub others : (id : ℕ) (v : View) → get_elem? views id ≡ some v → id ≢ seat → IsDevice v
  pub places : (d : ℕ) → in_all (of_device d) views ≡ (if nat_lt d devices then 1 else 0)

-- 1 where the mask with this number has the line, else 0. The takes are numbered from 0, the bits that pend
-- come after them, and no mask comes after these
abbrev pub has_line : List ℕ → ℕ → ℕ → ℕ → ℕ
has_line takes pending number line = bit_at (slice_index (takes ++ pending ∷ []) number) line

-- Balance: a line has a fresh raise with a number exactly where the mask with this number has the line, and
-- one at most; a joined raise stands only beside a fresh one; no number is above the number of takes
pub record IsBalanced (takes : List ℕ) (word : ℕ) (views : List View) : Type 0 where
  pub pending : ℕ
  pub lines : pending < 65536
  pub parts : word ≡ pending + 65536 * length takes
  pub one_fresh : (line number : ℕ) → in_all (fresh line number) views ≡ has_line takes pending number line
  pub beside : (line number : ℕ) → in_all (fresh line number) views ≡ 0 → in_all (joined line number) views ≡ 0
  pub numbers : in_all (late (length takes)) views ≡ 0

-- the value is 0 or was stored in the port
abbrev pub WasStored : List View → ℕ → ℕ → Type 0
WasStored views port value = (value < 2 ^ 32) × ((value ≡ 0) ⊎ (0 < in_all (stored port value) views))

-- each of these values, by port
abbrev pub WereStored : List View → List ℕ → Type 0
WereStored views values = (port : ℕ) → port < length values → WasStored views port (slice_index values port)

-- Stored: each port's word, and each word of each latch, is 0 or was stored in that port
pub record IsStored (kernel : View) (words : List ℕ) (views : List View) : Type 0 where
  pub ports : (port : ℕ) → port < 4 → WasStored views port (slice_index words (port + 1))
  pub latches : All (WereStored views) kernel.latches
  pub latching : WereStored views kernel.latching

-- Glances: a line that a glance found has a fresh raise with the glance's number, and no glance missed what its own
-- device had raised with that number
pub record IsGlanced (views : List View) : Type 0 where
  pub found : (line number : ℕ) → in_all (fresh line number) views ≡ 0 → in_all (seen line number) views ≡ 0
  pub own : in_all missed views ≡ 0

-- the rule of a table with so many devices
pub record Keeps (devices : ℕ) (s : Board) : Type 0 where
  pub seat : ℕ
  pub kernel : View
  pub five : length s.words ≡ 5
  pub seated : IsSeated devices seat kernel s.views
  pub balanced : IsBalanced kernel.takes (slice_index s.words 0) s.views
  pub stored : IsStored kernel s.words s.views
  pub glances : IsGlanced s.views
