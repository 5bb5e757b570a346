-- What a seat keeps.
use Rattle.std.specs.Prelude.{◌≡◌, ℕ, ◌^◌, ◌<◌, ◌≤◌, true, false, List, [], ◌∷◌, length, sum_by}
use Rattle.atomic_table.specs.Seated.{TableId}
use Rattle.tm_irq.specs.Lists.{Token, only}
use Rattle.tm_irq.specs.Tallies.{IsTally, raises_on, joins_on, takes_on}

-- what a device's seat keeps: it has the deeds of one device, and the counts are those of its raises
pub record IsDeviceSeat (table : TableId) (seat : Token) (raised joined : List ℕ) : Type 0 where
  pub fits : seat.table_id ≡ table
  pub five : table.words ≡ 5
  pub bare : seat.me.1 ≡ []
  pub kernel : seat.me.0.kernel ≡ false
  pub single : seat.me.0.deeds ≡ only seat.me.0.deeds ∷ []
  pub raises : IsTally raised (λ line. raises_on line (only seat.me.0.deeds))
  pub joins : IsTally joined (λ line. joins_on line (only seat.me.0.deeds))

-- what the kernel's seat keeps: no latch is in progress, and the counts are those of its takes and of the raises of the devices that are home
pub record IsKernelSeat (table : TableId) (seat : Token) (number : ℕ) (raised joined taken : List ℕ) : Type 0 where
  pub fits : seat.table_id ≡ table
  pub five : table.words ≡ 5
  pub bare : seat.me.1 ≡ []
  pub kernel : seat.me.0.kernel ≡ true
  pub latching : seat.me.0.latching ≡ []
  pub numbered : number ≡ length seat.me.0.takes
  pub few : number ≤ 2 ^ 47
  pub raises : IsTally raised (λ line. sum_by (raises_on line) seat.me.0.deeds)
  pub joins : IsTally joined (λ line. sum_by (joins_on line) seat.me.0.deeds)
  pub takes : IsTally taken (takes_on seat.me.0.takes)

-- the kernel's seat stands at this table, and has read so many ports for the latch that it makes
pub record Reads (table : TableId) (seat : Token) (port : ℕ) : Type 0 where
  pub fits : seat.table_id ≡ table
  pub five : table.words ≡ 5
  pub kernel : seat.me.0.kernel ≡ true
  pub within : port < 4
  pub so_far : length seat.me.0.latching ≡ port
