-- What stands in the lists of a table once every device is home, and what an audit counts.
use Rattle.std.specs.Prelude.{◌≡◌, ℕ, ◌+◌, ◌<◌, ◌⊎◌, List, length, slice_index, sum_by, All}
use Rattle.std.specs.Int.{bit_at}
use Rattle.tm_irq.specs.declared.views.Glance.{Glance}
use Rattle.tm_irq.specs.declared.views.Deeds.{Deeds}
use Rattle.tm_irq.specs.declared.audit.Audit.{Audit}
use Rattle.tm_irq.specs.Views.{fresh, joined, stored, seen, missed, late, of_device}
use Rattle.tm_irq.specs.Rule.{has_line}
use Rattle.tm_irq.specs.Tallies.{IsTally, raises_on, joins_on, takes_on}

-- every device of the table is home
abbrev pub AllHome : ℕ → List Deeds → Type 0
AllHome devices home = (d : ℕ) → d < devices → sum_by (of_device d) home ≡ 1

-- the word of a latch is 0 or was stored in that port
abbrev pub WasSet : List Deeds → ℕ → ℕ → Type 0
WasSet deeds port word = (word ≡ 0) ⊎ (0 < sum_by (stored port word) deeds)

-- Balance, Stored and Glances, of the deeds of all devices: a line has a fresh raise with a number exactly where the take
-- with this number has the line, or, after all takes, where the line pends; a joined raise stands only beside a
-- fresh one; no number is above the number of takes; each word of each latch is 0 or was stored in its port; what a glance
-- found has a fresh raise with its number, and no glance missed what its own device had raised with that number
pub record IsSettled (takes : List ℕ) (latches : List (List ℕ)) (deeds : List Deeds) (pending : ℕ) : Type 0 where
  pub one_fresh : (line number : ℕ) → sum_by (fresh line number) deeds ≡ has_line takes pending number line
  pub beside : (line number : ℕ) → sum_by (fresh line number) deeds ≡ 0 → sum_by (joined line number) deeds ≡ 0
  pub numbers : sum_by (late (length takes)) deeds ≡ 0
  pub words : All (λ latch. (port : ℕ) → port < length latch → WasSet deeds port (slice_index latch port)) latches
  pub found : (line number : ℕ) → sum_by (fresh line number) deeds ≡ 0 → sum_by (seen line number) deeds ≡ 0
  pub own : sum_by missed deeds ≡ 0

-- a take has a line exactly where a fresh raise of this line has the take's number
abbrev pub TakesFit : List ℕ → List Deeds → Type 0
TakesFit takes deeds = (number line : ℕ) → number < length takes → bit_at (slice_index takes number) line ≡ sum_by (fresh line number) deeds

-- each word of each latch is 0 or was stored in its port
abbrev pub LatchesFit : List (List ℕ) → List Deeds → Type 0
LatchesFit latches deeds = All (λ latch. (port : ℕ) → port < length latch → WasSet deeds port (slice_index latch port)) latches

-- a glance: each line of its mask has a fresh raise with its number, and the lines that its device had raised before
-- with this number are in the mask
pub record IsTrueGlance (deeds : List Deeds) (g : Glance) : Type 0 where
  pub lines : (line : ℕ) → bit_at g.mask line ≡ 1 → 0 < sum_by (fresh line g.number) deeds
  pub own : All (λ r. r.number ≡ g.number → bit_at g.mask r.line ≡ 1) g.before

-- each glance of each device
abbrev pub GlancesFit : List Deeds → Type 0
GlancesFit deeds = All (λ d. All (IsTrueGlance deeds) d.glances) deeds

-- how many raises all devices made
abbrev pub raises_in : List Deeds → ℕ
raises_in deeds = sum_by (λ d. length d.raises) deeds

-- the audit counts the lists, each count up to 2^64 - 1
pub record IsAudit (a : Audit) (takes : List ℕ) (deeds : List Deeds) : Type 0 where
  pub raised : IsTally a.raised (λ line. sum_by (raises_on line) deeds)
  pub joined : IsTally a.joined (λ line. sum_by (joins_on line) deeds)
  pub taken : IsTally a.taken (takes_on takes)
  pub pending : IsTally a.pending (λ line. sum_by (fresh line (length takes)) deeds)

-- every raise of a line is accounted for
abbrev pub Balances : Audit → ℕ → Type 0
Balances a line = slice_index a.raised line ≡ slice_index a.joined line + slice_index a.taken line + slice_index a.pending line
