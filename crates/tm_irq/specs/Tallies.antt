-- Counts for each line.
use Rattle.std.specs.Prelude.{◌≡◌, ℕ, ◌+◌, ◌-◌, ◌^◌, ◌<◌, not, ◌&&◌, ◌==◌, if◌then◌else◌, min, List, length, slice_index, sum_by, count_by}
use Rattle.std.specs.Int.{bit_at}
use Rattle.tm_irq.specs.declared.views.Deeds.{Deeds}

-- a count stands still at its greatest value
abbrev pub capped : ℕ → ℕ
capped n = min n (2 ^ 64 - 1)

-- the counts are those of the lines
pub record IsTally (counts : List ℕ) (number : ℕ → ℕ) : Type 0 where
  pub sixteen : length counts ≡ 16
  pub each : (line : ℕ) → line < 16 → slice_index counts line ≡ capped (number line)

-- each line's count grew by so many
pub record Gains (old new : List ℕ) (more : ℕ → ℕ) : Type 0 where
  pub sixteen : length old ≡ 16 → length new ≡ 16
  pub each : (line : ℕ) → line < 16 → slice_index new line ≡ capped (slice_index old line + more line)

-- how many raises of a line a device made, how many of them were joined, and how many fresh
abbrev pub raises_on : ℕ → Deeds → ℕ
raises_on line d = count_by (λ r. r.line == line) d.raises

abbrev pub joins_on : ℕ → Deeds → ℕ
joins_on line d = count_by (λ r. (r.line == line) && r.joined) d.raises

abbrev pub fresh_on : ℕ → Deeds → ℕ
fresh_on line d = count_by (λ r. (r.line == line) && not r.joined) d.raises

-- how many takes have a line
abbrev pub takes_on : List ℕ → ℕ → ℕ
takes_on takes line = sum_by (λ mask. bit_at mask line) takes

-- one of this line, and none of the others
abbrev pub one_line : ℕ → ℕ → ℕ
one_line line other = if other == line then 1 else 0
