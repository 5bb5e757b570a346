-- Counts that never fall: how they go up, and when a later value shows that they did.
use Rattle.std.specs.Prelude.{ℕ, ◌+◌, ◌-◌, ◌^◌, ◌<◌, ◌≤◌, ◌⊎◌, ◌==◌, Bool, if◌then◌else◌, nat_lt, List}
use Rattle.std.specs.List.{list_any}

-- the last value of a count
abbrev pub last_count : ℕ
last_count = 2 ^ 64 - 1

-- one more; a count stands still at its last value
abbrev pub counted : ℕ → ℕ
counted n = if nat_lt n last_count then n + 1 else n

-- a count rose where it is greater than before, or stands at its last value
abbrev pub Rose : ℕ → ℕ → Type 0
Rose before now = (before < now) ⊎ (last_count ≤ now)

-- the number stands in the list
abbrev pub is_listed : List ℕ → ℕ → Bool
is_listed numbers number = list_any (λ n. n == number) numbers
