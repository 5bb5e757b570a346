-- The numbers that words spell.
use Rattle.std.specs.Prelude.{ℕ, ◌+◌, ◌-◌, ◌*◌, Bool, ◌&&◌, nat_le, if◌then◌else◌, List, length, fold, Option, Some, None}
use Rattle.std.specs.List.{list_all}

-- a decimal digit, `0` to `9`
abbrev pub is_digit : ℕ → Bool
is_digit c = nat_le 48 c && nat_le c 57

-- the number that decimal digits spell
abbrev pub digits_value : List ℕ → ℕ
digits_value digits = fold (λ n c. 10 * n + (c - 48)) 0 digits

-- the number that 1 to 20 decimal digits spell, where it is in a range
unfoldable pub number_in : ℕ → ℕ → List ℕ → Option ℕ
number_in least most digits =
    if nat_le 1 (length digits) && nat_le (length digits) 20 && list_all is_digit digits
    && nat_le least (digits_value digits) && nat_le (digits_value digits) most
    then Some (digits_value digits) else None

-- the number of a task, 0 to 15, in one or two decimal digits
unfoldable pub task_in : List ℕ → Option ℕ
task_in digits = if nat_le (length digits) 2 then number_in 0 15 digits else None
