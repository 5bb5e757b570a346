-- How text files spell numbers and words.
use Rattle.std.specs.Prelude.{ℕ, ◌+◌, ◌-◌, ◌*◌, ◌^◌, ◌&&◌, List, [], ◌∷◌, length, ◌==◌, nat_lt, nat_le, if◌then◌else◌, Result, Ok, Err}
use Rattle.tm_lines.specs.declared.fault.Reason.{Reason}
use Rattle.tm_lines.specs.declared.fault.Reason.TheVariants.{Number}
use Rattle.tm_lines.specs.Steps.{◌>>=◌}

-- the value of a decimal digit, `0` to `9`
abbrev pub digit_in : ℕ → Result ℕ Reason
digit_in c = if nat_le 48 c && nat_le c 57 then Ok (c - 48) else Err Number

-- the value of a hexadecimal digit, of either case
abbrev pub hex_digit_in : ℕ → Result ℕ Reason
hex_digit_in c =
    if nat_le 97 c && nat_le c 102 then Ok (c - 87)
    else (if nat_le 65 c && nat_le c 70 then Ok (c - 55) else digit_in c)

-- the number whose digits are those of n and then these, in a base
abbrev pub digits_on : (ℕ → Result ℕ Reason) → ℕ → ℕ → List ℕ → Result ℕ Reason
digits_on digit base n [] = Ok n
digits_on digit base n (c ∷ cs) = do
  d ← digit c
  digits_on digit base (base * n + d) cs

-- the value fits 32 bits
abbrev pub narrow : ℕ → Result ℕ Reason
narrow n = if nat_lt n (2 ^ 32) then Ok n else Err Number

-- 1 to 10 decimal digits, with a value below 2 ^ 32
abbrev pub decimal_in : List ℕ → Result ℕ Reason
decimal_in digits =
    if nat_le 1 (length digits) && nat_le (length digits) 10 then digits_on digit_in 10 0 digits >>= narrow
    else Err Number

-- hexadecimal digits, as many as are between the two bounds
abbrev pub hex_in : ℕ → ℕ → List ℕ → Result ℕ Reason
hex_in least most digits =
    if nat_le least (length digits) && nat_le (length digits) most then digits_on hex_digit_in 16 0 digits
    else Err Number

-- a number: `0x` and 1 to 8 hexadecimal digits, or a decimal number
unfoldable pub number_in : List ℕ → Result ℕ Reason
number_in (c ∷ x ∷ digits) = if c == 48 && x == 120 then hex_in 1 8 digits else decimal_in (c ∷ x ∷ digits)
number_in digits = decimal_in digits

-- a word: eight hexadecimal digits
unfoldable pub word_in : List ℕ → Result ℕ Reason
word_in token = hex_in 8 8 token

-- what each of the tokens spells
abbrev pub all_in : (List ℕ → Result ℕ Reason) → List (List ℕ) → Result (List ℕ) Reason
all_in spelled [] = Ok []
all_in spelled (token ∷ rest) = do
  n ← spelled token
  ns ← all_in spelled rest
  Ok (n ∷ ns)
