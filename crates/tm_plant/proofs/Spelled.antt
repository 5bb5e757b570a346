-- How the spelling of a number is read.
use Rattle.std.proofs.Common.{◌≡◌, ℕ, ◌+◌, ◌*◌, ◌/◌, ◌%◌, ◌^◌, ◌<◌, ◌≤◌, Bool, true, false, ◌&&◌, List, [], ◌∷◌, ◌++◌, length, decimal, Result, Ok, Err, nat_le, eqb, if◌then◌else◌, refl, ap, ◌∙◌, arith, tests}
use Rattle.std.specs.List.{list_all}
use Rattle.std.proofs.lemmas.Fmt.{decimal_by_steps, decimal_nonempty, length-decimal-le}
use Rattle.std.proofs.lemmas.List.Folds.{list_all-append}
use Rattle.tm_lines.specs.declared.fault.Reason.{Reason}
use Rattle.tm_lines.specs.Steps.{◌>>=◌}
use Rattle.tm_lines.specs.Numbers.{digit_in, hex_digit_in, digits_on, narrow, decimal_in, number_in}
use Rattle.tm_spelling.specs.Lines.{digit, hex8}
use Rattle.tm_plant.specs.Tape.{hex4}

-- the byte is a decimal digit
abbrev pub is_decimal : ℕ → Bool
is_decimal c = nat_le 48 c && nat_le c 57

-- one digit after another
digits_on-append : (spelled : ℕ → Result ℕ Reason) (base n m : ℕ) (front rest : List ℕ) →
    digits_on spelled base n front ≡ Ok m → digits_on spelled base n (front ++ rest) ≡ digits_on spelled base m rest
digits_on-append spelled base n m [] rest e = let same : n ≡ m = cc e in ap (λ x. digits_on spelled base x rest) same
digits_on-append spelled base n m (c ∷ front) rest e =
    go (spelled c) e (λ x more. digits_on-append spelled base (base * n + x) m front rest more)
  where
    go : (d : Result ℕ Reason) → (d >>= (λ x. digits_on spelled base (base * n + x) front)) ≡ Ok m →
        ((x : ℕ) → digits_on spelled base (base * n + x) front ≡ Ok m → digits_on spelled base (base * n + x) (front ++ rest) ≡ digits_on spelled base m rest) →
        (d >>= (λ x. digits_on spelled base (base * n + x) (front ++ rest))) ≡ digits_on spelled base m rest
    go (Ok x) e more = more x e
    go (Err reason) e more = cc e

digit_read : (d : ℕ) → d < 10 → digit_in (48 + d) ≡ Ok d
digit_read d h = grind (arith, tests)

hex_digit_read : (d : ℕ) → d < 16 → hex_digit_in (digit d) ≡ Ok d
hex_digit_read d h = grind (arith, tests)

-- a decimal number is of digits alone
pub decimal_digits : (n : ℕ) → n < 2 ^ 64 → list_all is_decimal (decimal n) ≡ true
decimal_digits n h = decimal_by_steps (λ _ ds. list_all is_decimal ds ≡ true) one more n h
  where
    one : (n : ℕ) → n < 10 → list_all is_decimal ((48 + n) ∷ []) ≡ true
    one n h = grind (arith, tests)

    more : (n : ℕ) (ds : List ℕ) → 10 ≤ n → list_all is_decimal ds ≡ true → list_all is_decimal (ds ++ ((48 + n % 10) ∷ [])) ≡ true
    more n ds h e = rw (list_all-append is_decimal ds ((48 + n % 10) ∷ []), e) (one (n % 10) (omega arith))

-- and its digits are read as the number
decimal_value : (n : ℕ) → n < 2 ^ 64 → digits_on digit_in 10 0 (decimal n) ≡ Ok n
decimal_value n h = decimal_by_steps (λ n ds. digits_on digit_in 10 0 ds ≡ Ok n) one more n h
  where
    one : (n : ℕ) → n < 10 → digits_on digit_in 10 0 ((48 + n) ∷ []) ≡ Ok n
    one n h = rw (digit_read n h) (ap Ok (omega arith))

    more : (n : ℕ) (ds : List ℕ) → 10 ≤ n → digits_on digit_in 10 0 ds ≡ Ok (n / 10) → digits_on digit_in 10 0 (ds ++ ((48 + n % 10) ∷ [])) ≡ Ok n
    more n ds h e =
        digits_on-append digit_in 10 0 (n / 10) ds ((48 + n % 10) ∷ []) e
        ∙ rw (digit_read (n % 10) (omega arith)) (ap Ok (omega arith))

-- decimal digits begin with no prefix
plain_number : (ds : List ℕ) → list_all is_decimal ds ≡ true → number_in ds ≡ decimal_in ds
unfolding number_in
plain_number [] e = refl
plain_number (c ∷ []) e = refl
plain_number (c ∷ x ∷ ds) e = go (eqb x 120) refl
  where
    go : (t : Bool) → eqb x 120 ≡ t → number_in (c ∷ x ∷ ds) ≡ decimal_in (c ∷ x ∷ ds)
    go true is = absurd (grind (arith, tests, e, is))
    go false is = grind (arith, tests, is)

-- a decimal number is read as it is
pub decimal_read : (n : ℕ) → n < 2 ^ 32 → number_in (decimal n) ≡ Ok n
decimal_read n h =
    plain_number (decimal n) (decimal_digits n (omega arith))
    ∙ long (nat_le 1 (length (decimal n))) (nat_le (length (decimal n)) 10) (grind (arith, tests, decimal_nonempty n (omega arith))) (grind (arith, tests, length-decimal-le 10 n (omega arith) (omega arith) (omega arith)))
  where
    long : (some few : Bool) → some ≡ true → few ≡ true → (if some && few then digits_on digit_in 10 0 (decimal n) >>= narrow else Err Reason.Number) ≡ Ok n
    long some few s f = rw (s, f, decimal_value n (omega arith)) (grind (arith, tests))

-- one more hexadecimal digit
onto : (before x after : ℕ) (rest : List ℕ) → x < 16 → 16 * before + x ≡ after →
    digits_on hex_digit_in 16 before (digit x ∷ rest) ≡ digits_on hex_digit_in 16 after rest
onto before x after rest small is = rw (hex_digit_read x small, is) refl

-- a mask is read as it is
pub hex4_read : (n : ℕ) → n < 65536 → number_in (48 ∷ 120 ∷ hex4 n) ≡ Ok n
unfolding number_in hex4
hex4_read n h =
    let t0 : List ℕ = [] in
    let t1 : List ℕ = digit (n % 16) ∷ t0 in
    let t2 : List ℕ = digit (n / 16 % 16) ∷ t1 in
    let t3 : List ℕ = digit (n / 16 ^ 2 % 16) ∷ t2 in
    onto 0 (n / 16 ^ 3 % 16) (n / 16 ^ 3) t3 (omega arith) (omega arith)
    ∙ onto (n / 16 ^ 3) (n / 16 ^ 2 % 16) (n / 16 ^ 2) t2 (omega arith) (omega arith)
    ∙ onto (n / 16 ^ 2) (n / 16 % 16) (n / 16) t1 (omega arith) (omega arith)
    ∙ onto (n / 16) (n % 16) n t0 (omega arith) (omega arith)

-- a word is read as it is
pub hex8_read : (n : ℕ) → n < 2 ^ 32 → number_in (48 ∷ 120 ∷ hex8 n) ≡ Ok n
unfolding number_in hex8
hex8_read n h =
    let t0 : List ℕ = [] in
    let t1 : List ℕ = digit (n % 16) ∷ t0 in
    let t2 : List ℕ = digit (n / 16 % 16) ∷ t1 in
    let t3 : List ℕ = digit (n / 16 ^ 2 % 16) ∷ t2 in
    let t4 : List ℕ = digit (n / 16 ^ 3 % 16) ∷ t3 in
    let t5 : List ℕ = digit (n / 16 ^ 4 % 16) ∷ t4 in
    let t6 : List ℕ = digit (n / 16 ^ 5 % 16) ∷ t5 in
    let t7 : List ℕ = digit (n / 16 ^ 6 % 16) ∷ t6 in
    onto 0 (n / 16 ^ 7 % 16) (n / 16 ^ 7) t7 (omega arith) (omega arith)
    ∙ onto (n / 16 ^ 7) (n / 16 ^ 6 % 16) (n / 16 ^ 6) t6 (omega arith) (omega arith)
    ∙ onto (n / 16 ^ 6) (n / 16 ^ 5 % 16) (n / 16 ^ 5) t5 (omega arith) (omega arith)
    ∙ onto (n / 16 ^ 5) (n / 16 ^ 4 % 16) (n / 16 ^ 4) t4 (omega arith) (omega arith)
    ∙ onto (n / 16 ^ 4) (n / 16 ^ 3 % 16) (n / 16 ^ 3) t3 (omega arith) (omega arith)
    ∙ onto (n / 16 ^ 3) (n / 16 ^ 2 % 16) (n / 16 ^ 2) t2 (omega arith) (omega arith)
    ∙ onto (n / 16 ^ 2) (n / 16 % 16) (n / 16) t1 (omega arith) (omega arith)
    ∙ onto (n / 16) (n % 16) n t0 (omega arith) (omega arith)

-- a length has at most seven digits
pub short_length : (n : ℕ) → n ≤ 1048576 → length (decimal n) ≤ 7
short_length n h = length-decimal-le 7 n (omega arith) (omega arith) (omega arith)
