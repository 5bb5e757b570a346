-- The list of differences, after a change.
use Rattle.std.proofs.Common.{◌≡◌, ℕ, zero, suc, ◌+◌, ◌-◌, ◌<◌, ◌≤◌, ◌==◌, nat_le, Bool, true, false, not, cond, if◌then◌else◌, List, [], ◌∷◌, ◌++◌, length, take, drop, get_or, refl, sym, ◌∙◌, ap, arith, slice_set, length-append, length-take, length-drop, nat_lt, Some, None}
use Rattle.std.specs.List.{insert, remove, position_or_len, position}
use Rattle.std.proofs.lemmas.Bool.{leb-false, ltb-true, ltb-false}
use Rattle.std.proofs.lemmas.List.{take_at, drop_at, drop_more, get_or-take, length-take-le}
use Rattle.std.proofs.lemmas.Option.{cond_some, none-some}
use Rattle.tm_services.specs.declared.waiting.Entry.{Entry}
use Rattle.tm_services.specs.Waiting.{sooner, later, place_of, rest_of, inserted, without, FirstWaitsFor}
use Rattle.tm_services.proofs.Places.{take_put}

-- the entry at a place, due sooner and later
pub take_sooner : (n i ticks : ℕ) (xs : List Entry) (d : Entry) → i < n → n ≤ length xs →
    take n (slice_set xs i (record (get_or xs i d) { wait = (get_or xs i d).wait - ticks })) ≡
    take i (take n xs) ++ sooner ticks (drop i (take n xs))
take_sooner n i ticks xs d within fits =
    let es : List Entry = take n xs in
    let rest : drop i es ≡ get_or es i d ∷ drop (i + 1) es = drop_more es i d (omega (arith, length-take-le n xs fits)) in
    let same : get_or es i d ≡ get_or xs i d = get_or-take n xs i d within in
    let next : suc i ≡ i + 1 = omega arith in
    take_put n i xs (record (get_or xs i d) { wait = (get_or xs i d).wait - ticks }) within fits
    ∙ rw (rest, same, next) refl

pub take_later : (n i ticks : ℕ) (xs : List Entry) (d : Entry) → i < n → n ≤ length xs →
    take n (slice_set xs i (record (get_or xs i d) { wait = (get_or xs i d).wait + ticks })) ≡
    take i (take n xs) ++ later ticks (drop i (take n xs))
take_later n i ticks xs d within fits =
    let es : List Entry = take n xs in
    let rest : drop i es ≡ get_or es i d ∷ drop (i + 1) es = drop_more es i d (omega (arith, length-take-le n xs fits)) in
    let same : get_or es i d ≡ get_or xs i d = get_or-take n xs i d within in
    let next : suc i ≡ i + 1 = omega arith in
    let sum : (get_or xs i d).wait + ticks ≡ ticks + (get_or xs i d).wait = omega arith in
    take_put n i xs (record (get_or xs i d) { wait = (get_or xs i d).wait + ticks }) within fits
    ∙ rw (rest, same, next, sum) refl

-- the place of a new entry is in the list, and the entry there is due later
pub place_of-le : (ticks : ℕ) (es : List Entry) → place_of ticks es ≤ length es
place_of-le ticks [] = omega arith
place_of-le ticks (e ∷ es) = go (place_of-le (ticks - e.wait) es) (nat_le e.wait ticks)
  where
    go : place_of (ticks - e.wait) es ≤ length es → (b : Bool) → (if b then suc (place_of (ticks - e.wait) es) else 0) ≤ suc (length es)
    go rest true = omega arith
    go rest false = omega arith

pub waits_at_place : (ticks : ℕ) (es : List Entry) → FirstWaitsFor (rest_of ticks es) (drop (place_of ticks es) es)
waits_at_place ticks [] = tt
waits_at_place ticks (e ∷ es) = go (waits_at_place (ticks - e.wait) es) (nat_le e.wait ticks) refl
  where
    go : FirstWaitsFor (rest_of (ticks - e.wait) es) (drop (place_of (ticks - e.wait) es) es) → (b : Bool) → nat_le e.wait ticks ≡ b →
        FirstWaitsFor (if b then rest_of (ticks - e.wait) es else ticks) (drop (if b then suc (place_of (ticks - e.wait) es) else 0) (e ∷ es))
    go rest true is = rest
    go rest false is = omega (arith, leb-false e.wait ticks is)

-- the list with a new entry, by its place
pub inserted_at : (es : List Entry) (new : Entry) →
    inserted new es ≡ take (place_of new.wait es) es ++ (record new { wait = rest_of new.wait es } ∷ sooner (rest_of new.wait es) (drop (place_of new.wait es) es))
inserted_at [] new = refl
inserted_at (e ∷ es) new = go (inserted_at es (record new { wait = new.wait - e.wait })) (nat_le e.wait new.wait)
  where
    go : inserted (record new { wait = new.wait - e.wait }) es ≡
        take (place_of (new.wait - e.wait) es) es
        ++ (record new { wait = rest_of (new.wait - e.wait) es } ∷ sooner (rest_of (new.wait - e.wait) es) (drop (place_of (new.wait - e.wait) es) es)) →
        (b : Bool) → (if b then e ∷ inserted (record new { wait = new.wait - e.wait }) es else new ∷ sooner new.wait (e ∷ es)) ≡
        take (if b then suc (place_of (new.wait - e.wait) es) else 0) (e ∷ es)
        ++ (record new { wait = if b then rest_of (new.wait - e.wait) es else new.wait }
        ∷ sooner (if b then rest_of (new.wait - e.wait) es else new.wait) (drop (if b then suc (place_of (new.wait - e.wait) es) else 0) (e ∷ es)))
    go rest true = ap (λ (xs : List Entry). e ∷ xs) rest
    go rest false = refl

length-sooner : (ticks : ℕ) (es : List Entry) → length (sooner ticks es) ≡ length es
length-sooner ticks [] = refl
length-sooner ticks (e ∷ es) = refl

-- as many entries, where one is due sooner
pub length-brought : (i ticks : ℕ) (es : List Entry) → length (take i es ++ sooner ticks (drop i es)) ≡ length es
length-brought i ticks es =
    omega (arith, length-append (take i es) (sooner ticks (drop i es)), length-sooner ticks (drop i es), length-take i es, length-drop i es)

-- the same, from what the code does
pub insert_is : (es mid : List Entry) (new : Entry) →
    mid ≡ take (place_of new.wait es) es ++ sooner (rest_of new.wait es) (drop (place_of new.wait es) es) →
    insert mid (place_of new.wait es) (record new { wait = rest_of new.wait es }) ≡ inserted new es
insert_is es mid new is =
    let front : List Entry = take (place_of new.wait es) es in
    let back : List Entry = sooner (rest_of new.wait es) (drop (place_of new.wait es) es) in
    let long : length front ≡ place_of new.wait es = length-take-le (place_of new.wait es) es (place_of-le new.wait es) in
    rw (is, take_at front back (place_of new.wait es) long, drop_at front back (place_of new.wait es) long)
    (sym (inserted_at es new))

-- whether an entry is the alarm's
abbrev pub is_of : ℕ → Entry → Bool
is_of alarm e = e.alarm == alarm

-- the place that is found
pub place_found : (alarm : ℕ) (es : List Entry) (i : ℕ) → position (is_of alarm) es ≡ Some i →
    (i ≡ position_or_len (is_of alarm) es) × (i < length es)
place_found alarm es i is =
    let at = cond_some (nat_lt (position_or_len (is_of alarm) es) (length es)) (position_or_len (is_of alarm) es) i is in (
      sym at.1,
      omega (arith, ltb-true (position_or_len (is_of alarm) es) (length es) at.0, at.1),
    )

pub place_missing : (alarm : ℕ) (es : List Entry) → position (is_of alarm) es ≡ None →
    length es ≤ position_or_len (is_of alarm) es
place_missing alarm es = go (nat_lt (position_or_len (is_of alarm) es) (length es)) refl
  where
    go : (b : Bool) → nat_lt (position_or_len (is_of alarm) es) (length es) ≡ b →
        cond b (Some (position_or_len (is_of alarm) es)) None ≡ None → length es ≤ position_or_len (is_of alarm) es
    go true is e = absurd (none-some (position_or_len (is_of alarm) es) (sym e))
    go false is e = ltb-false (position_or_len (is_of alarm) es) (length es) is

-- the list without an alarm's entry, from what the code does
pub without_at : (alarm : ℕ) (es : List Entry) (i : ℕ) (d : Entry) → i ≡ position_or_len (is_of alarm) es → i < length es →
    take i (remove es i) ++ later (get_or es i d).wait (drop i (remove es i)) ≡ without alarm es
without_at alarm [] i d is within = absurd (omega arith)
without_at alarm (e ∷ es) zero d is within = go (e.alarm == alarm) is
  where
    go : (b : Bool) → 0 ≡ cond (not b) (1 + position_or_len (is_of alarm) es) 0 →
        later e.wait es ≡ (if b then later e.wait es else e ∷ without alarm es)
    go true is = refl
    go false is = absurd (omega arith)
without_at alarm (e ∷ es) (suc i) d is within =
    go (λ (at : i ≡ position_or_len (is_of alarm) es). without_at alarm es i d at (omega arith)) (e.alarm == alarm) is
  where
    go : (i ≡ position_or_len (is_of alarm) es →
        take i (remove es i) ++ later (get_or es i d).wait (drop i (remove es i)) ≡ without alarm es) →
        (b : Bool) → suc i ≡ cond (not b) (1 + position_or_len (is_of alarm) es) 0 →
        e ∷ (take i (remove es i) ++ later (get_or es i d).wait (drop i (remove es i))) ≡
        (if b then later e.wait es else e ∷ without alarm es)
    go rest true is = absurd (omega arith)
    go rest false is = ap (λ (xs : List Entry). e ∷ xs) (rest (omega arith))

pub without_none : (alarm : ℕ) (es : List Entry) → length es ≤ position_or_len (is_of alarm) es → es ≡ without alarm es
without_none alarm [] past = refl
without_none alarm (e ∷ es) past =
    go (λ (at : length es ≤ position_or_len (is_of alarm) es). without_none alarm es at) (e.alarm == alarm) past
  where
    go : (length es ≤ position_or_len (is_of alarm) es → es ≡ without alarm es) →
        (b : Bool) → suc (length es) ≤ cond (not b) (1 + position_or_len (is_of alarm) es) 0 →
        e ∷ es ≡ (if b then later e.wait es else e ∷ without alarm es)
    go rest true past = absurd (omega arith)
    go rest false past = ap (λ (xs : List Entry). e ∷ xs) (rest (omega arith))
