-- What a list of differences keeps, after a change.
use Rattle.std.proofs.Common.{◌≡◌, ℕ, ◌+◌, ◌-◌, ◌<◌, ◌≤◌, ◌==◌, ◌^◌, nat_le, Bool, true, false, cond, if◌then◌else◌, List, [], ◌∷◌, length, map, refl, ◌∙◌, arith, inl, inr}
use Rattle.std.specs.List.{All}
use Rattle.std.proofs.lemmas.Bool.{cases_eq, eq-eqb, ne_eqb, leb-true, leb-false}
use Rattle.std.proofs.lemmas.List.{length-map}
use Rattle.std.proofs.lemmas.List.Sums.{sum_by-cons}
use Rattle.std.proofs.lemmas.List.Elements.{All-cons, All-head, All-tail, All-map, All-weaker}
use Rattle.tm_services.specs.declared.waiting.Entry.{Entry}
use Rattle.tm_services.specs.Alarms.{AlarmView, Off, Armed, IsAlarm}
use Rattle.tm_services.specs.Ceilings.{times_in}
use Rattle.tm_services.specs.Waiting.{delayed, countdown, sooner, later, inserted, without, entries_of, ticks_in, IsEntry, IsWaiting, FirstWaitsFor}
use Rattle.tm_services.proofs.Counting.{times_same, times_other, short_where_missing}
use Rattle.tm_services.proofs.Countdowns.{entries_of-cons}

ticks_in-cons : (e : Entry) (es : List Entry) → ticks_in (e ∷ es) ≡ e.wait + ticks_in es
ticks_in-cons e es = sum_by-cons (λ (x : Entry). x.wait) e es

-- an entry with another wait
waits_else : (number : ℕ) (e : Entry) (wait : ℕ) → IsEntry number e → IsEntry number (record e { wait = wait })
waits_else number e wait h = record { there = h.there; cycle = h.cycle }

-- the entries, after each change
entries-sooner : (number ticks : ℕ) (es : List Entry) → All (IsEntry number) es → All (IsEntry number) (sooner ticks es)
entries-sooner number ticks [] h = h
entries-sooner number ticks (e ∷ es) h =
    All-cons (IsEntry number) (record e { wait = e.wait - ticks }) es
    (waits_else number e (e.wait - ticks) (All-head (IsEntry number) e es h)) (All-tail (IsEntry number) e es h)

entries-later : (number ticks : ℕ) (es : List Entry) → All (IsEntry number) es → All (IsEntry number) (later ticks es)
entries-later number ticks [] h = h
entries-later number ticks (e ∷ es) h =
    All-cons (IsEntry number) (record e { wait = ticks + e.wait }) es
    (waits_else number e (ticks + e.wait) (All-head (IsEntry number) e es h)) (All-tail (IsEntry number) e es h)

entries-inserted : (number : ℕ) (es : List Entry) (new : Entry) → All (IsEntry number) es → IsEntry number new →
    All (IsEntry number) (inserted new es)
entries-inserted number [] new h n = All-cons (IsEntry number) new [] n h
entries-inserted number (e ∷ es) new h n =
    go (entries-inserted number es (record new { wait = new.wait - e.wait }) (All-tail (IsEntry number) e es h)
    (waits_else number new (new.wait - e.wait) n)) (nat_le e.wait new.wait)
  where
    go : All (IsEntry number) (inserted (record new { wait = new.wait - e.wait }) es) → (b : Bool) →
        All (IsEntry number) (if b then e ∷ inserted (record new { wait = new.wait - e.wait }) es else new ∷ sooner new.wait (e ∷ es))
    go rest true = All-cons (IsEntry number) e (inserted (record new { wait = new.wait - e.wait }) es) (All-head (IsEntry number) e es h) rest
    go rest false = All-cons (IsEntry number) new (sooner new.wait (e ∷ es)) n (entries-sooner number new.wait (e ∷ es) h)

entries-without : (number alarm : ℕ) (es : List Entry) → All (IsEntry number) es → All (IsEntry number) (without alarm es)
entries-without number alarm [] h = h
entries-without number alarm (e ∷ es) h = go (entries-without number alarm es (All-tail (IsEntry number) e es h)) (e.alarm == alarm)
  where
    go : All (IsEntry number) (without alarm es) → (b : Bool) →
        All (IsEntry number) (if b then later e.wait es else e ∷ without alarm es)
    go rest true = entries-later number e.wait es (All-tail (IsEntry number) e es h)
    go rest false = All-cons (IsEntry number) e (without alarm es) (All-head (IsEntry number) e es h) rest

-- how many entries an alarm has, after each change
entries_of-sooner : (ticks : ℕ) (es : List Entry) (alarm : ℕ) → entries_of alarm (sooner ticks es) ≡ entries_of alarm es
entries_of-sooner ticks [] alarm = refl
entries_of-sooner ticks (e ∷ es) alarm = refl

entries_of-later : (ticks : ℕ) (es : List Entry) (alarm : ℕ) → entries_of alarm (later ticks es) ≡ entries_of alarm es
entries_of-later ticks [] alarm = refl
entries_of-later ticks (e ∷ es) alarm = refl

entries_of-inserted : (es : List Entry) (new : Entry) (alarm : ℕ) →
    entries_of alarm (inserted new es) ≡ cond (new.alarm == alarm) 1 0 + entries_of alarm es
entries_of-inserted [] new alarm = entries_of-cons alarm new []
entries_of-inserted (e ∷ es) new alarm =
    go (entries_of-inserted es (record new { wait = new.wait - e.wait }) alarm) (nat_le e.wait new.wait)
  where
    go : entries_of alarm (inserted (record new { wait = new.wait - e.wait }) es) ≡ cond (new.alarm == alarm) 1 0 + entries_of alarm es →
        (b : Bool) →
        entries_of alarm (if b then e ∷ inserted (record new { wait = new.wait - e.wait }) es else new ∷ sooner new.wait (e ∷ es))
        ≡ cond (new.alarm == alarm) 1 0 + entries_of alarm (e ∷ es)
    go rest true =
        omega (arith, rest, entries_of-cons alarm e es, entries_of-cons alarm e (inserted (record new { wait = new.wait - e.wait }) es))
    go rest false = entries_of-cons alarm new (sooner new.wait (e ∷ es))

entries_of-without : (alarm : ℕ) (es : List Entry) (other : ℕ) → entries_of other (without alarm es) ≤ entries_of other es
entries_of-without alarm [] other = omega arith
entries_of-without alarm (e ∷ es) other = go (entries_of-without alarm es other) (e.alarm == alarm)
  where
    go : entries_of other (without alarm es) ≤ entries_of other es → (b : Bool) →
        entries_of other (if b then later e.wait es else e ∷ without alarm es) ≤ entries_of other (e ∷ es)
    go rest true = omega (arith, entries_of-later e.wait es other, entries_of-cons other e es)
    go rest false = omega (arith, rest, entries_of-cons other e es, entries_of-cons other e (without alarm es))

-- the ticks up to the last entry, after each change
ticks_in-sooner : (ticks : ℕ) (es : List Entry) → ticks_in (sooner ticks es) ≤ ticks_in es
ticks_in-sooner ticks [] = omega arith
ticks_in-sooner ticks (e ∷ es) = omega (arith, ticks_in-cons e es, ticks_in-cons (record e { wait = e.wait - ticks }) es)

ticks_in-later : (ticks : ℕ) (es : List Entry) → ticks_in (later ticks es) ≤ ticks + ticks_in es
ticks_in-later ticks [] = omega arith
ticks_in-later ticks (e ∷ es) = omega (arith, ticks_in-cons e es, ticks_in-cons (record e { wait = ticks + e.wait }) es)

ticks_in-inserted : (es : List Entry) (new : Entry) (most : ℕ) → ticks_in es ≤ most → new.wait ≤ most →
    ticks_in (inserted new es) ≤ most
ticks_in-inserted [] new most h n = omega (arith, ticks_in-cons new [])
ticks_in-inserted (e ∷ es) new most h n =
    go (λ (small : new.wait - e.wait ≤ most - e.wait). ticks_in-inserted es (record new { wait = new.wait - e.wait }) (most - e.wait)
    (omega (arith, ticks_in-cons e es)) small) (nat_le e.wait new.wait) refl
  where
    go : (new.wait - e.wait ≤ most - e.wait → ticks_in (inserted (record new { wait = new.wait - e.wait }) es) ≤ most - e.wait) →
        (b : Bool) → nat_le e.wait new.wait ≡ b →
        ticks_in (if b then e ∷ inserted (record new { wait = new.wait - e.wait }) es else new ∷ sooner new.wait (e ∷ es)) ≤ most
    go rest true is =
        omega (arith, rest (omega arith), leb-true e.wait new.wait is, ticks_in-cons e es, ticks_in-cons e (inserted (record new { wait = new.wait - e.wait }) es))
    go rest false is =
        omega (arith, leb-false e.wait new.wait is, ticks_in-cons e es, ticks_in-cons new (sooner new.wait (e ∷ es)), ticks_in-cons (record e { wait = e.wait - new.wait }) es)

ticks_in-without : (alarm : ℕ) (es : List Entry) → ticks_in (without alarm es) ≤ ticks_in es
ticks_in-without alarm [] = omega arith
ticks_in-without alarm (e ∷ es) = go (ticks_in-without alarm es) (e.alarm == alarm)
  where
    go : ticks_in (without alarm es) ≤ ticks_in es → (b : Bool) →
        ticks_in (if b then later e.wait es else e ∷ without alarm es) ≤ ticks_in (e ∷ es)
    go rest true = omega (arith, ticks_in-later e.wait es, ticks_in-cons e es)
    go rest false = omega (arith, rest, ticks_in-cons e es, ticks_in-cons e (without alarm es))

-- what a list keeps, after each change
pub sooner_keeps : (number ticks : ℕ) (es : List Entry) → IsWaiting number es → IsWaiting number (sooner ticks es)
sooner_keeps number ticks es h = record {
  entries = entries-sooner number ticks es h.entries;
  once = λ alarm. omega (arith, h.once alarm, entries_of-sooner ticks es alarm);
  turn = omega (arith, h.turn, ticks_in-sooner ticks es);
}

pub inserted_keeps : (number : ℕ) (es : List Entry) (new : Entry) → IsWaiting number es → IsEntry number new →
    entries_of new.alarm es ≡ 0 → new.wait ≤ 2 ^ 31 → IsWaiting number (inserted new es)
inserted_keeps number es new h n none turn = record {
  entries = entries-inserted number es new h.entries n;
  once = λ alarm. elim (cases_eq new.alarm alarm) [
    | inl e ↦
        let one : ◌≡◌ {A = ℕ} (cond (new.alarm == alarm) 1 0) 1 = rw (eq-eqb new.alarm alarm e) refl in
        let nothing : entries_of alarm es ≡ 0 = rw e at none in
        omega (arith, entries_of-inserted es new alarm)
    | inr ne ↦
        let nothing : ◌≡◌ {A = ℕ} (cond (new.alarm == alarm) 1 0) 0 = rw (ne_eqb new.alarm alarm ne) refl in
        omega (arith, entries_of-inserted es new alarm, h.once alarm)
  ];
  turn = ticks_in-inserted es new (2 ^ 31) h.turn turn;
}

pub without_keeps : (number alarm : ℕ) (es : List Entry) → IsWaiting number es → IsWaiting number (without alarm es)
without_keeps number alarm es h = record {
  entries = entries-without number alarm es h.entries;
  once = λ other. omega (arith, h.once other, entries_of-without alarm es other);
  turn = omega (arith, h.turn, ticks_in-without alarm es);
}

pub tail_keeps : (number : ℕ) (e : Entry) (es : List Entry) → IsWaiting number (e ∷ es) → IsWaiting number es
tail_keeps number e es h = record {
  entries = All-tail (IsEntry number) e es h.entries;
  once = λ alarm. omega (arith, h.once alarm, entries_of-cons alarm e es);
  turn = omega (arith, h.turn, ticks_in-cons e es);
}

-- the first entry is not due yet, after each change
pub first-inserted : (es : List Entry) (new : Entry) → FirstWaitsFor 1 es → 0 < new.wait → FirstWaitsFor 1 (inserted new es)
first-inserted [] new h n = n
first-inserted (e ∷ es) new h n = go (nat_le e.wait new.wait)
  where
    go : (b : Bool) → FirstWaitsFor 1 (if b then e ∷ inserted (record new { wait = new.wait - e.wait }) es else new ∷ sooner new.wait (e ∷ es))
    go true = h
    go false = n

first-later : (ticks : ℕ) (es : List Entry) → 1 ≤ ticks → FirstWaitsFor 1 (later ticks es)
first-later ticks [] h = tt
first-later ticks (e ∷ es) h = omega arith

pub first-without : (alarm : ℕ) (es : List Entry) → FirstWaitsFor 1 es → FirstWaitsFor 1 (without alarm es)
first-without alarm [] h = tt
first-without alarm (e ∷ es) h = go (e.alarm == alarm)
  where
    go : (b : Bool) → FirstWaitsFor 1 (if b then later e.wait es else e ∷ without alarm es)
    go true = first-later e.wait es h
    go false = h

-- the ticks left are within bounds
abbrev Within : ℕ → ℕ → AlarmView → Type 0
Within low most Off = Unit {0}
Within low most (Armed left cycle) = (low ≤ left) × (left ≤ most) × (cycle < 2 ^ 31)

delayed_within : (low most wait : ℕ) (v : AlarmView) → low ≤ wait → wait ≤ most → Within 0 (most - wait) v → Within low most (delayed wait v)
delayed_within low most wait Off l m h = tt
delayed_within low most wait (Armed left cycle) l m h = (omega arith, omega (arith, h.1), h.2)

first_any : (es : List Entry) → FirstWaitsFor 0 es
first_any [] = tt
first_any (e ∷ es) = omega arith

within_at : (number low most : ℕ) (es : List Entry) (alarm : ℕ) → All (IsEntry number) es → FirstWaitsFor low es → ticks_in es ≤ most →
    Within low most (countdown es alarm)
within_at number low most [] alarm a f t = tt
within_at number low most (e ∷ es) alarm a f t =
    let small : e.wait ≤ most = omega (arith, ticks_in-cons e es) in
    let fits : ticks_in es ≤ most - e.wait = omega (arith, ticks_in-cons e es) in
    go small (within_at number 0 (most - e.wait) es alarm (All-tail (IsEntry number) e es a) (first_any es) fits) (e.alarm == alarm)
  where
    go : e.wait ≤ most → Within 0 (most - e.wait) (countdown es alarm) → (b : Bool) →
        Within low most (if b then Armed e.wait e.cycle else delayed e.wait (countdown es alarm))
    go small rest true = (f, small, (All-head (IsEntry number) e es a).cycle)
    go small rest false = delayed_within low most e.wait (countdown es alarm) f small rest

is_alarm_from : (v : AlarmView) → Within 1 (2 ^ 31) v → IsAlarm v
is_alarm_from Off h = tt
is_alarm_from (Armed left cycle) h = h

-- each alarm has 1 tick to a whole turn left
pub is_alarm_at : (number : ℕ) (es : List Entry) (alarm : ℕ) → IsWaiting number es → FirstWaitsFor 1 es → IsAlarm (countdown es alarm)
is_alarm_at number es alarm h f = is_alarm_from (countdown es alarm) (within_at number 1 (2 ^ 31) es alarm h.entries f h.turn)

-- an alarm that there is not has no entry
pub past_is_absent : (number : ℕ) (es : List Entry) (alarm : ℕ) → All (IsEntry number) es → number ≤ alarm → entries_of alarm es ≡ 0
past_is_absent number [] alarm h past = refl
past_is_absent number (e ∷ es) alarm h past =
    let apart : e.alarm ≡ alarm → ⊥ = λ same. omega (arith, (All-head (IsEntry number) e es h).there) in
    let nothing : ◌≡◌ {A = ℕ} (cond (e.alarm == alarm) 1 0) 0 = rw (ne_eqb e.alarm alarm apart) refl in
    omega (arith, entries_of-cons alarm e es, past_is_absent number es alarm (All-tail (IsEntry number) e es h) past)

-- there is room where an alarm has no entry
alarms_times : (es : List Entry) (alarm : ℕ) → times_in alarm (map (λ (e : Entry). e.alarm) es) ≡ entries_of alarm es
alarms_times [] alarm = refl
alarms_times (e ∷ es) alarm = elim (cases_eq e.alarm alarm) [
  | inl same ↦
      let one : ◌≡◌ {A = ℕ} (cond (e.alarm == alarm) 1 0) 1 = rw (eq-eqb e.alarm alarm same) refl in
      omega (arith, times_same alarm e.alarm (map (λ (e : Entry). e.alarm) es) same, alarms_times es alarm, entries_of-cons alarm e es)
  | inr ne ↦
      let nothing : ◌≡◌ {A = ℕ} (cond (e.alarm == alarm) 1 0) 0 = rw (ne_eqb e.alarm alarm ne) refl in
      omega (arith, times_other alarm e.alarm (map (λ (e : Entry). e.alarm) es) ne, alarms_times es alarm, entries_of-cons alarm e es)
]

pub room_where_absent : (number : ℕ) (es : List Entry) (alarm : ℕ) → IsWaiting number es → entries_of alarm es ≡ 0 → alarm < number →
    length es < number
room_where_absent number es alarm h none there =
    let below : All (λ x. x < number) (map (λ (e : Entry). e.alarm) es) =
    All-map (λ x. x < number) (λ (e : Entry). e.alarm) es (All-weaker (IsEntry number) (λ e. e.alarm < number) (λ e i. i.there) es h.entries) in
    let short : length (map (λ (e : Entry). e.alarm) es) < number =
    short_where_missing number alarm (map (λ (e : Entry). e.alarm) es) below
    (λ r. omega (arith, alarms_times es r, h.once r)) (alarms_times es alarm ∙ none) there in
    omega (arith, length-map es (λ (e : Entry). e.alarm))
