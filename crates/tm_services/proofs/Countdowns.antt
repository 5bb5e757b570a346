-- What a list of differences says of each alarm, after a change.
use Rattle.std.proofs.Common.{◌≡◌, ℕ, ◌+◌, ◌-◌, ◌<◌, ◌≤◌, ◌==◌, nat_le, Bool, true, false, cond, if◌then◌else◌, List, [], ◌∷◌, refl, sym, ◌∙◌, ap, arith}
use Rattle.std.proofs.lemmas.Bool.{eq-eqb, ne_eqb, leb-true, leb-false, eqb-true}
use Rattle.std.proofs.lemmas.List.Sums.{sum_by-cons}
use Rattle.tm_services.specs.declared.waiting.Entry.{Entry}
use Rattle.tm_services.specs.Alarms.{AlarmView, Off, Armed}
use Rattle.tm_services.specs.Waiting.{delayed, countdown, sooner, later, inserted, without, entries_of, FirstWaitsFor}

delayed_delayed : (a b : ℕ) (v : AlarmView) → delayed a (delayed b v) ≡ delayed (a + b) v
delayed_delayed a b Off = refl
delayed_delayed a b (Armed left cycle) = ap (λ (n : ℕ). Armed n cycle) (let e : a + (b + left) ≡ a + b + left = omega arith in e)

pub delayed_none : (a : ℕ) (v : AlarmView) → a ≡ 0 → delayed a v ≡ v
delayed_none a Off e = refl
delayed_none a (Armed left cycle) e = ap (λ (n : ℕ). Armed n cycle) (let s : a + left ≡ left = omega arith in s)

-- an alarm with fewer ticks left
abbrev pub hastened : ℕ → AlarmView → AlarmView
hastened ticks Off = Off
hastened ticks (Armed left cycle) = Armed (left - ticks) cycle

pub entries_of-cons : (alarm : ℕ) (e : Entry) (es : List Entry) → entries_of alarm (e ∷ es) ≡ cond (e.alarm == alarm) 1 0 + entries_of alarm es
entries_of-cons alarm e es = sum_by-cons (λ (x : Entry). cond (x.alarm == alarm) 1 0) e es

-- an alarm that has no entry
pub none_of_more : (alarm : ℕ) (e : Entry) (es : List Entry) → entries_of alarm (e ∷ es) ≡ 0 →
    ((e.alarm == alarm) ≡ false) × (entries_of alarm es ≡ 0)
none_of_more alarm e es none = go (e.alarm == alarm) refl (entries_of-cons alarm e es)
  where
    go : (b : Bool) → (e.alarm == alarm) ≡ b → entries_of alarm (e ∷ es) ≡ cond b 1 0 + entries_of alarm es →
        ((e.alarm == alarm) ≡ false) × (entries_of alarm es ≡ 0)
    go true is sum = absurd (omega arith)
    go false is sum = (is, omega arith)

pub absent_is_off : (es : List Entry) (alarm : ℕ) → entries_of alarm es ≡ 0 → countdown es alarm ≡ Off
absent_is_off [] alarm none = refl
absent_is_off (e ∷ es) alarm none =
    let (apart, rest) = none_of_more alarm e es none in
    rw (apart, absent_is_off es alarm rest) refl

delayed_off : (a : ℕ) (v : AlarmView) → delayed a v ≡ Off → v ≡ Off
delayed_off a Off e = refl
delayed_off a (Armed left cycle) e = cc

pub off_is_absent : (es : List Entry) (alarm : ℕ) → countdown es alarm ≡ Off → entries_of alarm es ≡ 0
off_is_absent [] alarm off = refl
off_is_absent (e ∷ es) alarm off =
    go (λ (o : countdown es alarm ≡ Off). off_is_absent es alarm o) (e.alarm == alarm) (entries_of-cons alarm e es) off
  where
    go : (countdown es alarm ≡ Off → entries_of alarm es ≡ 0) → (b : Bool) →
        entries_of alarm (e ∷ es) ≡ cond b 1 0 + entries_of alarm es →
        (if b then Armed e.wait e.cycle else delayed e.wait (countdown es alarm)) ≡ Off → entries_of alarm (e ∷ es) ≡ 0
    go rest true sum o = cc
    go rest false sum o = omega (arith, rest (delayed_off e.wait (countdown es alarm) o))

-- the alarm that was inserted
pub inserted_same : (es : List Entry) (new : Entry) → entries_of new.alarm es ≡ 0 →
    countdown (inserted new es) new.alarm ≡ Armed new.wait new.cycle
inserted_same [] new none = rw (eq-eqb new.alarm new.alarm refl) refl
inserted_same (e ∷ es) new none =
    let (apart, rest) = none_of_more new.alarm e es none in
    go apart (inserted_same es (record new { wait = new.wait - e.wait }) rest) (nat_le e.wait new.wait) refl
  where
    go : (e.alarm == new.alarm) ≡ false →
        countdown (inserted (record new { wait = new.wait - e.wait }) es) new.alarm ≡ Armed (new.wait - e.wait) new.cycle →
        (b : Bool) → nat_le e.wait new.wait ≡ b →
        countdown (if b then e ∷ inserted (record new { wait = new.wait - e.wait }) es else new ∷ sooner new.wait (e ∷ es)) new.alarm
        ≡ Armed new.wait new.cycle
    go apart rest true is =
        let sum : e.wait + (new.wait - e.wait) ≡ new.wait = omega (arith, leb-true e.wait new.wait is) in
        rw (apart, rest, sum) refl
    go apart rest false is = rw (eq-eqb new.alarm new.alarm refl) refl

-- and the others
pub inserted_other : (es : List Entry) (new : Entry) (alarm : ℕ) → (new.alarm ≡ alarm → ⊥) →
    countdown (inserted new es) alarm ≡ countdown es alarm
inserted_other [] new alarm ne = rw (ne_eqb new.alarm alarm ne) refl
inserted_other (e ∷ es) new alarm ne =
    go (inserted_other es (record new { wait = new.wait - e.wait }) alarm ne) (nat_le e.wait new.wait) refl
  where
    parts : new.wait < e.wait → (b : Bool) →
        delayed new.wait (if b then Armed (e.wait - new.wait) e.cycle else delayed (e.wait - new.wait) (countdown es alarm))
        ≡ (if b then Armed e.wait e.cycle else delayed e.wait (countdown es alarm))
    parts below true = ap (λ (n : ℕ). Armed n e.cycle) (let s : new.wait + (e.wait - new.wait) ≡ e.wait = omega arith in s)
    parts below false =
        delayed_delayed new.wait (e.wait - new.wait) (countdown es alarm)
        ∙ ap (λ (n : ℕ). delayed n (countdown es alarm)) (let s : new.wait + (e.wait - new.wait) ≡ e.wait = omega arith in s)

    go : countdown (inserted (record new { wait = new.wait - e.wait }) es) alarm ≡ countdown es alarm →
        (b : Bool) → nat_le e.wait new.wait ≡ b →
        countdown (if b then e ∷ inserted (record new { wait = new.wait - e.wait }) es else new ∷ sooner new.wait (e ∷ es)) alarm
        ≡ countdown (e ∷ es) alarm
    go rest true is = ap (λ (v : AlarmView). if e.alarm == alarm then Armed e.wait e.cycle else delayed e.wait v) rest
    go rest false is = rw (ne_eqb new.alarm alarm ne) (parts (leb-false e.wait new.wait is) (e.alarm == alarm))

-- all alarms, where the first is due later, and where it is due sooner
pub later_is : (ticks : ℕ) (es : List Entry) (alarm : ℕ) → countdown (later ticks es) alarm ≡ delayed ticks (countdown es alarm)
later_is ticks [] alarm = refl
later_is ticks (e ∷ es) alarm = go (e.alarm == alarm)
  where
    go : (b : Bool) → (if b then Armed (ticks + e.wait) e.cycle else delayed (ticks + e.wait) (countdown es alarm))
        ≡ delayed ticks (if b then Armed e.wait e.cycle else delayed e.wait (countdown es alarm))
    go true = refl
    go false = sym (delayed_delayed ticks e.wait (countdown es alarm))

hastened_delayed : (ticks wait : ℕ) (v : AlarmView) → ticks ≤ wait → delayed (wait - ticks) v ≡ hastened ticks (delayed wait v)
hastened_delayed ticks wait Off h = refl
hastened_delayed ticks wait (Armed left cycle) h =
    ap (λ (n : ℕ). Armed n cycle) (let s : wait - ticks + left ≡ wait + left - ticks = omega arith in s)

pub sooner_is : (ticks : ℕ) (es : List Entry) (alarm : ℕ) → FirstWaitsFor ticks es →
    countdown (sooner ticks es) alarm ≡ hastened ticks (countdown es alarm)
sooner_is ticks [] alarm h = refl
sooner_is ticks (e ∷ es) alarm h = go (e.alarm == alarm)
  where
    go : (b : Bool) → (if b then Armed (e.wait - ticks) e.cycle else delayed (e.wait - ticks) (countdown es alarm))
        ≡ hastened ticks (if b then Armed e.wait e.cycle else delayed e.wait (countdown es alarm))
    go true = refl
    go false = hastened_delayed ticks e.wait (countdown es alarm) h

-- the alarm whose entry was taken out
pub without_same : (alarm : ℕ) (es : List Entry) → entries_of alarm es ≤ 1 → countdown (without alarm es) alarm ≡ Off
without_same alarm [] once = refl
without_same alarm (e ∷ es) once =
    go (λ (o : entries_of alarm es ≤ 1). without_same alarm es o) (e.alarm == alarm) refl (entries_of-cons alarm e es)
  where
    go : (entries_of alarm es ≤ 1 → countdown (without alarm es) alarm ≡ Off) → (b : Bool) → (e.alarm == alarm) ≡ b →
        entries_of alarm (e ∷ es) ≡ cond b 1 0 + entries_of alarm es →
        countdown (if b then later e.wait es else e ∷ without alarm es) alarm ≡ Off
    go rest true is sum = rw (later_is e.wait es alarm, absent_is_off es alarm (omega arith)) refl
    go rest false is sum = rw (is, rest (omega arith)) refl

-- and the others
pub without_other : (alarm : ℕ) (es : List Entry) (other : ℕ) → (alarm ≡ other → ⊥) →
    countdown (without alarm es) other ≡ countdown es other
without_other alarm [] other ne = refl
without_other alarm (e ∷ es) other ne = go (without_other alarm es other ne) (e.alarm == alarm) refl
  where
    go : countdown (without alarm es) other ≡ countdown es other → (b : Bool) → (e.alarm == alarm) ≡ b →
        countdown (if b then later e.wait es else e ∷ without alarm es) other ≡ countdown (e ∷ es) other
    go rest true is =
        let apart : (e.alarm == other) ≡ false = ne_eqb e.alarm other (λ s. ne (sym (eqb-true e.alarm alarm is) ∙ s)) in
        rw (apart) (later_is e.wait es other)
    go rest false is = ap (λ (v : AlarmView). if e.alarm == other then Armed e.wait e.cycle else delayed e.wait v) rest
