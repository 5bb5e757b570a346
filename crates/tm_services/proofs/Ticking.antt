-- One tick: the list of differences against the plain countdown.
use Rattle.std.proofs.Common.{◌≡◌, ℕ, ◌+◌, ◌-◌, ◌%◌, ◌<◌, ◌≤◌, ◌^◌, ◌==◌, Bool, true, false, not, cond, if◌then◌else◌, List, ◌∷◌, ◌++◌, length, map, replicate, get_or, refl, sym, ◌∙◌, subst, arith, inl, inr, slice_set, length-set, length-append}
use Rattle.std.specs.List.{count_by}
use Rattle.std.proofs.lemmas.Bool.{cases_eq, cases_lt, eq-eqb, ne_eqb}
use Rattle.std.proofs.lemmas.List.{get_or-set_same, get_or-set_other, get_or-map, get_or_past, get_or-append_right, get_or-replicate, length-map, length-replicate, same_lists, get_or_append_left, get_or_default}
use Rattle.std.proofs.lemmas.List.Sums.{sum_by-set}
use Rattle.std.proofs.lemmas.List.Elements.{All-head}
use Rattle.tm_services.specs.declared.waiting.Entry.{Entry}
use Rattle.tm_services.specs.Alarms.{AlarmView, Off, Armed, AlarmsView, IsAlarm, ticked_alarm, ticked, is_due, due}
use Rattle.tm_services.specs.Waiting.{countdown, alarms_of, view_of, sooner, inserted, entries_of, IsEntry, IsWaiting, FirstWaitsFor, Keeps}
use Rattle.tm_services.proofs.Countdowns.{hastened, delayed_none, entries_of-cons, absent_is_off, inserted_same, inserted_other, sooner_is}
use Rattle.tm_services.proofs.Waits.{sooner_keeps, inserted_keeps, tail_keeps, is_alarm_at, past_is_absent}
use Rattle.tm_services.proofs.Listed.{length-alarms_of, get_or-alarms_of, alarms_of_is}

-- an alarm in the middle of a tick, from its state before the tick: where it is not marked yet it
-- has one tick fewer left, and where it is marked it was due and goes on or is off
abbrev pub Marked : Bool → AlarmView → AlarmView → Type 0
Marked false before now = now ≡ hastened 1 before
Marked true before now = (is_due before ≡ true) × (now ≡ ticked_alarm before)

-- the middle of a tick
pub record IsTicking (before : AlarmsView) (counter number : ℕ) (es : List Entry) (marks : List Bool) : Type 0 where
  pub few : number ≤ 16
  pub counts : counter ≡ (before.counter + 1) % 2 ^ 31
  pub alarms : length before.alarms ≡ number
  pub sound : (k : ℕ) → IsAlarm (get_or before.alarms k Off)
  pub waiting : IsWaiting number es
  pub all : length marks ≡ 16
  pub marked : (k : ℕ) → Marked (get_or marks k false) (get_or before.alarms k Off) (countdown es k)

-- an alarm that is due now is not marked yet
due_armed : (v : AlarmView) (left cycle : ℕ) → Armed left cycle ≡ hastened 1 v → IsAlarm v → left ≡ 0 →
    (is_due v ≡ true) × ((if cycle == 0 then Off else Armed cycle cycle) ≡ ticked_alarm v)
due_armed Off left cycle e s none = cc
due_armed (Armed l c) left cycle e s none =
    let lefts : left ≡ l - 1 = cc in
    let cycles : cycle ≡ c = cc in
    let one : l ≡ 1 = omega (arith, s.0) in
    (eq-eqb l 1 one, rw (eq-eqb l 1 one, cycles) refl)

marked_waits : (v : AlarmView) (left cycle : ℕ) → is_due v ≡ true → Armed left cycle ≡ ticked_alarm v → left ≡ 0 → ⊥
marked_waits Off left cycle d e none = cc
marked_waits (Armed l c) left cycle d e none = go (c == 0) refl (rw d at e)
  where
    go : (b : Bool) → (c == 0) ≡ b → Armed left cycle ≡ (if b then Off else Armed c c) → ⊥
    go true is e = cc
    go false is e =
        let same : left ≡ c = cc in
        let zero : (c == 0) ≡ true = eq-eqb c 0 (omega arith) in
        cc

pub unmarked : (mark : Bool) (v : AlarmView) (left cycle : ℕ) → Marked mark v (Armed left cycle) → left ≡ 0 → mark ≡ false
unmarked false v left cycle m none = refl
unmarked true v left cycle m none = absurd (marked_waits v left cycle m.0 m.1 none)

marked_due : (mark : Bool) (v : AlarmView) (left cycle : ℕ) → Marked mark v (Armed left cycle) → IsAlarm v → left ≡ 0 →
    (is_due v ≡ true) × ((if cycle == 0 then Off else Armed cycle cycle) ≡ ticked_alarm v)
marked_due false v left cycle m s none = due_armed v left cycle m s none
marked_due true v left cycle m s none = absurd (marked_waits v left cycle m.0 m.1 none)

-- the list with a due entry taken off, and put back where it is cyclic
abbrev pub restarted : Entry → List Entry → List Entry
restarted e es = if e.cycle == 0 then es else inserted (record e { wait = e.cycle }) es

restarted_same : (e : Entry) (es : List Entry) → entries_of e.alarm es ≡ 0 →
    countdown (restarted e es) e.alarm ≡ (if e.cycle == 0 then Off else Armed e.cycle e.cycle)
restarted_same e es none = go (e.cycle == 0)
  where
    go : (b : Bool) → countdown (if b then es else inserted (record e { wait = e.cycle }) es) e.alarm ≡ (if b then Off else Armed e.cycle e.cycle)
    go true = absent_is_off es e.alarm none
    go false = inserted_same es (record e { wait = e.cycle }) none

restarted_other : (e : Entry) (es : List Entry) (k : ℕ) → (e.alarm ≡ k → ⊥) → countdown (restarted e es) k ≡ countdown es k
restarted_other e es k ne = go (e.cycle == 0)
  where
    go : (b : Bool) → countdown (if b then es else inserted (record e { wait = e.cycle }) es) k ≡ countdown es k
    go true = refl
    go false = inserted_other es (record e { wait = e.cycle }) k ne

-- what stands at the head
head_alone : (number : ℕ) (e : Entry) (es : List Entry) → IsWaiting number (e ∷ es) → entries_of e.alarm es ≡ 0
head_alone number e es h =
    let one : ◌≡◌ {A = ℕ} (cond (e.alarm == e.alarm) 1 0) 1 = rw (eq-eqb e.alarm e.alarm refl) refl in
    omega (arith, h.once e.alarm, entries_of-cons e.alarm e es)

head_is : (e : Entry) (es : List Entry) → countdown (e ∷ es) e.alarm ≡ Armed e.wait e.cycle
head_is e es = rw (eq-eqb e.alarm e.alarm refl) refl

behind_head : (e : Entry) (es : List Entry) (k : ℕ) → e.wait ≡ 0 → (e.alarm ≡ k → ⊥) → countdown (e ∷ es) k ≡ countdown es k
behind_head e es k none ne = rw (ne_eqb e.alarm k ne) (delayed_none e.wait (countdown es k) none)

restarted_keeps : (number : ℕ) (e : Entry) (es : List Entry) → IsWaiting number (e ∷ es) → IsWaiting number (restarted e es)
restarted_keeps number e es h = go (e.cycle == 0)
  where
    go : (b : Bool) → IsWaiting number (if b then es else inserted (record e { wait = e.cycle }) es)
    go true = tail_keeps number e es h
    go false =
        let entry : IsEntry number e = All-head (IsEntry number) e es h.entries in
        inserted_keeps number es (record e { wait = e.cycle }) (tail_keeps number e es h)
        (record { there = entry.there; cycle = entry.cycle }) (head_alone number e es h) (omega (arith, entry.cycle))

-- one due alarm more
pub one_more_due : (before : AlarmsView) (counter number : ℕ) (e : Entry) (es : List Entry) (marks : List Bool) →
    IsTicking before counter number (e ∷ es) marks → e.wait ≡ 0 →
    IsTicking before counter number (restarted e es) (slice_set marks e.alarm true)
one_more_due before counter number e es marks h none =
    let there : e.alarm < 16 = omega (arith, h.few, (All-head (IsEntry number) e es h.waiting.entries).there) in
    record {
      few = h.few;
      counts = h.counts;
      alarms = h.alarms;
      sound = h.sound;
      waiting = restarted_keeps number e es h.waiting;
      all = length-set marks e.alarm true ∙ h.all;
      marked = λ k. elim (cases_eq k e.alarm) [
        | inl same ↦
            let m : Marked (get_or marks e.alarm false) (get_or before.alarms e.alarm Off) (Armed e.wait e.cycle) =
            subst (λ (v : AlarmView). Marked (get_or marks e.alarm false) (get_or before.alarms e.alarm Off) v) (head_is e es) (h.marked e.alarm) in
            let was = marked_due (get_or marks e.alarm false) (get_or before.alarms e.alarm Off) e.wait e.cycle m (h.sound e.alarm) none in
            rw (same, get_or-set_same marks e.alarm true false (omega (arith, h.all)))
            (was.0, restarted_same e es (head_alone number e es h.waiting) ∙ was.1)
        | inr ne ↦
            let apart : e.alarm ≡ k → ⊥ = λ s. ne (sym s) in
            rw (get_or-set_other marks e.alarm k true false ne, restarted_other e es k apart, ← behind_head e es k none apart)
            (h.marked k)
      ];
    }

-- it was not marked before, so fewer are left
pub fewer_unmarked : (before : AlarmsView) (counter number : ℕ) (e : Entry) (es : List Entry) (marks : List Bool) →
    IsTicking before counter number (e ∷ es) marks → e.wait ≡ 0 →
    count_by (λ b. not b) (slice_set marks e.alarm true) < count_by (λ b. not b) marks
fewer_unmarked before counter number e es marks h none =
    let there : e.alarm < 16 = omega (arith, h.few, (All-head (IsEntry number) e es h.waiting.entries).there) in
    let m : Marked (get_or marks e.alarm false) (get_or before.alarms e.alarm Off) (Armed e.wait e.cycle) =
    subst (λ (v : AlarmView). Marked (get_or marks e.alarm false) (get_or before.alarms e.alarm Off) v) (head_is e es) (h.marked e.alarm) in
    let was : get_or marks e.alarm false ≡ false =
    unmarked (get_or marks e.alarm false) (get_or before.alarms e.alarm Off) e.wait e.cycle m none in
    let one : ◌≡◌ {A = ℕ} (cond (not (get_or marks e.alarm false)) 1 0) 1 = rw (was) refl in
    omega (arith, sum_by-set (λ (b : Bool). cond (not b) 1 0) marks e.alarm true false (omega (arith, h.all)), one)

-- after the last due alarm
settled : (mark : Bool) (v now : AlarmView) → Marked mark v now → IsAlarm now → (mark ≡ is_due v) × (now ≡ ticked_alarm v)
settled true v now m s = (sym m.0, m.1)
settled false Off now m s = (refl, m)
settled false (Armed l c) now m s =
    let positive : IsAlarm (Armed (l - 1) c) = subst IsAlarm m s in
    let later : l ≡ 1 → ⊥ = λ one. omega (arith, positive.0) in
    (sym (ne_eqb l 1 later), m ∙ rw (ne_eqb l 1 later) refl)

pub all_settled : (before : AlarmsView) (counter number : ℕ) (es : List Entry) (marks : List Bool) →
    IsTicking before counter number es marks → FirstWaitsFor 1 es → view_of counter es number ≡ ticked before
all_settled before counter number es marks h first =
    let list : alarms_of es number ≡ map ticked_alarm before.alarms =
    alarms_of_is es number (map ticked_alarm before.alarms) (length-map before.alarms ticked_alarm ∙ h.alarms)
    (λ k within.
    get_or-map ticked_alarm before.alarms k Off Off (omega (arith, h.alarms))
    ∙ sym (settled (get_or marks k false) (get_or before.alarms k Off) (countdown es k) (h.marked k) (is_alarm_at number es k h.waiting first)).1) in
    rw (list, h.counts) refl

pub all_marked : (before : AlarmsView) (counter number : ℕ) (es : List Entry) (marks : List Bool) →
    IsTicking before counter number es marks → FirstWaitsFor 1 es →
    marks ≡ due before ++ replicate (16 - length before.alarms) false
all_marked before counter number es marks h first =
    let many : length (due before) ≡ number = length-map before.alarms is_due ∙ h.alarms in
    same_lists marks (due before ++ replicate (16 - length before.alarms) false)
    (omega (arith, h.all, h.few, h.alarms, many, length-append (due before) (replicate (16 - length before.alarms) false), length-replicate (16 - length before.alarms) false))
    (λ k d within.
    let is : get_or marks k false ≡ is_due (get_or before.alarms k Off) =
    (settled (get_or marks k false) (get_or before.alarms k Off) (countdown es k) (h.marked k) (is_alarm_at number es k h.waiting first)).0 in
    get_or_default marks k d false within ∙ is ∙
    elim (cases_lt k number) [
      | inl there ↦
          sym (get_or_append_left (due before) (replicate (16 - length before.alarms) false) d k (omega arith)
          ∙ get_or-map is_due before.alarms k Off d (omega (arith, h.alarms)))
      | inr past ↦
          rw (get_or_past before.alarms k Off (omega (arith, h.alarms)))
          (sym (get_or-append_right (due before) (replicate (16 - length before.alarms) false) number k d many past
          ∙ get_or-replicate (16 - length before.alarms) (k - number) false d (omega (arith, h.alarms, h.all))))
    ])

-- the beginning of a tick
pub begun : (counter number : ℕ) (es : List Entry) → Keeps counter es number →
    IsTicking (view_of counter es number) ((counter + 1) % 2 ^ 31) number (sooner 1 es) (replicate 16 false)
begun counter number es h =
    let at : (k : ℕ) → get_or (alarms_of es number) k Off ≡ countdown es k =
    λ k. elim (cases_lt k number) [
      | inl within ↦ get_or-alarms_of es number k Off within
      | inr past ↦
          get_or_past (alarms_of es number) k Off (omega (arith, length-alarms_of es number))
          ∙ sym (absent_is_off es k (past_is_absent number es k h.waiting.entries past))
    ] in
    let clear : (k : ℕ) → get_or (replicate 16 false) k false ≡ false =
    λ k. elim (cases_lt k 16) [
      | inl within ↦ get_or-replicate 16 k false false within
      | inr past ↦ get_or_past (replicate 16 false) k false (omega (arith, length-replicate 16 false))
    ] in
    record {
      few = h.few;
      counts = refl;
      alarms = length-alarms_of es number;
      sound = λ k. rw (at k) (is_alarm_at number es k h.waiting h.first);
      waiting = sooner_keeps number 1 es h.waiting;
      all = refl;
      marked = λ k. rw (clear k, at k) (sooner_is 1 es k h.first);
    }

-- what is kept
pub settled_keeps : (before : AlarmsView) (counter number : ℕ) (es : List Entry) (marks : List Bool) →
    IsTicking before counter number es marks → FirstWaitsFor 1 es → Keeps counter es number
settled_keeps before counter number es marks h first =
    record { few = h.few; counter_value = rw h.counts (omega arith); waiting = h.waiting; first = first }
