-- The alarms in use as a list of differences, the one that is due first first: each entry has the
-- ticks after the entry before it.
use Rattle.std.specs.Prelude.{ℕ, ◌+◌, ◌-◌, ◌^◌, ◌<◌, ◌≤◌, ◌==◌, nat_le, if◌then◌else◌, List, [], ◌∷◌, map, All, sum_by, count_by, suc, Option, Some, None}
use Rattle.std.specs.List.{range_with_len}
use Rattle.tm_services.specs.declared.waiting.Entry.{Entry}
use Rattle.tm_services.specs.Alarms.{AlarmView, Off, Armed, AlarmsView}

-- an alarm with more ticks left
abbrev pub delayed : ℕ → AlarmView → AlarmView
delayed ticks Off = Off
delayed ticks (Armed left cycle) = Armed (ticks + left) cycle

-- what a list of differences says of an alarm: the ticks left are the sum of the differences up to
-- its entry, and it is off where it has none
abbrev pub countdown : List Entry → ℕ → AlarmView
countdown [] alarm = Off
countdown (e ∷ es) alarm =
    if e.alarm == alarm then Armed e.wait e.cycle else delayed e.wait (countdown es alarm)

-- what it says of all alarms
abbrev pub alarms_of : List Entry → ℕ → List AlarmView
alarms_of es number = map (countdown es) (range_with_len 0 number)

-- the value of the fields
abbrev pub view_of : ℕ → List Entry → ℕ → AlarmsView
view_of counter es number = record { counter = counter; alarms = alarms_of es number }

-- the ticks left of an alarm in use
abbrev pub left_of : AlarmView → Option ℕ
left_of Off = None
left_of (Armed left cycle) = Some left

-- the list whose first entry is due sooner
abbrev pub sooner : ℕ → List Entry → List Entry
sooner ticks [] = []
sooner ticks (e ∷ es) = record e { wait = e.wait - ticks } ∷ es

-- the list whose first entry is due later
abbrev pub later : ℕ → List Entry → List Entry
later ticks [] = []
later ticks (e ∷ es) = record e { wait = ticks + e.wait } ∷ es

-- how many entries are due after so many ticks
abbrev pub place_of : ℕ → List Entry → ℕ
place_of ticks [] = 0
place_of ticks (e ∷ es) = if nat_le e.wait ticks then suc (place_of (ticks - e.wait) es) else 0

-- the ticks after those entries
abbrev pub rest_of : ℕ → List Entry → ℕ
rest_of ticks [] = ticks
rest_of ticks (e ∷ es) = if nat_le e.wait ticks then rest_of (ticks - e.wait) es else ticks

-- the list with a new entry, whose wait is its ticks left; it stands behind those due at its tick
abbrev pub inserted : Entry → List Entry → List Entry
inserted new [] = new ∷ []
inserted new (e ∷ es) =
    if nat_le e.wait new.wait
    then e ∷ inserted (record new { wait = new.wait - e.wait }) es
    else new ∷ sooner new.wait (e ∷ es)

-- the list without an alarm's entry
abbrev pub without : ℕ → List Entry → List Entry
without alarm [] = []
without alarm (e ∷ es) = if e.alarm == alarm then later e.wait es else e ∷ without alarm es

-- how many entries an alarm has
abbrev pub entries_of : ℕ → List Entry → ℕ
entries_of alarm es = count_by (λ e. e.alarm == alarm) es

-- the ticks up to the last entry
abbrev pub ticks_in : List Entry → ℕ
ticks_in es = sum_by (λ e. e.wait) es

-- an entry of an alarm that there is
pub record IsEntry (number : ℕ) (e : Entry) : Type 0 where
  pub there : e.alarm < number
  pub cycle : e.cycle < 2 ^ 31

-- each alarm has one entry at most, and no alarm has more than a turn of the counter left
pub record IsWaiting (number : ℕ) (es : List Entry) : Type 0 where
  pub entries : All (IsEntry number) es
  pub once : (alarm : ℕ) → entries_of alarm es ≤ 1
  pub turn : ticks_in es ≤ 2 ^ 31

-- the first entry is not due before so many ticks
abbrev pub FirstWaitsFor : ℕ → List Entry → Type 0
FirstWaitsFor ticks [] = Unit {0}
FirstWaitsFor ticks (e ∷ es) = ticks ≤ e.wait

-- what the fields keep
pub record Keeps (counter : ℕ) (es : List Entry) (number : ℕ) : Type 0 where
  pub few : number ≤ 16
  pub counter_value : counter < 2 ^ 31
  pub waiting : IsWaiting number es
  pub first : FirstWaitsFor 1 es
