-- Alarms on one counter of 31 bits, each as a plain countdown.
use Rattle.std.specs.Prelude.{ℕ, ◌+◌, ◌-◌, ◌%◌, ◌^◌, ◌<◌, ◌≤◌, Bool, false, ◌==◌, ◌&&◌, nat_lt, if◌then◌else◌, List, length, map, replicate, slice_get, slice_set, Option, Some, None, All}
use Rattle.tm_services.specs.declared.status.TheConstants.{E_OK, E_OS_ID, E_OS_NOFUNC, E_OS_STATE, E_OS_VALUE}

-- an alarm that is not in use, or one with the ticks left and the ticks that it goes on with (0: it
-- is off after it was due)
pub data AlarmView : Type 0 where
  Off : AlarmView
  Armed : (left : ℕ) (cycle : ℕ) → AlarmView

-- the counter, and all alarms in order
pub record AlarmsView : Type 0 where
  pub counter : ℕ
  pub alarms : List AlarmView

-- the counter at 0 and a number of alarms, none in use
abbrev pub all_off : ℕ → AlarmsView
all_off alarms = record { counter = 0; alarms = replicate alarms Off }

-- whether a number is a value of the counter: 0 to 2^31 - 1
abbrev pub is_counter_value : ℕ → Bool
is_counter_value n = nat_lt n (2 ^ 31)

-- the status of a call that sets an alarm: there must be such an alarm, it must not be in use, and
-- the values must be good
abbrev pub setting : Option AlarmView → Bool → ℕ
setting None good = E_OS_ID
setting (Some Off) good = if good then E_OK else E_OS_VALUE
setting (Some (Armed left cycle)) good = E_OS_STATE

-- the status of a call on an alarm in use
abbrev pub using : Option AlarmView → ℕ
using None = E_OS_ID
using (Some Off) = E_OS_NOFUNC
using (Some (Armed left cycle)) = E_OK

-- the ticks left of an alarm in use, and else 0
abbrev pub ticks_of : Option AlarmView → ℕ
ticks_of None = 0
ticks_of (Some Off) = 0
ticks_of (Some (Armed left cycle)) = left

-- the alarm in this state, where the status of the call is E_OK
abbrev pub put_where : ℕ → AlarmsView → ℕ → AlarmView → AlarmsView
put_where status a alarm state =
    if status == E_OK then record a { alarms = slice_set a.alarms alarm state } else a

-- SetRelAlarm: the increment is 1 to 2^31 - 1, the cycle 0 to 2^31 - 1
abbrev pub set_rel_status : AlarmsView → ℕ → ℕ → ℕ → ℕ
set_rel_status a alarm increment cycle =
    setting (slice_get a.alarms alarm)
    (nat_lt 0 increment && is_counter_value increment && is_counter_value cycle)

-- after SetRelAlarm
abbrev pub set_rel : AlarmsView → ℕ → ℕ → ℕ → AlarmsView
set_rel a alarm increment cycle =
    put_where (set_rel_status a alarm increment cycle) a alarm (Armed increment cycle)

-- SetAbsAlarm: the start and the cycle are values of the counter
abbrev pub set_abs_status : AlarmsView → ℕ → ℕ → ℕ → ℕ
set_abs_status a alarm start cycle =
    setting (slice_get a.alarms alarm) (is_counter_value start && is_counter_value cycle)

-- the ticks from one value of the counter to the next time that it has another: a whole turn where
-- it has that value already
abbrev pub ticks_until : ℕ → ℕ → ℕ
ticks_until counter start =
    if (start + 2 ^ 31 - counter) % 2 ^ 31 == 0 then 2 ^ 31 else (start + 2 ^ 31 - counter) % 2 ^ 31

-- after SetAbsAlarm
abbrev pub set_abs : AlarmsView → ℕ → ℕ → ℕ → AlarmsView
set_abs a alarm start cycle =
    put_where (set_abs_status a alarm start cycle) a alarm (Armed (ticks_until a.counter start) cycle)

-- CancelAlarm
abbrev pub cancel_status : AlarmsView → ℕ → ℕ
cancel_status a alarm = using (slice_get a.alarms alarm)

-- after CancelAlarm
abbrev pub cancelled : AlarmsView → ℕ → AlarmsView
cancelled a alarm = put_where (cancel_status a alarm) a alarm Off

-- GetAlarm
abbrev pub left_status : AlarmsView → ℕ → ℕ
left_status a alarm = using (slice_get a.alarms alarm)

-- the ticks that GetAlarm answers
abbrev pub left_ticks : AlarmsView → ℕ → ℕ
left_ticks a alarm = ticks_of (slice_get a.alarms alarm)

-- an alarm after a tick
abbrev pub ticked_alarm : AlarmView → AlarmView
ticked_alarm Off = Off
ticked_alarm (Armed left cycle) =
    if left == 1 then (if cycle == 0 then Off else Armed cycle cycle) else Armed (left - 1) cycle

-- one tick: the counter goes up by one, and all alarms in use count down
abbrev pub ticked : AlarmsView → AlarmsView
ticked a = record { counter = (a.counter + 1) % 2 ^ 31; alarms = map ticked_alarm a.alarms }

-- whether an alarm is due at the next tick
abbrev pub is_due : AlarmView → Bool
is_due Off = false
is_due (Armed left cycle) = left == 1

-- which alarms are due at the next tick
abbrev pub due : AlarmsView → List Bool
due a = map is_due a.alarms

-- an alarm in use has 1 to 2^31 ticks left
abbrev pub IsAlarm : AlarmView → Type 0
IsAlarm Off = Unit {0}
IsAlarm (Armed left cycle) = (0 < left) × (left ≤ 2 ^ 31) × (cycle < 2 ^ 31)

-- what always holds
pub record IsAlarms (a : AlarmsView) : Type 0 where
  pub few : length a.alarms ≤ 16
  pub counter : a.counter < 2 ^ 31
  pub alarms : All IsAlarm a.alarms
