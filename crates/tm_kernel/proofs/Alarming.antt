-- What the alarms keep, through each service and a tick.
use Rattle.std.proofs.Common.{◌≡◌, ◌≢◌, ℕ, ◌+◌, ◌-◌, ◌<◌, ◌≤◌, ◌%◌, ◌^◌, Bool, true, false, length, refl, arith, inl, inr, slice_get, slice_set, length-set, Option, Some, None, if◌then◌else◌, ◌==◌, ◌&&◌, nat_lt}
use Rattle.std.proofs.lemmas.Bool.{cases_eq, eq-eqb, ne_eqb, eqb-true, ltb-true, and_parts}
use Rattle.std.proofs.lemmas.List.{length-map, length-replicate}
use Rattle.std.proofs.lemmas.List.Elements.{All-set, All-map, All-weaker, All-replicate}
use Rattle.tm_services.specs.declared.status.TheConstants.{E_OK}
use Rattle.tm_services.specs.Alarms.{AlarmView, Off, Armed, AlarmsView, IsAlarms, IsAlarm, all_off, is_counter_value, setting, put_where, set_rel_status, set_rel, set_abs_status, set_abs, ticks_until, cancel_status, cancelled, ticked_alarm, ticked}

-- an alarm that is put where the call was not refused
put_where_keeps : (status : ℕ) (a : AlarmsView) (alarm : ℕ) (state : AlarmView) → IsAlarms a → (status ≡ E_OK → IsAlarm state) →
    IsAlarms (put_where status a alarm state)
put_where_keeps status a alarm state h good = go (status == E_OK) refl
  where
    go : (b : Bool) → (status == E_OK) ≡ b → IsAlarms (if b then record a { alarms = slice_set a.alarms alarm state } else a)
    go true e = record {
      few = omega (arith, length-set a.alarms alarm state, h.few);
      counter = h.counter;
      alarms = All-set IsAlarm a.alarms alarm state (good (eqb-true status E_OK e)) h.alarms;
    }
    go false e = h

-- the values of a call that sets an alarm are good, where it is not refused
good_where_set : (found : Option AlarmView) (good : Bool) → setting found good ≡ E_OK → good ≡ true
good_where_set None good e = absurd (omega arith)
good_where_set (Some Off) true e = refl
good_where_set (Some Off) false e = absurd (omega arith)
good_where_set (Some (Armed left cycle)) good e = absurd (omega arith)

pub set_rel_keeps : (a : AlarmsView) (alarm increment cycle : ℕ) → IsAlarms a → IsAlarms (set_rel a alarm increment cycle)
set_rel_keeps a alarm increment cycle h =
    put_where_keeps (set_rel_status a alarm increment cycle) a alarm (Armed increment cycle) h (λ e. (
    let good = good_where_set (slice_get a.alarms alarm) (nat_lt 0 increment && is_counter_value increment && is_counter_value cycle) e in
    let parts = and_parts (nat_lt 0 increment && is_counter_value increment) (is_counter_value cycle) good in
    let first = and_parts (nat_lt 0 increment) (is_counter_value increment) parts.0 in
    let above : 0 < increment = ltb-true 0 increment first.0 in
    let within : increment < 2 ^ 31 = ltb-true increment (2 ^ 31) first.1 in
    let below : cycle < 2 ^ 31 = ltb-true cycle (2 ^ 31) parts.1 in
    (above, omega arith, below)))

ticks_until_within : (counter start : ℕ) → (0 < ticks_until counter start) × (ticks_until counter start ≤ 2 ^ 31)
ticks_until_within counter start = go ((start + 2 ^ 31 - counter) % 2 ^ 31) (omega arith)
  where
    go : (n : ℕ) → n < 2 ^ 31 → (0 < (if n == 0 then 2 ^ 31 else n)) × ((if n == 0 then 2 ^ 31 else n) ≤ 2 ^ 31)
    go n lt = elim (cases_eq n 0) [
      | inl e ↦ rw (eq-eqb n 0 e) (omega arith, omega arith)
      | inr ne ↦ rw (ne_eqb n 0 ne) (omega arith, omega arith)
    ]

pub set_abs_keeps : (a : AlarmsView) (alarm start cycle : ℕ) → IsAlarms a → IsAlarms (set_abs a alarm start cycle)
set_abs_keeps a alarm start cycle h =
    put_where_keeps (set_abs_status a alarm start cycle) a alarm (Armed (ticks_until a.counter start) cycle) h (λ e. (
    let good = good_where_set (slice_get a.alarms alarm) (is_counter_value start && is_counter_value cycle) e in
    let parts = and_parts (is_counter_value start) (is_counter_value cycle) good in
    let until = ticks_until_within a.counter start in
    let below : cycle < 2 ^ 31 = ltb-true cycle (2 ^ 31) parts.1 in
    (until.0, until.1, below)))

pub cancelled_keeps : (a : AlarmsView) (alarm : ℕ) → IsAlarms a → IsAlarms (cancelled a alarm)
cancelled_keeps a alarm h = put_where_keeps (cancel_status a alarm) a alarm Off h (λ e. tt)

ticked_alarm_keeps : (a : AlarmView) → IsAlarm a → IsAlarm (ticked_alarm a)
ticked_alarm_keeps Off h = tt
ticked_alarm_keeps (Armed left cycle) h = elim (cases_eq left 1) [
  | inl e ↦ rw (eq-eqb left 1 e) (elim (cases_eq cycle 0) [
    | inl z ↦ rw (eq-eqb cycle 0 z) tt
    | inr nz ↦ rw (ne_eqb cycle 0 nz) (omega arith, omega (arith, h.2), h.2)
  ])
  | inr ne ↦ rw (ne_eqb left 1 ne) (omega (arith, h.0), omega (arith, h.1), h.2)
]

pub ticked_keeps : (a : AlarmsView) → IsAlarms a → IsAlarms (ticked a)
ticked_keeps a h = record {
  few = omega (arith, length-map a.alarms ticked_alarm, h.few);
  counter = omega arith;
  alarms = All-map IsAlarm ticked_alarm a.alarms
      (All-weaker IsAlarm (λ (x : AlarmView). IsAlarm (ticked_alarm x)) ticked_alarm_keeps a.alarms h.alarms);
}

pub all_off_keeps : (number : ℕ) → number ≤ 16 → IsAlarms (all_off number)
all_off_keeps number few = record {
  few = omega (arith, length-replicate number Off);
  counter = omega arith;
  alarms = All-replicate IsAlarm number Off tt;
}

-- no service and no tick changes how many alarms there are
length-put_where : (status : ℕ) (a : AlarmsView) (alarm : ℕ) (state : AlarmView) → length (put_where status a alarm state).alarms ≡ length a.alarms
length-put_where status a alarm state = go (status == E_OK)
  where
    go : (b : Bool) → length (if b then record a { alarms = slice_set a.alarms alarm state } else a).alarms ≡ length a.alarms
    go true = length-set a.alarms alarm state
    go false = refl

pub length-set_rel : (a : AlarmsView) (alarm increment cycle : ℕ) → length (set_rel a alarm increment cycle).alarms ≡ length a.alarms
length-set_rel a alarm increment cycle = length-put_where (set_rel_status a alarm increment cycle) a alarm (Armed increment cycle)

pub length-set_abs : (a : AlarmsView) (alarm start cycle : ℕ) → length (set_abs a alarm start cycle).alarms ≡ length a.alarms
length-set_abs a alarm start cycle = length-put_where (set_abs_status a alarm start cycle) a alarm (Armed (ticks_until a.counter start) cycle)

pub length-cancelled : (a : AlarmsView) (alarm : ℕ) → length (cancelled a alarm).alarms ≡ length a.alarms
length-cancelled a alarm = length-put_where (cancel_status a alarm) a alarm Off

-- a refused call changes no alarm
pub refused_put : (status : ℕ) (a : AlarmsView) (alarm : ℕ) (state : AlarmView) → status ≢ E_OK → put_where status a alarm state ≡ a
refused_put status a alarm state ne = rw (ne_eqb status E_OK ne) refl
