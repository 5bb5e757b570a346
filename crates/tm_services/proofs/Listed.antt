-- The list of all alarms, after a change.
use Rattle.std.proofs.Common.{◌≡◌, ℕ, ◌<◌, ◌≤◌, Bool, true, false, List, length, get_or, refl, sym, ◌∙◌, ap, arith, inl, inr, Some, None, slice_get, slice_set, length-set, is_some, [], replicate, unwrap_or}
use Rattle.std.proofs.lemmas.Bool.{cases_eq, cases_lt, eq-eqb}
use Rattle.std.proofs.lemmas.List.{get_or-set_same, get_or-set_other, get_or-replicate, length-replicate}
use Rattle.std.proofs.lemmas.List.FromFn.{length-map-range_with_len, get_or-map-range_with_len, fill_by_all}
use Rattle.std.proofs.lemmas.List.Elements.{All-from_get_or, All-nil}
use Rattle.std.proofs.lemmas.Option.{slice_get-get_or, slice_get_past, slice_get_within, same_Some}
use Rattle.tm_services.specs.declared.status.TheConstants.{E_OK, E_OS_ID, E_OS_NOFUNC, E_OS_STATE}
use Rattle.tm_services.specs.declared.waiting.Entry.{Entry}
use Rattle.tm_services.specs.Alarms.{AlarmView, Off, Armed, IsAlarm, IsAlarms, setting, using, ticks_of, cancelled}
use Rattle.tm_services.specs.Waiting.{countdown, alarms_of, view_of, left_of, inserted, without, entries_of, IsEntry, IsWaiting, Keeps}
use Rattle.tm_services.proofs.Countdowns.{inserted_same, inserted_other, without_same, without_other, off_is_absent, absent_is_off}
use Rattle.tm_services.proofs.Waits.{inserted_keeps, without_keeps, first-inserted, first-without, is_alarm_at, past_is_absent}

pub length-alarms_of : (es : List Entry) (number : ℕ) → length (alarms_of es number) ≡ number
length-alarms_of es number = length-map-range_with_len (countdown es) 0 number

pub get_or-alarms_of : (es : List Entry) (number k : ℕ) (d : AlarmView) → k < number → get_or (alarms_of es number) k d ≡ countdown es k
get_or-alarms_of es number k d within = get_or-map-range_with_len (countdown es) 0 number k k d within (omega arith)

pub slice_get-alarms_of : (es : List Entry) (number k : ℕ) → k < number → slice_get (alarms_of es number) k ≡ Some (countdown es k)
slice_get-alarms_of es number k within =
    slice_get-get_or (alarms_of es number) k Off (omega (arith, length-alarms_of es number))
    ∙ ap (λ (v : AlarmView). Some v) (get_or-alarms_of es number k Off within)

pub slice_get-alarms_of_past : (es : List Entry) (number k : ℕ) → number ≤ k → slice_get (alarms_of es number) k ≡ None
slice_get-alarms_of_past es number k past = slice_get_past (alarms_of es number) k (omega (arith, length-alarms_of es number))

-- the list is the one that has each alarm's countdown in its place
pub alarms_of_is : (es : List Entry) (number : ℕ) (xs : List AlarmView) → length xs ≡ number →
    ((k : ℕ) → k < number → get_or xs k Off ≡ countdown es k) → alarms_of es number ≡ xs
alarms_of_is es number xs many each = sym (fill_by_all (countdown es) xs number Off many each)

-- an alarm that is off has no entry
pub record IsFree (es : List Entry) (number alarm : ℕ) : Type 0 where
  pub there : alarm < number
  pub absent : entries_of alarm es ≡ 0

pub free_from_off : (es : List Entry) (number alarm : ℕ) → slice_get (alarms_of es number) alarm ≡ Some Off → IsFree es number alarm
free_from_off es number alarm off =
    let within : alarm < number = omega (arith, slice_get_within (alarms_of es number) alarm Off off, length-alarms_of es number) in
    record {
      there = within;
      absent = off_is_absent es alarm (same_Some (countdown es alarm) Off (sym (slice_get-alarms_of es number alarm within) ∙ off));
    }

-- an alarm is put into use
pub armed_list : (es : List Entry) (number : ℕ) (new : Entry) → IsFree es number new.alarm →
    alarms_of (inserted new es) number ≡ slice_set (alarms_of es number) new.alarm (Armed new.wait new.cycle)
armed_list es number new f =
    alarms_of_is (inserted new es) number (slice_set (alarms_of es number) new.alarm (Armed new.wait new.cycle))
    (length-set (alarms_of es number) new.alarm (Armed new.wait new.cycle) ∙ length-alarms_of es number)
    (λ k within. elim (cases_eq k new.alarm) [
      | inl e ↦
          rw (e, inserted_same es new f.absent)
          (get_or-set_same (alarms_of es number) new.alarm (Armed new.wait new.cycle) Off (omega (arith, f.there, length-alarms_of es number)))
      | inr ne ↦
          get_or-set_other (alarms_of es number) new.alarm k (Armed new.wait new.cycle) Off ne
          ∙ get_or-alarms_of es number k Off within ∙ sym (inserted_other es new k (λ e. ne (sym e)))
    ])

pub armed_keeps : (counter : ℕ) (es : List Entry) (number : ℕ) (new : Entry) → Keeps counter es number → IsFree es number new.alarm →
    IsAlarm (Armed new.wait new.cycle) → Keeps counter (inserted new es) number
armed_keeps counter es number new h f good = record {
  few = h.few;
  counter_value = h.counter_value;
  waiting = inserted_keeps number es new h.waiting (record { there = f.there; cycle = good.2 }) f.absent good.1;
  first = first-inserted es new h.first good.0;
}

-- an alarm is off
pub cancelled_list : (es : List Entry) (number alarm : ℕ) → alarm < number → IsWaiting number es →
    alarms_of (without alarm es) number ≡ slice_set (alarms_of es number) alarm Off
cancelled_list es number alarm there h =
    alarms_of_is (without alarm es) number (slice_set (alarms_of es number) alarm Off)
    (length-set (alarms_of es number) alarm Off ∙ length-alarms_of es number)
    (λ k within. elim (cases_eq k alarm) [
      | inl e ↦
          rw (e, without_same alarm es (h.once alarm))
          (get_or-set_same (alarms_of es number) alarm Off Off (omega (arith, length-alarms_of es number)))
      | inr ne ↦
          get_or-set_other (alarms_of es number) alarm k Off Off ne
          ∙ get_or-alarms_of es number k Off within ∙ sym (without_other alarm es k (λ e. ne (sym e)))
    ])

pub cancelled_keeps : (counter : ℕ) (es : List Entry) (number alarm : ℕ) → Keeps counter es number → Keeps counter (without alarm es) number
cancelled_keeps counter es number alarm h = record {
  few = h.few;
  counter_value = h.counter_value;
  waiting = without_keeps number alarm es h.waiting;
  first = first-without alarm es h.first;
}

-- what callers know of the value
pub keeps_alarms : (counter : ℕ) (es : List Entry) (number : ℕ) → Keeps counter es number → IsAlarms (view_of counter es number)
keeps_alarms counter es number h = record {
  few = omega (arith, h.few, length-alarms_of es number);
  counter = h.counter_value;
  alarms = All-from_get_or IsAlarm (alarms_of es number) Off (λ k within.
      rw (get_or-alarms_of es number k Off (omega (arith, length-alarms_of es number))) (is_alarm_at number es k h.waiting h.first));
}

-- the statuses
setting_off : (v : AlarmView) (good : Bool) → is_some (left_of v) ≡ false → setting (Some v) good ≡ setting (Some Off) good
setting_off Off good e = refl
setting_off (Armed left cycle) good e = cc

setting_used : (v : AlarmView) (good : Bool) → is_some (left_of v) ≡ true → setting (Some v) good ≡ E_OS_STATE
setting_used Off good e = cc
setting_used (Armed left cycle) good e = refl

using_off : (v : AlarmView) → is_some (left_of v) ≡ false → using (Some v) ≡ E_OS_NOFUNC
using_off Off e = refl
using_off (Armed left cycle) e = cc

using_used : (v : AlarmView) → is_some (left_of v) ≡ true → using (Some v) ≡ E_OK
using_used Off e = cc
using_used (Armed left cycle) e = refl

pub setting_past : (es : List Entry) (number k : ℕ) (good : Bool) → number ≤ k → setting (slice_get (alarms_of es number) k) good ≡ E_OS_ID
setting_past es number k good past = rw (slice_get-alarms_of_past es number k past) refl

pub setting_in_use : (es : List Entry) (number k : ℕ) (good : Bool) → k < number → is_some (left_of (countdown es k)) ≡ true →
    setting (slice_get (alarms_of es number) k) good ≡ E_OS_STATE
setting_in_use es number k good within used = rw (slice_get-alarms_of es number k within) (setting_used (countdown es k) good used)

pub setting_free : (es : List Entry) (number k : ℕ) (good : Bool) → k < number → is_some (left_of (countdown es k)) ≡ false →
    setting (slice_get (alarms_of es number) k) good ≡ setting (Some Off) good
setting_free es number k good within off = rw (slice_get-alarms_of es number k within) (setting_off (countdown es k) good off)

pub using_past : (es : List Entry) (number k : ℕ) → number ≤ k → using (slice_get (alarms_of es number) k) ≡ E_OS_ID
using_past es number k past = rw (slice_get-alarms_of_past es number k past) refl

pub using_in_use : (es : List Entry) (number k : ℕ) → k < number → is_some (left_of (countdown es k)) ≡ true →
    using (slice_get (alarms_of es number) k) ≡ E_OK
using_in_use es number k within used = rw (slice_get-alarms_of es number k within) (using_used (countdown es k) used)

pub using_free : (es : List Entry) (number k : ℕ) → k < number → is_some (left_of (countdown es k)) ≡ false →
    using (slice_get (alarms_of es number) k) ≡ E_OS_NOFUNC
using_free es number k within off = rw (slice_get-alarms_of es number k within) (using_off (countdown es k) off)

-- at first
pub all_off_list : (number : ℕ) → alarms_of [] number ≡ replicate number Off
all_off_list number =
    alarms_of_is [] number (replicate number Off) (length-replicate number Off) (λ k within. get_or-replicate number k Off Off within)

pub empty_keeps : (number : ℕ) → number ≤ 16 → Keeps 0 [] number
empty_keeps number few = record {
  few = few;
  counter_value = omega arith;
  waiting = record { entries = All-nil (IsEntry number); once = λ alarm. omega arith; turn = omega arith };
  first = tt;
}

-- the ticks that are answered
ticks_of_left : (v : AlarmView) → unwrap_or (left_of v) 0 ≡ ticks_of (Some v)
ticks_of_left Off = refl
ticks_of_left (Armed left cycle) = refl

pub ticks_answered : (es : List Entry) (number k : ℕ) → IsWaiting number es →
    unwrap_or (left_of (countdown es k)) 0 ≡ ticks_of (slice_get (alarms_of es number) k)
ticks_answered es number k h = elim (cases_lt k number) [
  | inl within ↦ rw (slice_get-alarms_of es number k within) (ticks_of_left (countdown es k))
  | inr past ↦ rw (slice_get-alarms_of_past es number k past, absent_is_off es k (past_is_absent number es k h.entries past)) refl
]

-- what a status says of the alarm
pub used_from_status : (es : List Entry) (number k : ℕ) → using (slice_get (alarms_of es number) k) ≡ E_OK → k < number
used_from_status es number k ok = elim (cases_lt k number) [
  | inl within ↦ within
  | inr past ↦ (let other : using (slice_get (alarms_of es number) k) ≡ E_OS_ID = using_past es number k past in absurd (omega arith))
]

pub cancelled_view : (counter : ℕ) (es : List Entry) (number alarm : ℕ) → Keeps counter es number →
    using (slice_get (alarms_of es number) alarm) ≡ E_OK →
    view_of counter (without alarm es) number ≡ cancelled (view_of counter es number) alarm
cancelled_view counter es number alarm h ok =
    rw (cancelled_list es number alarm (used_from_status es number alarm ok) h.waiting, eq-eqb (using (slice_get (alarms_of es number) alarm)) E_OK ok) refl
