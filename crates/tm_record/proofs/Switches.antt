-- The control entries of a run: each by itself, and one after another.
use Rattle.std.proofs.Common.{◌≡◌, ◌≢◌, ℕ, Bool, true, false, ◌||◌, not, ◌==◌, List, [], ◌∷◌, All, refl, ap, sym, ◌∙◌, subst, arith, inl, inr, Option, Some, None, is_some, unwrap_or}
use Rattle.std.proofs.lemmas.Bool.{cases_Bool, cases_eq, eq-eqb, ne_eqb, eqb-true, eqb-false}
use Rattle.std.proofs.lemmas.List.Elements.{All-nil, All-push, All-weaker}
use Rattle.tm_marker.specs.declared.entries.Kind.{Kind}
use Rattle.tm_marker.specs.declared.entries.Kind.TheVariants.{Preempted, Waits, Ends, Fault, Shutdown, Idle}
use Rattle.tm_marker.specs.declared.entries.Switch.{Switch}
use Rattle.tm_kernel.specs.State.{nobody}
use Rattle.tm_image.specs.Image.{ImageView, IsImage}
use Rattle.tm_log.specs.WellFormed.{GoesTo, ended_by, AreChained, runs_last, ended_last}
use Rattle.tm_system.specs.History.{Deed, Arrives, Steps, Answers, Faulted, Moment, History}
use Rattle.tm_system.specs.Run.{now, running_at}
use Rattle.tm_system.specs.Follows.{Follows, DidDeed, IsTurnOf, CanRunNext, ended_by as left_ended}
use Rattle.tm_system.specs.Controls.{controls, is_switch, switch_at, kind_by}
use Rattle.tm_system.proofs.Texts.{controls_stay, controls_more}
use Rattle.tm_record.proofs.KeptLists.{chained_more, runs_more, ended_more}
use Rattle.tm_record.proofs.Histories.{IsGoodNext, IsInvariant}
use Rattle.tm_record.proofs.Marks.{IsSideAt, side_at, side_more, runs_there, tasks_few}

-- whom the running task, or nobody, leaves the processor to, by why it left by itself
abbrev pub CanGo : ℕ → Option Kind → ℕ → Type 0
CanGo from None to = from ≢ nobody → to ≢ nobody
CanGo from (Some Preempted) to = ⊥
CanGo from (Some Waits) to = (from ≢ nobody) × (to ≢ from)
CanGo from (Some Ends) to = from ≢ nobody
CanGo from (Some Fault) to = (from ≢ nobody) × (to ≡ nobody)
CanGo from (Some Shutdown) to = (from ≢ nobody) × (to ≡ nobody)
CanGo from (Some Idle) to = ⊥

call_goes : (from : ℕ) (leaves : Option Kind) (to : ℕ) → from ≢ nobody → CanRunNext leaves from to → CanGo from leaves to
call_goes from None to some next = λ _. next
call_goes from (Some Preempted) to some next = next
call_goes from (Some Waits) to some next = (some, next)
call_goes from (Some Ends) to some next = some
call_goes from (Some Fault) to some next = absurd next
call_goes from (Some Shutdown) to some next = (some, next)
call_goes from (Some Idle) to some next = next

-- a turn is a task's
turn_some : (image : ImageView) (h : History) (task : ℕ) → IsImage image → IsTurnOf image h task → running_at image h ≢ nobody
turn_some image h task i turn e = omega (arith, turn.runs, turn.there, e, tasks_few image i)

-- where a moment that follows leads, and how the run stands then
pub record IsLed (image : ImageView) (h : History) (m : Moment) : Type 0 where
  pub goes : CanGo (running_at image h) m.leaves m.after.kernel.running
  pub ended : m.after.kernel.ended ≡ left_ended m.leaves

led_by : (image : ImageView) (h : History) (m : Moment) → IsImage image → (now image h).kernel.ended ≡ 0 → (d : Deed) → DidDeed image h m d →
    IsLed image h m
led_by image h m i before (Arrives mask ports) did = record {
  goes = subst (λ (l : Option Kind). CanGo (running_at image h) l m.after.kernel.running) (sym did.leaves) did.keeps;
  ended = did.ended ∙ ap left_ended (sym did.leaves);
}
led_by image h m i before (Steps task back) did = record {
  goes = subst (λ (l : Option Kind). CanGo (running_at image h) l m.after.kernel.running) (sym did.leaves)
      (λ some none. some (sym (ap (λ k. k.running) did.kernel) ∙ none));
  ended = ap (λ k. k.ended) did.kernel ∙ before ∙ ap left_ended (sym did.leaves);
}
led_by image h m i before (Answers task entry output) did = record {
  goes = call_goes (running_at image h) m.leaves m.after.kernel.running (turn_some image h task i did.turn)
      (subst (λ (t : ℕ). CanRunNext m.leaves t m.after.kernel.running) (sym did.turn.runs) did.next);
  ended = did.ended;
}
led_by image h m i before (Faulted task cause) did = record {
  goes = subst (λ (l : Option Kind). CanGo (running_at image h) l m.after.kernel.running) (sym did.leaves)
      (turn_some image h task i did.turn, did.nobody_runs);
  ended = did.ended ∙ ap left_ended (sym did.leaves);
}

pub led : (image : ImageView) (h : History) (m : Moment) → IsImage image → Follows image h m → IsLed image h m
led image h m i f = led_by image h m i f.goes m.deed f.did

-- the kind and the two sides of an entry, and how the run stands after it
pub record IsGone (from : ℕ) (leaves : Option Kind) (to : ℕ) : Type 0 where
  pub idle : kind_by from leaves ≡ Idle → from ≡ nobody
  pub nobody : from ≡ nobody → kind_by from leaves ≡ Idle
  pub goes : GoesTo (kind_by from leaves) from to
  pub ended : ended_by (kind_by from leaves) ≡ left_ended leaves

-- where a task ran, the kind is why it left by itself, or that it was preempted
kind_of_some : (from : ℕ) (leaves : Option Kind) → from ≢ nobody → kind_by from leaves ≡ unwrap_or leaves Preempted
kind_of_some from leaves some = rw (ne_eqb from nobody some) refl

left_gone : (from : ℕ) (kind : Kind) (to : ℕ) → from ≢ nobody → (kind ≡ Idle → ⊥) → GoesTo kind from to → ended_by kind ≡ left_ended (Some kind) →
    IsGone from (Some kind) to
left_gone from kind to some not_idle goes ended =
    let is : kind_by from (Some kind) ≡ kind = kind_of_some from (Some kind) some in
    record {
      idle = λ e. absurd (not_idle (sym is ∙ e));
      nobody = λ e. absurd (some e);
      goes = subst (λ (k : Kind). GoesTo k from to) (sym is) goes;
      ended = ap ended_by is ∙ ended;
    }

differs : (from to : ℕ) → not (from == to) ≡ true → to ≢ from
differs from to switch = go (from == to) refl switch
  where
    go : (b : Bool) → (from == to) ≡ b → not b ≡ true → to ≢ from
    go true is wrong = cc
    go false is _ = λ e. eqb-false from to is (sym e)

-- the entry of a moment that goes where it can
gone : (from : ℕ) (leaves : Option Kind) (to : ℕ) → CanGo from leaves to → (is_some leaves || not (from == to)) ≡ true → IsGone from leaves to
gone from (Some Preempted) to can switch = absurd can
gone from (Some Waits) to can switch = left_gone from Waits to can.0 (λ e. cc) can.1 refl
gone from (Some Ends) to can switch = left_gone from Ends to can (λ e. cc) tt refl
gone from (Some Fault) to can switch = left_gone from Fault to can.0 (λ e. cc) can.1 refl
gone from (Some Shutdown) to can switch = left_gone from Shutdown to can.0 (λ e. cc) can.1 refl
gone from (Some Idle) to can switch = absurd can
gone from None to can switch =
    let other : to ≢ from = differs from to switch in
    elim (cases_eq from nobody) [
      | inl e ↦
          let is : kind_by from None ≡ Idle = rw (eq-eqb from nobody e) refl in
          record {
            idle = λ _. e;
            nobody = λ _. is;
            goes = subst (λ (k : Kind). GoesTo k from to) (sym is) (λ q. other (q ∙ sym e));
            ended = ap ended_by is;
          }
      | inr some ↦
          let is : kind_by from None ≡ Preempted = kind_of_some from None some in
          record {
            idle = λ q. cc;
            nobody = λ q. absurd (some q);
            goes = subst (λ (k : Kind). GoesTo k from to) (sym is) (can some, other);
            ended = ap ended_by is;
          }
    ]

-- where no entry is made, the same runs, and the run goes on
stays_put : (from : ℕ) (leaves : Option Kind) (to : ℕ) → (is_some leaves || not (from == to)) ≡ false → (from ≡ to) × (left_ended leaves ≡ 0)
stays_put from (Some kind) to switch = cc
stays_put from None to switch = (go (from == to) refl switch, refl)
  where
    go : (b : Bool) → (from == to) ≡ b → (not b) ≡ false → from ≡ to
    go true is _ = eqb-true from to is
    go false is wrong = cc

-- a control entry of a run, by itself
pub record IsEntryAt (image : ImageView) (h : History) (entry : Switch) : Type 0 where
  pub from : IsSideAt image h entry.from entry.from_at
  pub to : IsSideAt image h entry.to entry.to_at
  pub idle : entry.kind ≡ Idle → entry.from ≡ nobody
  pub nobody : entry.from ≡ nobody → entry.kind ≡ Idle
  pub goes : GoesTo entry.kind entry.from entry.to

entry_more : (image : ImageView) (m : Moment) (h : History) (entry : Switch) → IsEntryAt image h entry → IsEntryAt image (m ∷ h) entry
entry_more image m h entry e = record {
  from = side_more image m h entry.from entry.from_at e.from;
  to = side_more image m h entry.to entry.to_at e.to;
  idle = e.idle;
  nobody = e.nobody;
  goes = e.goes;
}

-- the control entries of a run, that lead where it stands
pub record AreEntries (image : ImageView) (h : History) : Type 0 where
  pub each : All (IsEntryAt image h) (controls image h)
  pub chained : AreChained (controls image h)
  pub running : running_at image h ≡ runs_last (controls image h)
  pub ended : (now image h).kernel.ended ≡ ended_last (controls image h)

-- one moment on: the entries stay, or there is one more
stays : (image : ImageView) (h : History) (m : Moment) → IsImage image → IsGoodNext image h m → AreEntries image h →
    is_switch image m h ≡ false → AreEntries image (m ∷ h)
stays image h m i n a switch =
    let same = controls_stay image m h switch in
    let put = stays_put (running_at image h) m.leaves m.after.kernel.running switch in
    record {
      each = subst (λ (l : List Switch). All (IsEntryAt image (m ∷ h)) l) (sym same)
          (All-weaker (IsEntryAt image h) (IsEntryAt image (m ∷ h)) (entry_more image m h) (controls image h) a.each);
      chained = subst AreChained (sym same) a.chained;
      running = sym put.0 ∙ a.running ∙ ap runs_last (sym same);
      ended = (led image h m i n.follows).ended ∙ put.1 ∙ sym n.follows.goes ∙ a.ended ∙ ap ended_last (sym same);
    }

switches : (image : ImageView) (h : History) (m : Moment) → IsImage image → IsGoodNext image h m → AreEntries image h →
    is_switch image m h ≡ true → AreEntries image (m ∷ h)
switches image h m i n a switch =
    let more = controls_more image m h switch in
    let x : Switch = switch_at image m h in
    let l = led image h m i n.follows in
    let g = gone (running_at image h) m.leaves m.after.kernel.running l.goes switch in
    let entry : IsEntryAt image (m ∷ h) x = record {
      from = side_at image (m ∷ h) (running_at image h) i n.after (runs_there image h i n.before);
      to = side_at image (m ∷ h) m.after.kernel.running i n.after (runs_there image (m ∷ h) i n.after);
      idle = g.idle;
      nobody = g.nobody;
      goes = g.goes;
    } in
    record {
      each = subst (λ (l : List Switch). All (IsEntryAt image (m ∷ h)) l) (sym more)
          (All-push (IsEntryAt image (m ∷ h)) (controls image h) x
          (All-weaker (IsEntryAt image h) (IsEntryAt image (m ∷ h)) (entry_more image m h) (controls image h) a.each) entry);
      chained = subst AreChained (sym more) (chained_more (controls image h) x a.chained a.running (sym a.ended ∙ n.follows.goes));
      running = sym (runs_more (controls image h) x) ∙ ap runs_last (sym more);
      ended = l.ended ∙ sym g.ended ∙ sym (ended_more (controls image h) x) ∙ ap ended_last (sym more);
    }

pub entries_kept : (image : ImageView) → IsImage image → IsInvariant image (AreEntries image)
unfolding controls
entries_kept image i = record {
  boots = record { each = All-nil (IsEntryAt image []); chained = tt; running = refl; ended = refl };
  goes_on = λ h m n a. elim (cases_Bool (is_switch image m h)) [
    | inl e ↦ switches image h m i n a e
    | inr e ↦ stays image h m i n a e
  ];
}
