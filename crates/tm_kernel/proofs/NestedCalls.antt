-- Boot, and each call of a task that leads, leave holders nested.
use Rattle.std.proofs.Common.{◌≡◌, ◌≢◌, ℕ, ◌-◌, ◌<◌, ◌≤◌, Bool, true, false, not, cond, eqb, ltb, List, [], ◌∷◌, ◌++◌, length, take, drop, replicate, refl, sym, subst, ◌∙◌, arith, zero, suc, Some, None, Option, get_or, set, slice_get, slice_index, bit_and, ◌==◌, inl, inr}
use Rattle.std.proofs.lemmas.Bool.{cases_eq, eqb-true, ltb-true, cond_both, both_ways}
use Rattle.tm_marker.specs.declared.entries.Kind.TheVariants.{Ends, Waits}
use Rattle.tm_marker.specs.declared.service.Service.{Service}
use Rattle.tm_marker.specs.declared.service.Service.TheVariants.{TerminateTask, ChainTask, ClearEvent, GetEvent, WaitEvent, GetAlarm, Send, ReadInput, WriteOutput}
use Rattle.tm_services.specs.declared.status.TheConstants.{E_OK, E_OS_ACCESS, E_OS_ID, E_OS_NOFUNC, E_OS_RESOURCE, E_OS_VALUE}
use Rattle.tm_services.specs.Alarms.{left_status, left_ticks}
use Rattle.tm_services.specs.Ceilings.{current, holds, held_by, got, get_status, released, release_status}
use Rattle.tm_kernel.specs.declared.kernel.TaskState.{TaskState}
use Rattle.tm_kernel.specs.declared.kernel.TaskState.TheVariants.{Suspended, Waiting}
use Rattle.tm_kernel.specs.State.{KernelState, nobody, stopped, is_extended, events_of}
use Rattle.tm_kernel.specs.Service.{Answered, answer, checked, goes_on, leaves, tells, writes, suspended, holding_status, chaining, wait_status, waiting, activation, activated, events_set, event_status, own_event_status, without_events, sent, port_status, activate_task, terminate_task, chain_task, get_task_id, get_task_state, get_resource, release_resource, set_event, clear_event, get_event, wait_event, get_alarm, set_rel_alarm, set_abs_alarm, cancel_alarm, send, receive, read_input, write_output, shutdown_os}
use Rattle.tm_kernel.specs.Mailboxes.{Message, send_status}
use Rattle.tm_kernel.specs.Laws.{CanRun}
use Rattle.tm_kernel.specs.Nesting.{IsNested, BootIsNested, CallKeepsNested}
use Rattle.tm_kernel.proofs.Answering.{answer_where}
use Rattle.tm_kernel.proofs.NestedPriorities.{with_held, current_of_other, holds_of_other, current_of_shorter, holds_of_shorter}
use Rattle.tm_kernel.proofs.NestedLeaders.{IsLeader, running_leads, leader_above}
use Rattle.tm_kernel.proofs.NestedStates.{CanRunIn, KeepsHolders, keeps_nested, keeps_then, beside_can_run, activated_keeps_holders, events_set_keeps_holders, stopped_keeps_holders}

none_held : (n task : ℕ) → ltb 0 (length {A = ℕ} (get_or (replicate n []) task [])) ≡ true → ⊥
none_held zero task h = absurd (omega (arith, ltb-true 0 0 h))
none_held (suc n) zero h = absurd (omega (arith, ltb-true 0 0 h))
none_held (suc n) (suc task) h = none_held n task h

-- at boot nobody holds a resource
pub boot_is_nested : BootIsNested
boot_is_nested spec h = record {
  can_run = λ task held. absurd (none_held 16 task held);
  nested = λ task other ne one two. absurd (none_held 16 task one);
}

-- a step by which the caller, which holds nothing, takes another state
put_keeps_holders : (k : KernelState) (caller : ℕ) (put : TaskState) (awaited : List ℕ) → holds k.ceilings caller ≡ false →
    KeepsHolders k (record k { states = set k.states caller put; awaited = awaited; running = nobody })
put_keeps_holders k caller put awaited free = record {
  ceilings = refl;
  can_run = λ task held can. beside_can_run k.states caller task put
      (λ e. both_ways (holds k.ceilings caller) free (subst (λ (t : ℕ). holds k.ceilings t ≡ true) e held)) can;
}

-- the leader may hold anything: it is above each other holder
got_nested : (k : KernelState) (task : ℕ) (xs : List ℕ) → IsNested k → IsLeader k task →
    IsNested (record k { ceilings = with_held k.ceilings task xs })
got_nested k task xs nested leads =
    let above : (other : ℕ) → other ≢ task → holds (with_held k.ceilings task xs) other ≡ true →
    current (with_held k.ceilings task xs) other < slice_index k.ceilings.priorities task =
    λ other ne held. (
    let before : holds k.ceilings other ≡ true = sym (holds_of_other k.ceilings task other xs ne) ∙ held in
    omega (arith, current_of_other k.ceilings task other xs ne, leader_above k task other nested leads ne before)) in
    record {
      can_run = λ other held. elim (cases_eq other task) [
        | inl e ↦ subst (CanRun k) (sym e) leads.can_run
        | inr ne ↦ nested.can_run other (sym (holds_of_other k.ceilings task other xs ne) ∙ held)
      ];
      nested = λ one two apart first second. elim (cases_eq one task) [
        | inl e ↦ inl (subst (λ (t : ℕ). current (with_held k.ceilings task xs) two < slice_index k.ceilings.priorities t) (sym e)
            (above two (λ f. apart (e ∙ sym f)) second))
        | inr ne ↦ elim (cases_eq two task) [
          | inl e ↦ inr (subst (λ (t : ℕ). current (with_held k.ceilings task xs) one < slice_index k.ceilings.priorities t) (sym e)
              (above one ne first))
          | inr nf ↦ elim (nested.nested one two apart (sym (holds_of_other k.ceilings task one xs ne) ∙ first)
              (sym (holds_of_other k.ceilings task two xs nf) ∙ second)) [
                | inl over ↦ inl (omega (arith, over, current_of_other k.ceilings task two xs nf))
                | inr under ↦ inr (omega (arith, under, current_of_other k.ceilings task one xs ne))
              ]
        ]
      ];
    }

-- a task may give back what it got last
gave_nested : (k : KernelState) (task n : ℕ) → IsNested k →
    IsNested (record k { ceilings = with_held k.ceilings task (take n (held_by k.ceilings task)) })
gave_nested k task n nested =
    let xs : List ℕ = take n (held_by k.ceilings task) in
    let before : (other : ℕ) → holds (with_held k.ceilings task xs) other ≡ true → holds k.ceilings other ≡ true =
    λ other held. elim (cases_eq other task) [
      | inl e ↦ subst (λ (t : ℕ). holds k.ceilings t ≡ true) (sym e)
          (holds_of_shorter k.ceilings task n (subst (λ (t : ℕ). holds (with_held k.ceilings task xs) t ≡ true) e held))
      | inr ne ↦ sym (holds_of_other k.ceilings task other xs ne) ∙ held
    ] in
    let lower : (other : ℕ) → current (with_held k.ceilings task xs) other ≤ current k.ceilings other =
    λ other. elim (cases_eq other task) [
      | inl e ↦ subst (λ (t : ℕ). current (with_held k.ceilings task xs) t ≤ current k.ceilings t) (sym e) (current_of_shorter k.ceilings task n)
      | inr ne ↦ omega (arith, current_of_other k.ceilings task other xs ne)
    ] in
    record {
      can_run = λ other held. nested.can_run other (before other held);
      nested = λ one two apart first second. elim (nested.nested one two apart (before one first) (before two second)) [
        | inl over ↦ inl (omega (arith, over, lower two))
        | inr under ↦ inr (omega (arith, under, lower one))
      ];
    }

get_keeps_nested : (k : KernelState) (caller res : ℕ) → IsNested k → IsLeader k caller →
    IsNested (record k { ceilings = got k.ceilings caller res })
get_keeps_nested k caller res nested leads =
    cond_both (eqb (get_status k.ceilings caller res) E_OK) (with_held k.ceilings caller (held_by k.ceilings caller ++ res ∷ [])) k.ceilings
    (λ c. IsNested (record k { ceilings = c }))
    (λ _. got_nested k caller (held_by k.ceilings caller ++ res ∷ []) nested leads) (λ _. nested)

release_keeps_nested : (k : KernelState) (caller res : ℕ) → IsNested k → IsNested (record k { ceilings = released k.ceilings caller res })
release_keeps_nested k caller res nested =
    cond_both (eqb (release_status k.ceilings caller res) E_OK)
    (with_held k.ceilings caller (take (length (held_by k.ceilings caller) - 1) (held_by k.ceilings caller))) k.ceilings
    (λ c. IsNested (record k { ceilings = c }))
    (λ _. gave_nested k caller (length (held_by k.ceilings caller) - 1) nested) (λ _. nested)

-- an answer that leaves holders nested
record LeavesNested (a : Answered) : Type 0 where
  nested : IsNested a.kernel

-- an answer that leaves what tasks hold, and their states
same_leaves : (k : KernelState) (a : Answered) → IsNested k → a.kernel.ceilings ≡ k.ceilings → a.kernel.states ≡ k.states → LeavesNested a
same_leaves k a nested c s = record {
  nested = keeps_nested k a.kernel (record {
    ceilings = c;
    can_run = λ task _ can. subst (λ (ss : List TaskState). CanRunIn ss task) (sym s) can;
  }) nested;
}

-- a call that does what is given only where its status is E_OK
checked_leaves : (k : KernelState) (service : Service) (status : ℕ) (done : Answered) → IsNested k → (status ≡ E_OK → LeavesNested done) →
    LeavesNested (checked k service status done)
checked_leaves k service status done nested then_nested =
    cond_both (eqb status E_OK) done (goes_on k service status) LeavesNested
    (λ e. then_nested (eqb-true status E_OK e)) (λ _. record { nested = nested })

-- a status that is E_OK though a holder is refused: the caller holds nothing
free_caller : (refused holder : Bool) (first second rest : ℕ) → 0 < first → 0 < second →
    cond refused first (cond holder second rest) ≡ 0 → holder ≡ false
free_caller true holder first second rest f s e = absurd (omega arith)
free_caller false true first second rest f s e = absurd (omega arith)
free_caller false false first second rest f s e = refl

terminate_leaves : (k : KernelState) (caller : ℕ) → IsNested k → LeavesNested (terminate_task k caller)
terminate_leaves k caller nested =
    checked_leaves k TerminateTask (holding_status k caller) (leaves (suspended k caller) TerminateTask Ends) nested
    (λ ok. record {
      nested = keeps_nested k (suspended k caller) (put_keeps_holders k caller Suspended k.awaited
          (free_caller false (holds k.ceilings caller) 1 E_OS_RESOURCE E_OK (omega arith) (omega arith) ok)) nested;
    })

chain_leaves : (k : KernelState) (caller task : ℕ) → IsNested k → LeavesNested (chain_task k caller task)
chain_leaves k caller task nested =
    checked_leaves k ChainTask (chaining k caller task) (leaves (activated (suspended k caller) task) ChainTask Ends) nested
    (λ ok. (
    let free : holds k.ceilings caller ≡ false =
    free_caller (eqb (activation (slice_get k.states task)) E_OS_ID) (holds k.ceilings caller) E_OS_ID E_OS_RESOURCE
    (cond (eqb task caller) E_OK (activation (slice_get k.states task))) (omega arith) (omega arith) ok in
    record {
      nested = keeps_nested k (activated (suspended k caller) task)
          (keeps_then k (suspended k caller) (activated (suspended k caller) task)
          (put_keeps_holders k caller Suspended k.awaited free)
          (activated_keeps_holders (suspended k caller) task)) nested;
    }))

wait_leaves : (k : KernelState) (caller mask : ℕ) → IsNested k → LeavesNested (wait_event k caller mask)
wait_leaves k caller mask nested =
    checked_leaves k WaitEvent (wait_status k caller mask) _ nested
    (λ ok. (
    let free : holds k.ceilings caller ≡ false =
    free_caller (not (is_extended k caller)) (holds k.ceilings caller) E_OS_ACCESS E_OS_RESOURCE
    (cond (eqb mask 0) E_OS_VALUE E_OK) (omega arith) (omega arith) ok in
    cond_both (eqb (bit_and (events_of k caller) mask) 0) (leaves (waiting k caller mask) WaitEvent Waits) (goes_on k WaitEvent E_OK) LeavesNested
    (λ _. record { nested = keeps_nested k (waiting k caller mask) (put_keeps_holders k caller Waiting (set k.awaited caller mask) free) nested })
    (λ _. record { nested = nested })))

task_state_leaves : (k : KernelState) (found : Option TaskState) → IsNested k → LeavesNested (get_task_state k found)
task_state_leaves k None nested = record { nested = nested }
task_state_leaves k (Some state) nested = record { nested = nested }

receive_leaves : (k : KernelState) (box : ℕ) (found : Option (List Message)) → IsNested k → LeavesNested (receive k box found)
receive_leaves k box None nested = record { nested = nested }
receive_leaves k box (Some []) nested = record { nested = nested }
receive_leaves k box (Some (first ∷ rest)) nested = same_leaves k _ nested refl refl

-- the answer to a call is one of two
chosen : (b : Bool) (x y : Answered) → LeavesNested x → LeavesNested y → LeavesNested (cond b x y)
chosen true x y p q = p
chosen false x y p q = q

-- the services that change neither what tasks hold nor their states
clear_leaves : (k : KernelState) (caller mask : ℕ) → IsNested k → LeavesNested (clear_event k caller mask)
clear_leaves k caller mask nested =
    checked_leaves k ClearEvent (own_event_status k caller) (goes_on (without_events k caller mask) ClearEvent E_OK) nested (λ _. same_leaves k _ nested refl refl)

send_leaves : (k : KernelState) (box : ℕ) (message : Message) → IsNested k → LeavesNested (send k box message)
send_leaves k box message nested =
    checked_leaves k Send (send_status k.spec.boxes box (slice_get k.boxes box)) (goes_on (sent k box message) Send E_OK) nested
    (λ _. same_leaves k _ nested refl refl)

call_leaves : (k : KernelState) (task service : ℕ) (args : List ℕ) → IsNested k → IsLeader k task → LeavesNested (answer k task service args)
call_leaves k task service args nested leads =
    let a : ℕ = slice_index args 0 in
    let b : ℕ = slice_index args 1 in
    let c : ℕ = slice_index args 2 in
    answer_where LeavesNested k task service args (record {
      of_activate_task = record { nested = keeps_nested k (activated k a) (activated_keeps_holders k a) nested };
      of_terminate_task = terminate_leaves k task nested;
      of_chain_task = chain_leaves k task a nested;
      of_get_task_id = record { nested = nested };
      of_get_task_state = task_state_leaves k (slice_get k.states a) nested;
      of_get_resource = record { nested = get_keeps_nested k task a nested leads };
      of_release_resource = record { nested = release_keeps_nested k task a nested };
      of_set_event = record { nested = keeps_nested k (events_set k a b) (events_set_keeps_holders k a b) nested };
      of_clear_event = clear_leaves k task a nested;
      of_get_event = checked_leaves k GetEvent (event_status k a) (tells k GetEvent (events_of k a)) nested (λ _. record { nested = nested });
      of_wait_event = wait_leaves k task a nested;
      of_get_alarm = checked_leaves k GetAlarm (left_status k.alarms a) (tells k GetAlarm (left_ticks k.alarms a)) nested (λ _. record { nested = nested });
      of_set_rel_alarm = same_leaves k (set_rel_alarm k a b c) nested refl refl;
      of_set_abs_alarm = same_leaves k (set_abs_alarm k a b c) nested refl refl;
      of_cancel_alarm = same_leaves k (cancel_alarm k a) nested refl refl;
      of_send = send_leaves k a (take 4 (drop 1 args)) nested;
      of_receive = receive_leaves k a (slice_get k.boxes a) nested;
      of_read_input = checked_leaves k ReadInput (port_status a) (tells k ReadInput (slice_index k.ports a)) nested (λ _. record { nested = nested });
      of_write_output = checked_leaves k WriteOutput (port_status a) (writes k WriteOutput (record { task = task; port = a; value = b })) nested (λ _. record { nested = nested });
      of_shutdown_os = record { nested = keeps_nested k (stopped k false) (stopped_keeps_holders k false) nested };
      other = record { nested = nested };
    })

pub call_keeps_nested : CallKeepsNested
call_keeps_nested k task service args h nested settled runs =
    (call_leaves k task service args nested (running_leads k task h settled runs)).nested
