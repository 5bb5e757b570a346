-- The tasks at the end, as a list that grows by one.
use Rattle.std.proofs.Common.{◌≡◌, ℕ, zero, suc, ◌+◌, ◌≤◌, ◌==◌, if◌then◌else◌, List, [], ◌∷◌, ◌++◌, length, refl, ap, sym, ◌∙◌, arith, length-append, add-one, Option, Some, None, All}
use Rattle.std.proofs.lemmas.List.Elements.{All-push}
use Rattle.tm_marker.specs.declared.entries.OutputEntry.{OutputEntry}
use Rattle.tm_kernel.specs.declared.kernel.TaskState.{TaskState}
use Rattle.tm_kernel.specs.declared.kernel.TaskState.TheVariants.{Suspended, Ready, Running, Waiting}
use Rattle.tm_kernel.specs.State.{state_number}
use Rattle.tm_spelling.specs.Story.{View, Last}
use Rattle.tm_text.specs.declared.seen.Track.{Track}
use Rattle.tm_text.specs.Views.{view_of, last_of, lasts_of}
use Rattle.tm_system.specs.Telling.{below, number_of}
use Rattle.tm_system.specs.Machine.{MachineView}
use Rattle.tm_system.proofs.Below.{length-below}
use Rattle.tm_prog.specs.Teller.{printed_by, view_in, state_in, last_in, TracksFirst}

small_state : (state : TaskState) → state_number state ≤ 3
small_state Suspended = omega arith
small_state Ready = omega arith
small_state Running = omega arith
small_state Waiting = omega arith

small_number : (state : Option TaskState) → number_of state ≤ 3
small_number None = omega arith
small_number (Some state) = small_state state

-- each state has a name
pub states_named : (machine : MachineView) (n : ℕ) → All (λ s. s ≤ 3) (below n (state_in machine))
states_named machine zero = λ k d within. absurd (omega arith)
states_named machine (suc n) = All-push (λ (s : ℕ). s ≤ 3) (below n (state_in machine)) (state_in machine n) (states_named machine n) (small_number _)

lasts_of-append : (running : ℕ) (tracks : List Track) (states : List ℕ) (track : Track) (state : ℕ) → length tracks ≡ length states →
    lasts_of running (tracks ++ track ∷ []) (states ++ state ∷ []) ≡ lasts_of running tracks states ++ last_of running track state ∷ []
lasts_of-append running [] [] track state e = refl
lasts_of-append running [] (s ∷ ss) track state e = absurd (omega arith)
lasts_of-append running (t ∷ ts) [] track state e = absurd (omega arith)
lasts_of-append running (t ∷ ts) (s ∷ ss) track state e =
    ap (λ l. last_of running t s ∷ l) (lasts_of-append running ts ss track state (omega arith))

same_last : (state : ℕ) (v w : View) (o p : List OutputEntry) → v ≡ w → o ≡ p →
    (let l : Last = record { state = state; view = v; outputs = o } in l) ≡ record { state = state; view = w; outputs = p }
same_last state v w o p e f = cc

-- one more task
pub tracks_more : (machine : MachineView) (printed : List (List ℕ)) (pending : List OutputEntry) (n : ℕ) (tracks more : List Track) (track : Track) →
    TracksFirst machine printed pending n tracks → more ≡ tracks ++ track ∷ [] →
    view_of track.last ≡ view_in machine n (printed_by printed n) → track.last.task ≡ n → track.outputs ≡ pending →
    TracksFirst machine printed pending (n + 1) more
tracks_more machine printed pending n tracks more track first is view number outs =
    let running : ℕ = machine.kernel.running in
    let last : last_of running track (state_in machine n) ≡ last_in machine printed pending n =
    same_last _ _ _ _ _ view
    (ap (λ t. if t == running then track.outputs else []) number ∙ ap (λ o. if n == running then o else []) outs) in
    let more_lasts : lasts_of running (tracks ++ track ∷ []) (below n (state_in machine) ++ state_in machine n ∷ []) ≡
    below n (last_in machine printed pending) ++ last_in machine printed pending n ∷ [] =
    lasts_of-append running tracks (below n (state_in machine)) track (state_in machine n)
    (first.number ∙ sym (length-below n (state_in machine))) ∙
    ap (λ l. l ++ last_of running track (state_in machine n) ∷ []) first.lasts ∙
    ap (λ l. below n (last_in machine printed pending) ++ l ∷ []) last in
    rw (is, add-one) record {
      number = length-append tracks (track ∷ []) ∙ omega (arith, first.number);
      lasts = more_lasts;
    }
