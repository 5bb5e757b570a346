-- What a kernel keeps holds at boot.
use Rattle.std.proofs.Common.{◌≡◌, ℕ, ◌-◌, ◌<◌, ◌≤◌, ◌^◌, Bool, true, false, List, [], ◌∷◌, length, map, replicate, refl, sym, arith, Some, zero, suc, inl, inr, slice_get, slice_index}
use Rattle.std.specs.List.{All}
use Rattle.std.proofs.Math.Pow.{pow_mono}
use Rattle.std.proofs.lemmas.Bool.{cases_lt}
use Rattle.std.proofs.lemmas.List.{length-map, length-replicate, length-append, get_or-replicate, get_or_past}
use Rattle.std.proofs.lemmas.List.Elements.{All-nil, All-append, All-replicate, All-map, All-weaker}
use Rattle.std.proofs.lemmas.Option.{same_Some}
use Rattle.tm_services.specs.Ceilings.{IsCeilings, nothing_held, held_by, is_user}
use Rattle.tm_kernel.specs.declared.spec.TaskSpec.{TaskSpec}
use Rattle.tm_kernel.specs.declared.spec.KernelSpec.{KernelSpec}
use Rattle.tm_kernel.specs.declared.kernel.TaskState.TheVariants.{Running}
use Rattle.tm_kernel.specs.Spec.{IsKernelSpec}
use Rattle.tm_kernel.specs.Mailboxes.{Message}
use Rattle.tm_kernel.specs.State.{IsKernel, booted, boot_state, padded}
use Rattle.tm_kernel.proofs.Alarming.{all_off_keeps}

-- a short list and the zeros behind it
pub length-padded : (xs : List ℕ) → length xs ≤ 16 → length (padded xs) ≡ 16
length-padded xs few = omega (arith, length-append xs (replicate (16 - length xs) 0), length-replicate {A = ℕ} (16 - length xs) 0)

padded_small : (bound : ℕ) (xs : List ℕ) → 0 < bound → All (λ x. x < bound) xs → All (λ x. x < bound) (padded xs)
padded_small bound xs some small =
    All-append (λ (x : ℕ). x < bound) xs (replicate (16 - length xs) 0) small (All-replicate (λ (x : ℕ). x < bound) (16 - length xs) 0 some)

-- where nobody holds a resource
nothing_held_keeps : (priorities users : List ℕ) (resources : ℕ) → length priorities ≡ 16 → All (λ p. p < 256) priorities →
    length users ≡ 16 → All (λ mask. mask < 2 ^ 16) users → resources ≤ 16 → IsCeilings (nothing_held priorities users resources)
nothing_held_keeps priorities users resources p sp u su few =
    let none : (t : ℕ) → held_by (nothing_held priorities users resources) t ≡ [] = λ t. elim (cases_lt t 16) [
      | inl small ↦ get_or-replicate 16 t [] [] small
      | inr past ↦ get_or_past (replicate 16 []) t [] past
    ] in
    let nothing : (P : ℕ → Type 0) (t : ℕ) → All P (held_by (nothing_held priorities users resources) t) =
    λ P t. rw (none t) (All-nil P) in
    record {
      priorities = p;
      small_priorities = sp;
      users = u;
      small_masks = su;
      few_resources = few;
      held = refl;
      there = λ t. nothing (λ res. res < resources) t;
      declared = λ t. nothing (λ res. is_user (slice_index users res) t ≡ true) t;
      once = λ r. omega arith;
    }

pub boot_ceilings_keeps : (spec : KernelSpec) → IsKernelSpec spec →
    IsCeilings (nothing_held (padded (map (λ (t : TaskSpec). t.priority) spec.tasks)) (padded spec.users) (length spec.users))
boot_ceilings_keeps spec h =
    let priorities : List ℕ = map (λ (t : TaskSpec). t.priority) spec.tasks in
    let few : length priorities ≤ 16 = omega (arith, length-map spec.tasks (λ (t : TaskSpec). t.priority), h.few_tasks) in
    nothing_held_keeps (padded priorities) (padded spec.users) (length spec.users)
    (length-padded priorities few)
    (padded_small 256 priorities (omega arith) (All-map (λ (p : ℕ). p < 256) (λ (t : TaskSpec). t.priority) spec.tasks h.small))
    (length-padded spec.users h.few_resources)
    (padded_small (2 ^ 16) spec.users (omega arith) (All-weaker (λ (mask : ℕ). (0 < mask) × (mask < 2 ^ length spec.tasks)) (λ (mask : ℕ). mask < 2 ^ 16)
    (λ mask so. below so.1) spec.users h.users))
    h.few_resources
  where
    below : {mask : ℕ} → mask < 2 ^ length spec.tasks → mask < 2 ^ 16
    below lt = (let most : 2 ^ length spec.tasks ≤ 2 ^ 16 = pow_mono h.few_tasks in omega arith)

boots_apart : (auto : Bool) → boot_state auto ≡ Running → ⊥
boots_apart true e = cc
boots_apart false e = cc

-- a boot state is never running
pub boot_states_run_none : (tasks : List TaskSpec) (t : ℕ) → slice_get (map (λ (t : TaskSpec). boot_state t.auto) tasks) t ≡ Some Running → ⊥
boot_states_run_none [] t e = cc
boot_states_run_none (x ∷ xs) zero e = boots_apart x.auto (same_Some _ _ e)
boot_states_run_none (x ∷ xs) (suc t) e = boot_states_run_none xs t e

-- every box is empty
empty_boxes : (n box : ℕ) (messages : List Message) → slice_get (replicate n []) box ≡ Some messages → messages ≡ []
empty_boxes zero box messages e = cc
empty_boxes (suc n) zero messages e = sym (same_Some [] messages e)
empty_boxes (suc n) (suc box) messages e = empty_boxes n box messages e

-- a kernel at boot
pub booted_keeps : (spec : KernelSpec) → IsKernelSpec spec → IsKernel (booted spec)
booted_keeps spec h = record {
  spec = h;
  states = length-map spec.tasks (λ t. boot_state t.auto);
  events = length-replicate (length spec.tasks) 0;
  awaited = length-replicate (length spec.tasks) 0;
  ceilings = boot_ceilings_keeps spec h;
  priorities = refl;
  users = refl;
  resources = refl;
  alarms = all_off_keeps (length spec.alarms) h.few_alarms;
  alarm_number = length-replicate (length spec.alarms) _;
  box_number = length-replicate (length spec.boxes) [];
  boxes = λ box capacity messages _ there. rw (empty_boxes (length spec.boxes) box messages there)
      (record { few = omega arith; words = All-nil (λ (m : Message). length m ≡ 4) });
  running = inl refl;
  alone = λ t e. absurd (boot_states_run_none spec.tasks t e);
  ended = omega arith;
}
