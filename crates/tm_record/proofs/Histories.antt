-- What holds of every history that a script leaves, moment by moment.
use Rattle.std.proofs.Common.{◌≡◌, ℕ, zero, suc, ◌<◌, ◌≤◌, false, ◌==◌, List, [], ◌∷◌, length, refl, sym, subst, arith, inl, inr, Option, Some, None}
use Rattle.std.specs.Prelude.{IfSome}
use Rattle.std.proofs.lemmas.Bool.{cases_Bool, cases_eq, ne_eqb, eqb-false}
use Rattle.tm_marker.specs.declared.body.Body.{Body}
use Rattle.tm_marker.specs.declared.entries.Slice.{Slice}
use Rattle.tm_marker.specs.declared.entries.DataEntry.{DataEntry}
use Rattle.tm_marker.specs.declared.entries.OutputEntry.{OutputEntry}
use Rattle.tm_task.specs.Exec.{Exec, Faults, Calls, Goes, exec}
use Rattle.tm_task.specs.Standing.{args_of}
use Rattle.tm_kernel.specs.State.{nobody}
use Rattle.tm_image.specs.Image.{ImageView, IsImage, entry_of, text_of}
use Rattle.tm_system.specs.History.{Deed, Arrives, Steps, Answers, Faulted, Whole, Moment, History}
use Rattle.tm_system.specs.Run.{now, running_at, body_at, arrival, arrives, moment_by, next_moment, turned, turns, sliced, played, run}
use Rattle.tm_system.specs.Follows.{Follows, IsRun, GoesOn}
use Rattle.tm_system.proofs.Following.{IsGoodRun, boot_good, arrives_good, turned_good, running_in}
use Rattle.tm_system.specs.Bodies.{HaveBodies}
use Rattle.tm_system.proofs.Bodies.{boot_bodies, arrives_bodies, turned_bodies}
use Rattle.tm_record.proofs.Replies.{replies}

-- a history of an image is a sound run, and every task has a body that it can have
pub record IsGood (image : ImageView) (h : History) : Type 0 where
  pub good : IsGoodRun image h
  pub bodies : HaveBodies image h

-- an answer has a status of at most 8, and an output of a task at one of the four ports, where it has one
pub record IsTold (tasks : ℕ) (entry : DataEntry) (output : Option OutputEntry) : Type 0 where
  pub answers : entry.status ≤ 8
  pub makes : IfSome output (λ o. (o.task < tasks) × (o.port < 4))

abbrev pub TellsSoundly : ℕ → Deed → Type 0
TellsSoundly tasks (Arrives mask ports) = Unit {0}
TellsSoundly tasks (Steps other back) = Unit {0}
TellsSoundly tasks (Answers other entry output) = IsTold tasks entry output
TellsSoundly tasks (Faulted other cause) = Unit {0}

-- a moment after a good history, that leaves a good one
pub record IsGoodNext (image : ImageView) (h : History) (m : Moment) : Type 0 where
  pub before : IsGood image h
  pub after : IsGood image (m ∷ h)
  pub follows : Follows image h m
  pub tells : TellsSoundly (length image.loads) m.deed

follows_last : (image : ImageView) (h : History) (m : Moment) → IsRun image (m ∷ h) → Follows image h m
follows_last image h m (GoesOn r f) = f

good_next : (image : ImageView) (h : History) (m : Moment) → IsGood image h → IsGood image (m ∷ h) →
    TellsSoundly (length image.loads) m.deed → IsGoodNext image h m
good_next image h m before after tells = record {
  before = before;
  after = after;
  follows = follows_last image h m after.good.run;
  tells = tells;
}

some_output : (task n : ℕ) (output : Option OutputEntry) → task < n → IfSome output (λ o. (o.task ≡ task) × (o.port < 4)) →
    IfSome output (λ o. (o.task < n) × (o.port < 4))
some_output task n None below o = tt
some_output task n (Some x) below o = (omega (arith, o.0, below), o.1)

-- the running task's instruction tells soundly, whatever it does
told_by : (entry : ℕ) (w : Whole) (task : ℕ) (b : Body) (n : ℕ) (e : Exec) → task < n → TellsSoundly n (moment_by entry w task b e).deed
told_by entry w task b n (Goes next back) below = tt
told_by entry w task b n (Calls service) below =
    let reply = replies w.kernel task service (args_of b) in
    record { answers = reply.status; makes = some_output task n _ below reply.output }
told_by entry w task b n (Faults cause) below = tt

-- what holds at boot and is kept by each moment
pub record IsInvariant (image : ImageView) (P : History → Type 0) : Type 0 where
  pub boots : P []
  pub goes_on : (h : History) (m : Moment) → IsGoodNext image h m → P h → P (m ∷ h)

-- a good history of which it holds
pub record Holding (image : ImageView) (P : History → Type 0) (h : History) : Type 0 where
  pub good : IsGood image h
  pub holds : P h

arrival_is : (image : ImageView) (mask : ℕ) (ports : List ℕ) (h : History) → (now image h).kernel.ended ≡ 0 →
    arrives image mask ports h ≡ arrival (now image h) mask ports ∷ h
arrival_is image mask ports h goes = rw goes refl

turn_is : (image : ImageView) (h : History) → (running_at image h == nobody) ≡ false → turned image h ≡ next_moment image h ∷ h
turn_is image h somebody = rw somebody refl

arrives_holding : (image : ImageView) (P : History → Type 0) (mask : ℕ) (ports : List ℕ) (h : History) → IsImage image → IsInvariant image P →
    Holding image P h → Holding image P (arrives image mask ports h)
arrives_holding image P mask ports h i k x =
    let m : Moment = arrival (now image h) mask ports in
    let after : IsGood image (arrives image mask ports h) =
    record { good = arrives_good image h mask ports i x.good.good; bodies = arrives_bodies image mask ports h x.good.bodies } in
    elim (cases_eq (now image h).kernel.ended 0) [
      | inl e ↦
          let is : arrives image mask ports h ≡ m ∷ h = arrival_is image mask ports h e in
          let there : IsGood image (m ∷ h) = subst (IsGood image) is after in
          subst (Holding image P) (sym is) (record { good = there; holds = k.goes_on h m (good_next image h m x.good there tt) x.holds })
      | inr ne ↦ rw (ne_eqb _ _ ne) x
    ]

turned_holding : (image : ImageView) (P : History → Type 0) (h : History) → IsImage image → IsInvariant image P →
    Holding image P h → Holding image P (turned image h)
turned_holding image P h i k x =
    let m : Moment = next_moment image h in
    let after : IsGood image (turned image h) =
    record { good = turned_good image h i x.good.good; bodies = turned_bodies image h i x.good.bodies } in
    elim (cases_Bool (running_at image h == nobody)) [
      | inl e ↦ rw e x
      | inr e ↦
          let is : turned image h ≡ m ∷ h = turn_is image h e in
          let there : IsGood image (m ∷ h) = subst (IsGood image) is after in
          let below = running_in image h i x.good.good.sound (eqb-false _ _ e) in
          let tells : TellsSoundly (length image.loads) m.deed =
          told_by (entry_of image (running_at image h)) (now image h) (running_at image h) (body_at image h (running_at image h)) (length image.loads)
          (exec (text_of image (running_at image h)) (body_at image h (running_at image h))) below in
          subst (Holding image P) (sym is) (record { good = there; holds = k.goes_on h m (good_next image h m x.good there tells) x.holds })
    ]

turns_holding : (image : ImageView) (P : History → Type 0) (n : ℕ) (h : History) → IsImage image → IsInvariant image P →
    Holding image P h → Holding image P (turns image n h)
unfolding turns
turns_holding image P zero h i k x = x
turns_holding image P (suc n) h i k x = turned_holding image P (turns image n h) i k (turns_holding image P n h i k x)

played_holding : (image : ImageView) (P : History → Type 0) (script : List Slice) (h : History) → IsImage image → IsInvariant image P →
    Holding image P h → Holding image P (played image h script)
played_holding image P [] h i k x = x
played_holding image P (s ∷ ss) h i k x =
    played_holding image P ss (sliced image h s) i k
    (turns_holding image P s.length (arrives image s.mask s.ports h) i k (arrives_holding image P s.mask s.ports h i k x))

-- what holds at boot and is kept by each moment holds of the run of every script
pub run_holding : (image : ImageView) (P : History → Type 0) (script : List Slice) → IsImage image → IsInvariant image P →
    Holding image P (run image script)
run_holding image P script i k =
    played_holding image P script [] i k (record { good = record { good = boot_good image i; bodies = boot_bodies image i }; holds = k.boots })
