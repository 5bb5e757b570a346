-- A machine goes through a slice, and one who listens hears what is told of its moments.
use Rattle.std.specs.Prelude.{◌≡◌, ◌≢◌, ℕ, zero, suc, ◌+◌, ◌^◌, ◌<◌, ◌==◌, if◌then◌else◌, List, ◌∷◌, length}
use Rattle.tm_marker.specs.declared.entries.Slice.{Slice}
use Rattle.tm_kernel.specs.State.{nobody}
use Rattle.tm_image.specs.Image.{ImageView}
use Rattle.tm_system.specs.declared.machine.Told.{Told}
use Rattle.tm_system.specs.History.{Moment, History}
use Rattle.tm_system.specs.Run.{now, running_at, arrival, next_moment}
use Rattle.tm_system.specs.Machine.{MachineView, IsAt, IsMachine, told_of}
use Rattle.tm_system.specs.Parts.{IsTaskOrNobody}
use Rattle.tm_system.specs.Moving.{whole_in, next_in, moved, told_in}
use Rattle.tm_system.specs.Bodies.{HaveBodies}

-- a machine, and what one who listens to it has
pub record Heard (L : Type 0) : Type 0 where
  pub machine : MachineView
  pub listener : L

abbrev pub heard : {L : Type 0} → MachineView → L → Heard L
heard machine listener = record { machine = machine; listener = listener }

-- what one who listens has after a moment, by the machine after it, the task that ran before it, and what
-- was told
abbrev pub Hears : Type 0 → Type 0
Hears L = MachineView → ℕ → Told → L → L

-- after a moment
abbrev pub after_moment : {L : Type 0} → Hears L → Moment → Heard L → Heard L
after_moment hears m x =
    heard (moved x.machine m) (hears (moved x.machine m) x.machine.kernel.running (told_in x.machine m) x.listener)

-- after an arrival, while the run goes on
unfoldable pub after_arrival : {L : Type 0} → Hears L → ℕ → List ℕ → Heard L → Heard L
after_arrival hears mask ports x =
    if x.machine.kernel.ended == 0 then after_moment hears (arrival (whole_in x.machine) mask ports) x else x

-- after an instruction, while a task runs
unfoldable pub after_turn : {L : Type 0} → Hears L → ImageView → Heard L → Heard L
after_turn hears image x =
    if x.machine.kernel.running == nobody then x else after_moment hears (next_in image x.machine) x

-- after up to n instructions, while a task runs
unfoldable pub after_turns : {L : Type 0} → Hears L → ImageView → ℕ → Heard L → Heard L
after_turns hears image zero x = x
after_turns hears image (suc n) x = after_turn hears image (after_turns hears image n x)

-- after a slice: its arrival, then up to as many instructions as it is long
unfoldable pub after_slice : {L : Type 0} → Hears L → ImageView → Slice → Heard L → Heard L
after_slice hears image s x = after_turns hears image s.length (after_arrival hears s.mask s.ports x)

-- the moment comes next in a history: an instruction of the running task, or an arrival
pub data IsNext (image : ImageView) (h : History) : Moment → Type 0 where
  Turns : running_at image h ≢ nobody → IsNext image h (next_moment image h)
  Comes : (mask : ℕ) → (ports : List ℕ) → IsNext image h (arrival (now image h) mask ports)

-- what is told of a moment that comes next, by the machine after it; the task ran before it
pub record IsNews (image : ImageView) (h : History) (m : Moment) (machine : MachineView) (task : ℕ) (told : Told) : Type 0 where
  pub next : IsNext image h m
  pub at : IsAt image machine (m ∷ h)
  pub sound : IsMachine machine
  pub turn : task ≡ running_at image h
  pub whose : IsTaskOrNobody (length image.loads) task
  pub tells : told ≡ told_of image m h

-- for whom one who listens stands
abbrev pub Stands : Type 0 → Type 1
Stands L = ImageView → History → L → Type 0

-- there is a history that one who listens stands for, and what is told is news of its next moment; each list
-- of the history has room for more
pub record CanHear {L : Type 0} (stands : Stands L) (machine : MachineView) (task : ℕ) (told : Told) (listener : L) : Type 0 where
  pub image : ImageView
  pub history : History
  pub moment : Moment
  pub news : IsNews image history moment machine task told
  pub stood : stands image history listener
  pub bodies : HaveBodies image (moment ∷ history)
  pub few : length history + 2 < 2 ^ 53

-- the machine stands where the history does, and one who listens stands for the history
pub record StandAt {L : Type 0} (stands : Stands L) (image : ImageView) (machine : MachineView) (listener : L) (h : History) : Type 0 where
  pub at : IsAt image machine h
  pub stood : stands image h listener

-- they stand where some history of the image does whose lists have room for n more moments
pub record AreYoung {L : Type 0} (stands : Stands L) (image : ImageView) (machine : MachineView) (listener : L) (n : ℕ) : Type 0 where
  pub history : History
  pub standing : StandAt stands image machine listener history
  pub bodies : HaveBodies image history
  pub few : length history + n + 2 < 2 ^ 53
