-- How long a run is, and that no epoch is later than that.
use Rattle.std.proofs.Common.{ℕ, zero, suc, ◌+◌, ◌*◌, ◌<◌, ◌≤◌, ◌==◌, List, [], ◌∷◌, length, arith, All, inl, inr}
use Rattle.std.proofs.lemmas.Bool.{cases_Bool}
use Rattle.std.proofs.lemmas.List.Elements.{All-tail}
use Rattle.tm_marker.specs.declared.entries.Slice.{Slice}
use Rattle.tm_kernel.specs.State.{nobody}
use Rattle.tm_image.specs.Image.{ImageView}
use Rattle.tm_system.specs.History.{History}
use Rattle.tm_system.specs.Run.{now, running_at, arrives, turned, turns, sliced, played}
use Rattle.tm_system.specs.Marks.{is_start, backs, epochs}

-- an epoch starts at most once in a moment
pub epochs_few : (task : ℕ) (h : History) → epochs task h ≤ length h
unfolding epochs
epochs_few task [] = omega arith
epochs_few task (m ∷ h) =
    let few = epochs_few task h in
    elim (cases_Bool (is_start task m.deed (backs task h))) [
      | inl e ↦ rw e (omega arith)
      | inr e ↦ rw e (omega arith)
    ]

-- an instruction is one moment at most
pub turned_short : (image : ImageView) (h : History) → length (turned image h) ≤ length h + 1
turned_short image h =
    elim (cases_Bool (running_at image h == nobody)) [
      | inl e ↦ rw e (omega arith)
      | inr e ↦ rw e (omega arith)
    ]

pub turns_short : (image : ImageView) (n : ℕ) (h : History) → length (turns image n h) ≤ length h + n
unfolding turns
turns_short image zero h = omega arith
turns_short image (suc n) h = omega (arith, turned_short image (turns image n h), turns_short image n h)

-- an arrival is one moment at most
pub arrives_short : (image : ImageView) (mask : ℕ) (ports : List ℕ) (h : History) → length (arrives image mask ports h) ≤ length h + 1
arrives_short image mask ports h =
    elim (cases_Bool ((now image h).kernel.ended == 0)) [
      | inl e ↦ rw e (omega arith)
      | inr e ↦ rw e (omega arith)
    ]

pub sliced_short : (image : ImageView) (s : Slice) (h : History) → s.length ≤ 1048576 → length (sliced image h s) ≤ length h + 1048577
sliced_short image s h short =
    omega (arith, turns_short image s.length (arrives image s.mask s.ports h), arrives_short image s.mask s.ports h)

-- a script of n short slices makes at most 1,048,577 moments for each
pub played_short : (image : ImageView) (script : List Slice) (h : History) → All (λ s. s.length ≤ 1048576) script →
    length (played image h script) ≤ length h + 1048577 * length script
played_short image [] h short = omega arith
played_short image (s ∷ ss) h short =
    let first : s.length ≤ 1048576 = short 0 s (omega arith) in
    let rest = All-tail (λ (s : Slice). s.length ≤ 1048576) s ss short in
    omega (arith, played_short image ss (sliced image h s) rest, sliced_short image s h first)

-- a run never gets shorter
turned_long : (image : ImageView) (h : History) → length h ≤ length (turned image h)
turned_long image h =
    elim (cases_Bool (running_at image h == nobody)) [
      | inl e ↦ rw e (omega arith)
      | inr e ↦ rw e (omega arith)
    ]

turns_long : (image : ImageView) (n : ℕ) (h : History) → length h ≤ length (turns image n h)
unfolding turns
turns_long image zero h = omega arith
turns_long image (suc n) h = omega (arith, turned_long image (turns image n h), turns_long image n h)

arrives_long : (image : ImageView) (mask : ℕ) (ports : List ℕ) (h : History) → length h ≤ length (arrives image mask ports h)
arrives_long image mask ports h =
    elim (cases_Bool ((now image h).kernel.ended == 0)) [
      | inl e ↦ rw e (omega arith)
      | inr e ↦ rw e (omega arith)
    ]

pub played_long : (image : ImageView) (script : List Slice) (h : History) → length h ≤ length (played image h script)
played_long image [] h = omega arith
played_long image (s ∷ ss) h =
    omega (
      arith,
      played_long image ss (sliced image h s),
      turns_long image s.length (arrives image s.mask s.ports h),
      arrives_long image s.mask s.ports h,
    )

-- the first slice makes a moment: the run goes on at boot
pub first_moment : (image : ImageView) (script : List Slice) → 0 < length script → 0 < length (played image [] script)
first_moment image [] some = absurd (omega (arith, some))
first_moment image (s ∷ ss) some =
    omega (
      arith,
      played_long image ss (sliced image [] s),
      turns_long image s.length (arrives image s.mask s.ports []),
    )
