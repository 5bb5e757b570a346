-- What a recorder stands for, one slice on.
use Rattle.std.proofs.Common.{◌+◌, ◌-◌, ◌*◌, ◌^◌, ◌<◌, ◌≤◌, List, [], ◌∷◌, ◌++◌, length, All, zero, suc, refl, sym, subst, arith, length-append}
use Rattle.std.proofs.lemmas.List.Elements.{All-append, All-nil}
use Rattle.tm_marker.specs.declared.entries.Slice.{Slice}
use Rattle.tm_image.specs.Image.{ImageView, IsImage}
use Rattle.tm_image.specs.Plan.{IsSlice}
use Rattle.tm_log.specs.Window.{WindowView}
use Rattle.tm_system.specs.History.{History}
use Rattle.tm_system.specs.Run.{sliced, run}
use Rattle.tm_system.specs.Machine.{MachineView}
use Rattle.tm_system.proofs.Lengths.{played_short}
use Rattle.tm_record.specs.StandsFor.{RecorderView, StandsFor, IsReal}
use Rattle.tm_system.specs.Hearing.{AreYoung}
use Rattle.tm_record.specs.Recording.{IsNoted, IsRecorded}
use Rattle.tm_system.proofs.Bodies.{boot_bodies, played_bodies}
use Rattle.tm_system.proofs.Playing.{played_more}

-- what is recorded at boot stands for no slice
pub stands_at_boot : (image : ImageView) (machine : MachineView) (w : WindowView) → IsRecorded image machine w [] →
    StandsFor image (record { image = image; machine = machine; window = w; slices = 0 }) []
stands_at_boot image machine w r = record { opened = refl; machine = r.at; window = r.window; slices = refl }

pub real_at_boot : (image : ImageView) (machine : MachineView) (w : WindowView) → IsRecorded image machine w [] →
    IsReal (record { image = image; machine = machine; window = w; slices = 0 })
real_at_boot image machine w r = record {
  script = [];
  valid = All-nil IsSlice;
  stands = stands_at_boot image machine w r;
  few = omega arith;
}

-- a recorder that stands for a script has room for one more slice
pub real_young : (r : RecorderView) → IsImage r.image → IsReal r → r.slices < 2 ^ 32 - 1 → AreYoung IsNoted r.image r.machine r.window 1048577
real_young r i real few =
    let short : All (λ (s : Slice). s.length ≤ 1048576) real.script = λ k d below. (real.valid k d below).short in
    let so_far : length (run r.image real.script) ≤ 0 + 1048577 * length real.script = played_short r.image real.script [] short in
    record {
      history = run r.image real.script;
      standing = record {
        at = real.stands.machine;
        stood = record { shape = real.stands.window.shape; lists = real.stands.window.lists };
      };
      bodies = played_bodies r.image real.script [] i (boot_bodies r.image i);
      few = omega (arith, so_far, real.stands.slices, few);
    }

-- a recorded slice at the end of the script
pub stands_more : (image : ImageView) (old : RecorderView) (machine : MachineView) (w : WindowView) (script : List Slice) (s : Slice) →
    ((h : History) → IsRecorded old.image old.machine old.window h → IsRecorded old.image machine w (sliced old.image h s)) →
    StandsFor image old script →
    StandsFor image (record { image = old.image; machine = machine; window = w; slices = old.slices + 1 }) (script ++ s ∷ [])
stands_more image old machine w script s more stands =
    let before : IsRecorded old.image old.machine old.window (run old.image script) =
    subst (λ (i : ImageView). IsRecorded i old.machine old.window (run i script)) (sym stands.opened) (record { at = stands.machine; window = stands.window }) in
    let after : IsRecorded image machine w (run image (script ++ s ∷ [])) =
    subst (λ (i : ImageView). IsRecorded i machine w (run i (script ++ s ∷ []))) stands.opened
    (subst (λ (h : History). IsRecorded old.image machine w h) (sym (played_more old.image script s [])) (more (run old.image script) before)) in
    record {
      opened = stands.opened;
      machine = after.at;
      window = after.window;
      slices = omega (arith, stands.slices, length-append script (s ∷ []));
    }

one_slice : (s : Slice) → IsSlice s → All IsSlice (s ∷ [])
one_slice s valid zero d below = valid
one_slice s valid (suc k) d below = absurd (omega arith)

pub real_more : (old : RecorderView) (machine : MachineView) (w : WindowView) (s : Slice) → IsSlice s → old.slices < 2 ^ 32 - 1 →
    ((h : History) → IsRecorded old.image old.machine old.window h → IsRecorded old.image machine w (sliced old.image h s)) →
    IsReal old → IsReal (record { image = old.image; machine = machine; window = w; slices = old.slices + 1 })
real_more old machine w s valid few more real = record {
  script = real.script ++ s ∷ [];
  valid = All-append IsSlice real.script (s ∷ []) real.valid (one_slice s valid);
  stands = stands_more old.image old machine w real.script s more real.stands;
  few = omega (arith, few);
}
