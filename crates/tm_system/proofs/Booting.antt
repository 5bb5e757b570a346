-- The machine at boot, and what it takes of its image.
use Rattle.std.proofs.Common.{◌≡◌, ℕ, ◌<◌, [], length, refl, subst, ap, sym, ◌∙◌, Option, Some, slice_get, unwrap_or, option_map}
use Rattle.std.proofs.lemmas.Option.{slice_get-get_or, unwrap_or-slice_get, slice_get-map}
use Rattle.std.proofs.lemmas.List.{length-map}
use Rattle.std.proofs.lemmas.List.Elements.{All-get_or}
use Rattle.tm_marker.specs.declared.body.Body.{Body}
use Rattle.tm_task.specs.Standing.{booted_task, boot_body}
use Rattle.tm_kernel.specs.State.{KernelState, booted}
use Rattle.tm_image.specs.Image.{ImageView, Load, IsImage, IsLoad, load_of, entry_of, words_of}
use Rattle.tm_system.specs.Run.{body_at, no_body}
use Rattle.tm_system.specs.Marks.{backs, epochs}
use Rattle.tm_system.specs.Machine.{MachineView, IsAt, task_at}
use Rattle.tm_system.specs.Parts.{AreBooted}
use Rattle.tm_system.proofs.Marking.{same_standing}
use Rattle.tm_system.proofs.Moments.{same_task}

-- a task of the image has what it is loaded from
pub load_there : (image : ImageView) (t : ℕ) → t < length image.loads → slice_get image.loads t ≡ Some (load_of image t)
load_there image t within =
    let none : Load = record { entry = 0; text = []; set = image.set; words = [] } in
    slice_get-get_or image.loads t none within ∙ ap Some (sym (unwrap_or-slice_get image.loads t none))

-- and it can be loaded
pub load_sound : (image : ImageView) (t : ℕ) → IsImage image → t < length image.loads → IsLoad (load_of image t)
load_sound image t sound within =
    let none : Load = record { entry = 0; text = []; set = image.set; words = [] } in
    subst IsLoad (sym (unwrap_or-slice_get image.loads t none)) (All-get_or IsLoad image.loads t none within sound.each)

-- a task's body at boot
pub body_booted : (image : ImageView) (t : ℕ) → t < length image.loads → body_at image [] t ≡ boot_body (entry_of image t) (words_of image t)
body_booted image t within =
    ap (λ (o : Option Body). unwrap_or o no_body)
    (slice_get-map (λ (l : Load). boot_body l.entry l.words) image.loads t ∙
    ap (λ (o : Option Load). option_map (λ (l : Load). boot_body l.entry l.words) o) (load_there image t within))

pub task_booted : (image : ImageView) (t : ℕ) → t < length image.loads → booted_task (entry_of image t) (words_of image t) ≡ task_at image [] t
unfolding backs epochs
task_booted image t within =
    same_task (entry_of image t) _ _ (same_standing _ _ _ _ _ _ (sym (body_booted image t within)) refl refl)

pub booted_at : (image : ImageView) (machine : MachineView) → machine.kernel ≡ booted image.spec → AreBooted image machine.tasks → IsAt image machine []
booted_at image machine kernel tasks = record {
  spec = ap (λ (k : KernelState). k.spec) kernel;
  kernel = kernel;
  bodies = length-map image.loads (λ (l : Load). boot_body l.entry l.words);
  tasks = tasks.number;
  each = λ t within. tasks.each t within ∙ ap Some (task_booted image t within);
}
