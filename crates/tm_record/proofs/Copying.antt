-- Recorders of one image have machines and windows of one size.
use Rattle.std.proofs.Common.{◌≡◌, ℕ, ◌<◌, [], length, ap, sym, ◌∙◌, arith, unwrap_or, Option}
use Rattle.std.proofs.lemmas.List.{length-map, get_or-map, same_lists}
use Rattle.std.proofs.lemmas.Option.{unwrap_or-slice_get}
use Rattle.tm_task.specs.Standing.{TaskView, task_view, boot_body}
use Rattle.tm_rv.specs.declared.instr.Set.{Set}
use Rattle.tm_image.specs.Image.{Load, ImageView, IsImage, shape_of}
use Rattle.tm_system.specs.History.{History}
use Rattle.tm_system.specs.Run.{run}
use Rattle.tm_system.specs.Parts.{word_counts}
use Rattle.tm_record.specs.StandsFor.{RecorderView, IsReal}
use Rattle.tm_system.specs.Bodies.{HaveBodies}
use Rattle.tm_system.proofs.Bodies.{boot_bodies, played_bodies}

abbrev count : TaskView → ℕ
count t = length t.standing.body.words

abbrev no_task : TaskView
no_task = task_view 0 (boot_body 0 []) 0 0

abbrev no_load : Set → Load
no_load set = record { entry = 0; text = []; set = set; words = [] }

-- each task of the machine has as many data words as the image says
pub counts_are : (r : RecorderView) → IsImage r.image → IsReal r → word_counts r.machine.tasks ≡ (shape_of r.image).words
counts_are r i real =
    let h : History = run r.image real.script in
    let at = real.stands.machine in
    let bodies : HaveBodies r.image h = played_bodies r.image real.script [] i (boot_bodies r.image i) in
    let long : length (word_counts r.machine.tasks) ≡ length (shape_of r.image).words =
    length-map r.machine.tasks count ∙ at.tasks ∙ sym (length-map r.image.loads (λ load. length load.words)) in
    let tasks : length (word_counts r.machine.tasks) ≡ length r.machine.tasks = length-map r.machine.tasks count in
    same_lists (word_counts r.machine.tasks) (shape_of r.image).words long (λ k d below.
    let there : k < length r.image.loads = omega (arith, tasks, at.tasks) in
    let here : k < length r.machine.tasks = omega (arith, tasks) in
    get_or-map count r.machine.tasks k no_task d here
    ∙ ap count (sym (unwrap_or-slice_get r.machine.tasks k no_task) ∙ ap (λ (o : Option TaskView). unwrap_or o no_task) (at.each k there))
    ∙ (bodies.each k there).words
    ∙ ap (λ (l : Load). length l.words) (unwrap_or-slice_get r.image.loads k (no_load r.image.set))
    ∙ sym (get_or-map (λ (l : Load). length l.words) r.image.loads k (no_load r.image.set) d there))

-- what the copying asks for
pub record FitsCopy (r s : RecorderView) : Type 0 where
  pub spec : r.machine.kernel.spec ≡ s.machine.kernel.spec
  pub words : word_counts r.machine.tasks ≡ word_counts s.machine.tasks
  pub shape : r.window.shape ≡ s.window.shape

pub fits_copy : (r s : RecorderView) → r.image ≡ s.image → IsImage r.image → IsImage s.image → IsReal r → IsReal s → FitsCopy r s
fits_copy r s same i j real other = record {
  spec = real.stands.machine.spec ∙ ap (λ (image : ImageView). image.spec) same ∙ sym other.stands.machine.spec;
  words = counts_are r i real ∙ ap (λ (image : ImageView). (shape_of image).words) same ∙ sym (counts_are s j other);
  shape = real.stands.window.shape ∙ ap shape_of same ∙ sym other.stands.window.shape;
}
