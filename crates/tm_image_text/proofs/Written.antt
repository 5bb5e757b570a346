-- A text to which the lines of numbered items are written, one after another.
use Rattle.std.proofs.Common.{◌≡◌, ℕ, zero, suc, ◌+◌, ◌<◌, ◌≤◌, List, [], ◌∷◌, ◌++◌, length, zip, take, drop, get_or, slice_get, Some, All, refl, ap, sym, ◌∙◌, subst, append-nil, append_assoc, arith}
use Rattle.std.proofs.lemmas.List.{drop_more, drop_all, get_or_default}
use Rattle.std.proofs.lemmas.List.Elements.{All-more}
use Rattle.std.proofs.lemmas.Option.{unwrap_or-slice_get}
use Rattle.tm_kernel.specs.declared.spec.TaskSpec.{TaskSpec}
use Rattle.tm_image.specs.Load.{Load}
use Rattle.tm_image.specs.Image.{ImageView, IsImage, load_of}
use Rattle.tm_image_text.specs.ImageText.{numbered, task_text}
use Rattle.tm_image_text.specs.Numbers.{IsOfWords}

-- one more item is written
pub numbered_more : {X : Type 0} (spelled : ℕ → X → List ℕ) (items : List X) (i : ℕ) (d : X) (text new whole : List ℕ) → i < length items →
    new ≡ text ++ spelled i (get_or items i d) → text ++ numbered spelled i (drop i items) ≡ whole →
    new ++ numbered spelled (i + 1) (drop (i + 1) items) ≡ whole
numbered_more spelled items i d text new whole within wrote all =
    let rest = numbered spelled (i + 1) (drop (i + 1) items) in
    ap (λ x. x ++ rest) wrote
    ∙ append_assoc text (spelled i (get_or items i d)) rest
    ∙ ap (λ items. text ++ numbered spelled i items) (sym (drop_more items i d within))
    ∙ all

-- all are written
pub numbered_end : {X : Type 0} (spelled : ℕ → X → List ℕ) (items : List X) (i : ℕ) (text whole : List ℕ) → length items ≤ i →
    text ++ numbered spelled i (drop i items) ≡ whole → text ≡ whole
numbered_end spelled items i text whole past all =
    sym (append-nil text) ∙ ap (λ items. text ++ numbered spelled i items) (sym (drop_all i items past)) ∙ all

-- the pair at a place
pub pair_at : {X Y : Type 0} (xs : List X) (ys : List Y) (i : ℕ) (x : X) (y : Y) → slice_get xs i ≡ Some x → i < length ys → get_or (zip xs ys) i (x, y) ≡ (x, get_or ys i y)
pair_at [] ys i x y there within = cc there
pair_at (x' ∷ xs) [] i x y there within = absurd (omega arith)
pair_at (x' ∷ xs) (y' ∷ ys) zero x y there within = let same : x' ≡ x = cc there in ap (λ z. (z, y')) same
pair_at (x' ∷ xs) (y' ∷ ys) (suc i) x y there within = pair_at xs ys i x y there (omega arith)

pub length-zip : {X Y : Type 0} (xs : List X) (ys : List Y) → length xs ≡ length ys → length (zip xs ys) ≡ length ys
length-zip [] [] same = refl
length-zip [] (y ∷ ys) same = absurd (omega arith)
length-zip (x ∷ xs) [] same = absurd (omega arith)
length-zip (x ∷ xs) (y ∷ ys) same = ap suc (length-zip xs ys (omega arith))

-- what a task is loaded from
load_at : (image : ImageView) (n : ℕ) (d : Load) → n < length image.loads → get_or image.loads n d ≡ load_of image n
load_at image n d within =
    let none : Load = record { entry = 0; text = []; set = image.set; words = [] } in
    get_or_default image.loads n d none within ∙ sym (unwrap_or-slice_get image.loads n none)

-- one more task is written
pub task_more : (image : ImageView) (n : ℕ) (task : TaskSpec) (text new whole : List ℕ) → IsImage image → n < length image.loads →
    slice_get image.spec.tasks n ≡ Some task → new ≡ text ++ task_text n (task, load_of image n) →
    text ++ numbered task_text n (drop n (zip image.spec.tasks image.loads)) ≡ whole →
    new ++ numbered task_text (n + 1) (drop (n + 1) (zip image.spec.tasks image.loads)) ≡ whole
task_more image n task text new whole is within there wrote all =
    let pairs = zip image.spec.tasks image.loads in
    let long : length pairs ≡ length image.loads = length-zip image.spec.tasks image.loads (sym is.loads) in
    let pair : get_or pairs n (task, load_of image n) ≡ (task, load_of image n) =
    pair_at image.spec.tasks image.loads n task (load_of image n) there within ∙ ap (λ (l : Load). (task, l)) (load_at image n (load_of image n) within) in
    numbered_more task_text pairs n (task, load_of image n) text new whole (omega arith) (wrote ∙ ap (λ p. text ++ task_text n p) (sym pair)) all

-- all tasks are written
pub tasks_end : (image : ImageView) (n : ℕ) (text whole : List ℕ) → IsImage image → length image.loads ≤ n →
    text ++ numbered task_text n (drop n (zip image.spec.tasks image.loads)) ≡ whole → text ≡ whole
tasks_end image n text whole is past all =
    let pairs = zip image.spec.tasks image.loads in
    let long : length pairs ≡ length image.loads = length-zip image.spec.tasks image.loads (sym is.loads) in
    numbered_end task_text pairs n text whole (omega arith) all

-- the words of one more task fit
pub words_more : (image : ImageView) (n : ℕ) → n < length image.loads → All IsOfWords (take n image.loads) → IsOfWords (load_of image n) →
    All IsOfWords (take (n + 1) image.loads)
words_more image n within so words =
    let none : Load = record { entry = 0; text = []; set = image.set; words = [] } in
    All-more IsOfWords image.loads n none within so (subst IsOfWords (sym (load_at image n none within)) words)
