-- The text of an image is read as the image, but for the digest.
use Rattle.std.proofs.Common.{◌≡◌, ◌≢◌, ℕ, zero, suc, ◌<◌, Bool, true, false, ◌||◌, ◌==◌, List, [], ◌∷◌, ◌++◌, length, map, zip, replicate, get_or, Some, Result, Ok, Err, if◌then◌else◌, refl, ap, sym, ◌∙◌, subst, All, AllPairs, append-nil, append_assoc, arith, tests}
use Rattle.std.specs.List.{list_any}
use Rattle.std.proofs.lemmas.List.{length-map}
use Rattle.std.proofs.lemmas.List.Folds.{list_any_none}
use Rattle.std.proofs.lemmas.List.Elements.{All-nil, All-cons, All-head, All-tail}
use Rattle.tm_kernel.specs.declared.spec.Action.{Action}
use Rattle.tm_kernel.specs.declared.spec.Action.TheVariants as action
use Rattle.tm_kernel.specs.declared.spec.TaskSpec.{TaskSpec}
use Rattle.tm_lines.specs.declared.fault.Reason.{Reason}
use Rattle.tm_lines.specs.declared.fault.Reason.TheVariants.{Range, Missing}
use Rattle.tm_lines.specs.declared.fault.Fault.{Fault}
use Rattle.tm_lines.specs.Steps.{◌>>=◌, on_line}
use Rattle.tm_rv.specs.declared.instr.Set.{Set}
use Rattle.tm_rv.specs.declared.instr.Set.TheVariants.{Base, Mul}
use Rattle.tm_lines.specs.Lines.{pieces, lines_on}
use Rattle.tm_image.specs.Load.{Load, has_no_text, is_outside}
use Rattle.tm_image.specs.Draft.{Draft, empty_draft, image_line, whole}
use Rattle.tm_image.specs.Image.{ImageView, IsLoad, IsImage, replaced, image_digest, draft_of, image_with, image_of}
use Rattle.tm_image_text.specs.Lines.{resource_line, alarm_line, box_line, action_line}
use Rattle.tm_image_text.specs.ImageText.{numbered, header_line, task_text, rings_text, image_text, IsReadBack}
use Rattle.tm_image_text.specs.Numbers.{IsOfWords, FitsText}
use Rattle.tm_image.proofs.Wholes.{replaced_is}
use Rattle.tm_image_text.proofs.Widths.{replaced_fits}
use Rattle.tm_image_text.proofs.Makes.{Makes, makes_both}
use Rattle.tm_image_text.proofs.Parts.{IsTask, tasks_made, resources_made, alarms_made, boxes_made, lines_made, rings_made}

-- ---- tasks beside what they are loaded from
firsts : (tasks : List TaskSpec) (loads : List Load) → length loads ≡ length tasks → map (λ p. p.0) (zip tasks loads) ≡ tasks
firsts [] [] e = refl
firsts [] (load ∷ loads) e = refl
firsts (task ∷ tasks) [] e = absurd (omega arith)
firsts (task ∷ tasks) (load ∷ loads) e = ap (λ ts. task ∷ ts) (firsts tasks loads (omega arith))

seconds : (tasks : List TaskSpec) (loads : List Load) → length loads ≡ length tasks → map (λ p. p.1) (zip tasks loads) ≡ loads
seconds [] [] e = refl
seconds [] (load ∷ loads) e = absurd (omega arith)
seconds (task ∷ tasks) [] e = absurd (omega arith)
seconds (task ∷ tasks) (load ∷ loads) e = ap (λ ls. load ∷ ls) (seconds tasks loads (omega arith))

each_task : (s : Set) (tasks : List TaskSpec) (loads : List Load) → length loads ≡ length tasks →
    All (λ t. 0 < t.priority) tasks → All (λ t. t.priority < 256) tasks → All IsLoad loads → All (λ load. load.set ≡ s) loads → All IsOfWords loads → All (IsTask s) (zip tasks loads)
each_task s [] loads e some small are sets words = All-nil (IsTask s)
each_task s (task ∷ tasks) [] e some small are sets words = absurd (omega arith)
each_task s (task ∷ tasks) (load ∷ loads) e some small are sets words =
    All-cons (IsTask s) (task, load) (zip tasks loads)
    (record {
      some = All-head (λ t. 0 < t.priority) task tasks some;
      small = All-head (λ t. t.priority < 256) task tasks small;
      load = All-head IsLoad load loads are;
      set = All-head (λ (l : Load). l.set ≡ s) load loads sets;
      words = All-head IsOfWords load loads words;
    })
    (each_task s tasks loads (omega arith) (All-tail (λ t. 0 < t.priority) task tasks some) (All-tail (λ t. t.priority < 256) task tasks small)
    (All-tail IsLoad load loads are) (All-tail (λ (l : Load). l.set ≡ s) load loads sets) (All-tail IsOfWords load loads words))

-- an item of the pairs is that of the tasks
first_at : (tasks : List TaskSpec) (pairs : List (TaskSpec × Load)) (k : ℕ) (d : TaskSpec × Load) → map (λ p. p.0) pairs ≡ tasks → get_or tasks k d.0 ≡ (get_or pairs k d).0
first_at tasks pairs k d e = ap (λ ts. get_or ts k d.0) (sym e) ∙ of_pairs pairs k d
  where
    of_pairs : (pairs : List (TaskSpec × Load)) (k : ℕ) (d : TaskSpec × Load) → get_or (map (λ p. p.0) pairs) k d.0 ≡ (get_or pairs k d).0
    of_pairs [] k d = refl
    of_pairs (p ∷ pairs) zero d = refl
    of_pairs (p ∷ pairs) (suc k) d = of_pairs pairs k d

apart_pairs : (tasks : List TaskSpec) (pairs : List (TaskSpec × Load)) → map (λ p. p.0) pairs ≡ tasks → length pairs ≡ length tasks →
    AllPairs (λ s t. s.priority ≢ t.priority) tasks → AllPairs (λ p q. p.0.priority ≢ q.0.priority) pairs
apart_pairs tasks pairs e long apart i j d h k =
    subst (λ (t : TaskSpec). (get_or pairs i d).0.priority ≢ t.priority) (first_at tasks pairs j d e)
    (subst (λ (s : TaskSpec). s.priority ≢ (get_or tasks j d.0).priority) (first_at tasks pairs i d e) (apart i j d.0 h (omega (arith, long))))

-- ---- the draft of an image
abbrev draft_for : ImageView → Draft
draft_for image = record {
  set = image.set;
  spec = image.spec;
  loads = image.loads;
  rings = record { control = Some image.caps.control; logs = Some image.caps.logs; outputs = Some image.caps.outputs; checks = Some image.caps.checks };
}

-- it is whole
has_texts : (loads : List Load) → All IsLoad loads → list_any has_no_text loads ≡ false
has_texts loads each = list_any_none has_no_text loads (λ k d h. has (get_or loads k d) (each k d h))
  where
    has : (load : Load) → IsLoad load → has_no_text load ≡ false
    has load is = grind (arith, tests, is.some_text)

are_inside : (loads : List Load) → All IsLoad loads → list_any is_outside loads ≡ false
are_inside loads each = list_any_none is_outside loads (λ k d h. inside (get_or loads k d) (each k d h))
  where
    inside : (load : Load) → IsLoad load → is_outside load ≡ false
    inside load is = grind (arith, tests, is.inside)

is_whole : (d : Draft) → 0 < length d.loads → All IsLoad d.loads → whole d ≡ Ok d
is_whole d some each = go (length d.loads == 0) (list_any has_no_text d.loads) (list_any is_outside d.loads) (grind (arith, tests)) (has_texts d.loads each) (are_inside d.loads each)
  where
    go : (none missing outside : Bool) → none ≡ false → missing ≡ false → outside ≡ false →
        (if none || missing then Err Missing else (if outside then Err Range else Ok d)) ≡ Ok d
    go false false false n m o = refl
    go false false true n m o = cc o
    go false true outside n m o = cc m
    go true missing outside n m o = cc n

-- ---- the whole text
abbrev body : ImageView → List ℕ
body image =
    numbered task_text 0 (zip image.spec.tasks image.loads) ++ numbered resource_line 0 image.spec.users ++
    numbered alarm_line 0 image.spec.alarms ++ numbered box_line 0 image.spec.boxes ++
    numbered action_line 0 image.spec.lines ++ rings_text image.caps

body_made : (image : ImageView) → IsImage image → FitsText image → Makes (body image) (empty_draft image.set) (draft_for image)
body_made image is fits =
    let spec = image.spec in
    let empty = empty_draft image.set in
    let none = empty.rings in
    let pairs = zip spec.tasks image.loads in
    let first : map (λ p. p.0) pairs ≡ spec.tasks = firsts spec.tasks image.loads is.loads in
    let second : map (λ p. p.1) pairs ≡ image.loads = seconds spec.tasks image.loads is.loads in
    let long : length pairs ≡ length spec.tasks = sym (length-map pairs (λ p. p.0)) ∙ ap length first in
    let drafted = λ (users : List ℕ) (alarms : List Action) (boxes : List ℕ) (lines : List Action). (let d : Draft = record {
      set = image.set;
      spec = record { tasks = spec.tasks; users = users; alarms = alarms; boxes = boxes; lines = lines };
      loads = image.loads;
      rings = none;
    } in d) in
    let free = replicate 16 action.Nothing in
    let tasks_there : Makes (numbered task_text 0 pairs) empty (drafted [] [] [] free) =
    subst (λ (ts : List TaskSpec). Makes (numbered task_text 0 pairs) empty (record { set = image.set; spec = record { tasks = ts; users = []; alarms = []; boxes = []; lines = free }; loads = image.loads; rings = none })) first
    (subst (λ (ls : List Load). Makes (numbered task_text 0 pairs) empty (record { set = image.set; spec = record { tasks = map (λ p. p.0) pairs; users = []; alarms = []; boxes = []; lines = free }; loads = ls; rings = none })) second
    (tasks_made empty pairs (omega (arith, long, is.spec.few_tasks))
    (each_task image.set spec.tasks image.loads is.loads is.spec.priorities is.spec.small is.each is.sets fits.loads)
    (apart_pairs spec.tasks pairs first long is.spec.distinct))) in
    makes_both _ (rings_text image.caps) empty (drafted spec.users spec.alarms spec.boxes spec.lines) (draft_for image)
    (makes_both _ (numbered action_line 0 spec.lines) empty (drafted spec.users spec.alarms spec.boxes free) (drafted spec.users spec.alarms spec.boxes spec.lines)
    (makes_both _ (numbered box_line 0 spec.boxes) empty (drafted spec.users spec.alarms [] free) (drafted spec.users spec.alarms spec.boxes free)
    (makes_both _ (numbered alarm_line 0 spec.alarms) empty (drafted spec.users [] [] free) (drafted spec.users spec.alarms [] free)
    (makes_both (numbered task_text 0 pairs) (numbered resource_line 0 spec.users) empty (drafted [] [] [] free) (drafted spec.users [] [] free)
    tasks_there
    (resources_made (drafted [] [] [] free) spec.users is.spec.few_tasks is.spec.few_resources is.spec.users))
    (alarms_made (drafted spec.users [] [] free) spec.alarms is.spec.few_tasks is.spec.few_alarms is.spec.alarms fits.alarms))
    (boxes_made (drafted spec.users spec.alarms [] free) spec.boxes is.spec.few_boxes is.spec.boxes))
    (lines_made (drafted spec.users spec.alarms spec.boxes free) spec.lines is.spec.few_tasks is.lines is.spec.lines fits.lines))
    (rings_made (drafted spec.users spec.alarms spec.boxes spec.lines) image.caps is.caps)

-- what a text makes by itself
made_alone : (text : List ℕ) (d e : Draft) (number : ℕ) → Makes text d e → (last : ℕ) × (lines_on image_line number d (pieces text) ≡ Ok (last, e))
made_alone text d e number makes =
    let goes = makes.goes number [] in
    (goes.0, ap (λ t. lines_on image_line number d (pieces t)) (sym (append-nil text)) ∙ goes.1)

-- the text is the header and the body
with_header : (image : ImageView) → image_text image ≡ header_line image.set ++ body image
unfolding image_text
with_header image =
    regroup (header_line image.set) (numbered task_text 0 (zip image.spec.tasks image.loads)) (numbered resource_line 0 image.spec.users)
    (numbered alarm_line 0 image.spec.alarms) (numbered box_line 0 image.spec.boxes) (numbered action_line 0 image.spec.lines) (rings_text image.caps)
  where
    regroup : (a b c d e f g : List ℕ) → a ++ b ++ c ++ d ++ e ++ f ++ g ≡ a ++ (b ++ c ++ d ++ e ++ f ++ g)
    regroup a b c d e f g = simp append_assoc

draft_back : (s : Set) (text : List ℕ) (d : Draft) → Makes text (empty_draft s) d → whole d ≡ Ok d → draft_of (header_line s ++ text) ≡ Ok d
unfolding draft_of
draft_back Base text d makes is =
    let there = made_alone text (empty_draft Base) d 2 makes in
    ap (λ (r : Result (ℕ × Draft) Fault). r >>= (λ last. on_line last.0 (whole last.1))) there.1
    ∙ ap (λ (r : Result Draft Reason). on_line there.0 r) is
draft_back Mul text d makes is =
    let there = made_alone text (empty_draft Mul) d 2 makes in
    ap (λ (r : Result (ℕ × Draft) Fault). r >>= (λ last. on_line last.0 (whole last.1))) there.1
    ∙ ap (λ (r : Result Draft Reason). on_line there.0 r) is

pub text_read : (image : ImageView) → IsImage image → FitsText image → IsReadBack image
unfolding image_of
text_read image is fits =
    let d = draft_for image in
    let some : 0 < length image.loads = omega (arith, is.loads, is.spec.some_task) in
    let back : draft_of (image_text image) ≡ Ok d =
    ap draft_of (with_header image) ∙ draft_back image.set (body image) d (body_made image is fits) (is_whole d some is.each) in
    ap (λ (r : Result Draft Fault). r >>= (λ d. Ok (image_with (image_digest (image_text image)) d))) back

pub replaced_read : (image : ImageView) (task : ℕ) (load : Load) → IsImage image → FitsText image → IsLoad load → load.set ≡ image.set → IsOfWords load → IsReadBack (replaced image task load)
replaced_read image task load is fits sound same words =
    text_read (replaced image task load) (replaced_is image task load is sound same) (replaced_fits image task load fits words)
