-- Each part of an image's text makes the part of the draft.
use Rattle.std.proofs.Common.{◌≡◌, ◌≢◌, ℕ, zero, suc, ◌+◌, ◌-◌, ◌*◌, ◌%◌, ◌^◌, ◌<◌, ◌≤◌, Bool, true, false, ◌||◌, ◌==◌, List, [], ◌∷◌, ◌++◌, length, map, zip, replicate, set, get_or, slice_get, codes, flat_map, Some, None, refl, ap, ap₂, sym, ◌∙◌, subst, All, AllPairs, append_assoc, append-nil, length-append, arith, tests}
use Rattle.std.specs.List.{list_any, enumerate_from}
use Rattle.std.proofs.lemmas.List.{length-map, length-replicate, length_push, set_at, get_or_at, map-append, get_or_append_left, get_or_default}
use Rattle.std.proofs.lemmas.Bool.{eqb-true}
use Rattle.std.proofs.lemmas.List.Elements.{All-get_or}
use Rattle.tm_kernel.specs.declared.spec.Action.{Action}
use Rattle.tm_kernel.specs.declared.spec.Action.TheVariants as action
use Rattle.tm_kernel.specs.declared.spec.TaskSpec.{TaskSpec}
use Rattle.tm_kernel.specs.declared.spec.KernelSpec.{KernelSpec}
use Rattle.tm_kernel.specs.Spec.{IsAlarmAction, IsLineAction, IsKernelSpec}
use Rattle.tm_marker.specs.declared.shape.Caps.{Caps}
use Rattle.tm_marker.specs.Shape.{IsCaps}
use Rattle.tm_rv.specs.declared.instr.Set.{Set}
use Rattle.tm_image.specs.Load.{Load, written}
use Rattle.tm_image.specs.Draft.{Draft, is_taken}
use Rattle.tm_image.specs.Image.{IsLoad}
use Rattle.tm_image_text.specs.Lines.{task_line, text_line, used, data_line, resource_line, alarm_line, box_line, action_line, ring_line}
use Rattle.tm_image_text.specs.ImageText.{numbered, task_text, rings_text}
use Rattle.tm_image_text.specs.Numbers.{IsWord, IsNarrow, IsOfWords}
use Rattle.tm_image_text.proofs.Used.{used_written}
use Rattle.tm_image_text.proofs.Spelled.{decimal_read}
use Rattle.tm_image_text.proofs.Makes.{Makes, makes_none, makes_both, task_made, text_made, data_made, resource_made, alarm_made, box_made, line_made, ring_made}

-- numbered items make a part of a draft, where each item makes its place of it
listed : {X : Type 0} (spelled : ℕ → X → List ℕ) (put : List X → Draft) (whole : List X) →
    ((before : List X) (x : X) (behind : List X) → before ++ x ∷ behind ≡ whole → Makes (spelled (length before) x) (put before) (put (before ++ x ∷ []))) →
    (xs before : List X) → before ++ xs ≡ whole → Makes (numbered spelled (length before) xs) (put before) (put whole)
listed {X = X} spelled put whole one [] before e = subst (λ (l : List X). Makes [] (put before) (put l)) (sym (append-nil before) ∙ e) (makes_none (put before))
listed {X = X} spelled put whole one (x ∷ xs) before e =
    let next : Makes (numbered spelled (length (before ++ x ∷ [])) xs) (put (before ++ x ∷ [])) (put whole) =
    listed spelled put whole one xs (before ++ x ∷ []) (append_assoc before (x ∷ []) xs ∙ e) in
    makes_both (spelled (length before) x) (numbered spelled (length before + 1) xs) (put before) (put (before ++ x ∷ [])) (put whole)
    (one before x xs e)
    (subst (λ (n : ℕ). Makes (numbered spelled n xs) (put (before ++ x ∷ [])) (put whole)) (length_push before x) next)

-- what an item of a list has
item_at : {X : Type 0} (before : List X) (x : X) (behind whole : List X) → before ++ x ∷ behind ≡ whole → get_or whole (length before) x ≡ x
item_at before x behind whole e = ap (λ l. get_or l (length before) x) (sym e) ∙ get_or_at before x behind x (length before) refl

within : {X : Type 0} (before : List X) (x : X) (behind whole : List X) → before ++ x ∷ behind ≡ whole → length before < length whole
within before x behind whole e = omega (arith, ap length e, length-append before (x ∷ behind))

of_item : {X : Type 0} (P : X → Type 0) (before : List X) (x : X) (behind whole : List X) → before ++ x ∷ behind ≡ whole → All P whole → P x
of_item P before x behind whole e each = subst P (item_at before x behind whole e) (each (length before) x (within before x behind whole e))

get_at : {X : Type 0} (before : List X) (x : X) (behind : List X) → slice_get (before ++ x ∷ behind) (length before) ≡ Some x
get_at [] x behind = refl
get_at (y ∷ before) x behind = get_at before x behind

-- ---- resources, alarms, boxes
pub resources_made : (d : Draft) (users : List ℕ) → length d.spec.tasks ≤ 16 → length users ≤ 16 →
    All (λ mask. (0 < mask) × (mask < 2 ^ length d.spec.tasks)) users →
    Makes (numbered resource_line 0 users) (record d { spec = record d.spec { users = [] } }) (record d { spec = record d.spec { users = users } })
resources_made d users tasks few masks =
    let put = λ (us : List ℕ). record d { spec = record d.spec { users = us } } in
    listed resource_line put users (λ before mask behind e.
    (let is = of_item (λ mask. (0 < mask) × (mask < 2 ^ length d.spec.tasks)) before mask behind users e masks in
    resource_made (put before) (length before) mask refl (omega (arith, within before mask behind users e)) tasks is.0 is.1)) users [] refl

pub alarms_made : (d : Draft) (alarms : List Action) → length d.spec.tasks ≤ 16 → length alarms ≤ 16 →
    All (IsAlarmAction (length d.spec.tasks)) alarms → All IsNarrow alarms →
    Makes (numbered alarm_line 0 alarms) (record d { spec = record d.spec { alarms = [] } }) (record d { spec = record d.spec { alarms = alarms } })
alarms_made d alarms tasks few are narrow =
    let put = λ (us : List Action). record d { spec = record d.spec { alarms = us } } in
    listed alarm_line put alarms (λ before a behind e.
    alarm_made (put before) (length before) a refl (omega (arith, within before a behind alarms e)) tasks
    (of_item (IsAlarmAction (length d.spec.tasks)) before a behind alarms e are)
    (of_item IsNarrow before a behind alarms e narrow)) alarms [] refl

pub boxes_made : (d : Draft) (boxes : List ℕ) → length boxes ≤ 16 → All (λ capacity. (0 < capacity) × (capacity ≤ 64)) boxes →
    Makes (numbered box_line 0 boxes) (record d { spec = record d.spec { boxes = [] } }) (record d { spec = record d.spec { boxes = boxes } })
boxes_made d boxes few are =
    let put = λ (us : List ℕ). record d { spec = record d.spec { boxes = us } } in
    listed box_line put boxes (λ before capacity behind e.
    (let is = of_item (λ capacity. (0 < capacity) × (capacity ≤ 64)) before capacity behind boxes e are in
    box_made (put before) (length before) capacity refl (omega (arith, within before capacity behind boxes e)) is.0 is.1)) boxes [] refl

-- ---- lines
-- the lines so far, and no action for those that are left
unfoldable padded : List Action → List Action
padded before = before ++ replicate (16 - length before) action.Nothing

padded_more : (before : List Action) → length before < 16 → padded before ≡ before ++ action.Nothing ∷ replicate (16 - (length before + 1)) action.Nothing
unfolding padded
padded_more before few =
    let left : 16 - length before ≡ suc (16 - (length before + 1)) = omega arith in
    ap (λ (n : ℕ). before ++ replicate n action.Nothing) left

padded_set : (before : List Action) (a : Action) → length before < 16 → set (padded before) (length before) a ≡ padded (before ++ a ∷ [])
unfolding padded
padded_set before a few =
    ap (λ lines. set lines (length before) a) (padded_more before few)
    ∙ set_at before action.Nothing (replicate (16 - (length before + 1)) action.Nothing) a (length before) refl
    ∙ sym (append_assoc before (a ∷ []) (replicate (16 - (length before + 1)) action.Nothing))
    ∙ ap (λ (n : ℕ). (before ++ a ∷ []) ++ replicate (16 - n) action.Nothing) (sym (length_push before a))

padded_free : (before : List Action) → length before < 16 → slice_get (padded before) (length before) ≡ Some action.Nothing
padded_free before few = rw (padded_more before few) (get_at before action.Nothing (replicate (16 - (length before + 1)) action.Nothing))

padded_same : (before : List Action) → length before < 16 → set (padded before) (length before) action.Nothing ≡ padded before
padded_same before few =
    ap (λ lines. set lines (length before) action.Nothing) (padded_more before few)
    ∙ set_at before action.Nothing (replicate (16 - (length before + 1)) action.Nothing) action.Nothing (length before) refl
    ∙ sym (padded_more before few)

padded_whole : (lines : List Action) → length lines ≡ 16 → padded lines ≡ lines
unfolding padded
padded_whole lines long =
    let none : 16 - length lines ≡ 0 = omega arith in
    ap (λ (n : ℕ). lines ++ replicate n action.Nothing) none ∙ append-nil lines

padded_none : padded [] ≡ replicate 16 action.Nothing
unfolding padded
padded_none = refl

pub lines_made : (d : Draft) (lines : List Action) → length d.spec.tasks ≤ 16 → length lines ≡ 16 →
    All (IsLineAction (length d.spec.tasks)) lines → All IsNarrow lines →
    Makes (numbered action_line 0 lines) (record d { spec = record d.spec { lines = replicate 16 action.Nothing } }) (record d { spec = record d.spec { lines = lines } })
lines_made d lines tasks long are narrow =
    let with_lines = λ (us : List Action). record d { spec = record d.spec { lines = us } } in
    let put = λ (us : List Action). with_lines (padded us) in
    let made : Makes (numbered action_line 0 lines) (put []) (put lines) =
    listed action_line put lines (λ before a behind e.
    (let few : length before < 16 = omega (arith, within before a behind lines e, long) in
    subst (λ (us : List Action). Makes (action_line (length before) a) (put before) (with_lines us)) (padded_set before a few)
    (line_made (put before) (length before) a few tasks (padded_free before few) (padded_same before few)
    (of_item (IsLineAction (length d.spec.tasks)) before a behind lines e are)
    (of_item IsNarrow before a behind lines e narrow)))) lines [] refl in
    subst (λ (us : List Action). Makes (numbered action_line 0 lines) (with_lines us) (with_lines lines)) padded_none
    (subst (λ (us : List Action). Makes (numbered action_line 0 lines) (put []) (with_lines us)) (padded_whole lines long) made)

-- ---- tasks
abbrev parts : Draft → List TaskSpec → List Load → Draft
parts d tasks loads = record d { spec = record d.spec { tasks = tasks }; loads = loads }

-- what a task of an image with this set keeps
pub record IsTask (s : Set) (task : TaskSpec × Load) : Type 0 where
  pub some : 0 < task.0.priority
  pub small : task.0.priority < 256
  pub load : IsLoad task.1
  pub set : task.1.set ≡ s
  pub words : IsOfWords task.1

one_task : (d : Draft) (tasks : List TaskSpec) (loads : List Load) (task : TaskSpec) (load : Load) (n : ℕ) →
    n ≡ length tasks → length loads ≡ n → n < 16 → IsTask d.set (task, load) → is_taken task.priority tasks ≡ false →
    Makes (task_text n (task, load)) (parts d tasks loads) (parts d (tasks ++ task ∷ []) (loads ++ load ∷ []))
one_task d tasks loads task load n next same few is fresh =
    let most = length load.words in
    let first : Load = record { entry = load.entry; text = []; set = load.set; words = replicate most 0 } in
    let second : Load = record { entry = load.entry; text = load.text; set = load.set; words = replicate most 0 } in
    let third : Load = record { entry = load.entry; text = load.text; set = load.set; words = written (replicate most 0) 0 (used load.words) } in
    let more = λ (l : Load). parts d (tasks ++ task ∷ []) (loads ++ l ∷ []) in
    let at = λ (a b : Load). set_at loads a [] b n same in
    let here = λ (l : Load). ap (λ (k : ℕ). slice_get (loads ++ l ∷ []) k) (sym same) ∙ get_at loads l [] in
    let zeros : List ℕ = replicate most 0 in
    let long : length zeros ≡ most = length-replicate most 0 in
    let line : Makes (task_line n task load.entry most) (parts d tasks loads) (more first) =
    subst (λ (s : Set). Makes (task_line n task load.entry most) (parts d tasks loads) (more (record { entry = load.entry; text = []; set = s; words = replicate most 0 }))) (sym is.set)
    (task_made (parts d tasks loads) n task load.entry most next few is.some is.small fresh
    (omega (arith, is.load.inside, is.load.short_text)) is.load.aligned is.load.some_words is.load.few_words) in
    let text : Makes (text_line n load.text) (more first) (more second) =
    subst (λ (ls : List Load). Makes (text_line n load.text) (more first) (parts d (tasks ++ task ∷ []) ls)) (at first second)
    (text_made (more first) n first load.text (here first) (omega arith) is.load.some_text (omega (arith, is.load.short_text)) is.words.text) in
    let data' : Makes (data_line n load.words) (more second) (more third) =
    subst (λ (ls : List Load). Makes (data_line n load.words) (more second) (parts d (tasks ++ task ∷ []) ls)) (at second third)
    (data_made (more second) n second load.words (here second) (omega arith) (omega (arith, long)) is.words.words (at second second)) in
    let back : Makes (data_line n load.words) (more second) (more load) =
    subst (λ (ws : List ℕ). Makes (data_line n load.words) (more second) (more (record { entry = load.entry; text = load.text; set = load.set; words = ws }))) (used_written load.words) data' in
    makes_both (task_line n task load.entry most ++ text_line n load.text) (data_line n load.words) (parts d tasks loads) (more second) (more load)
    (makes_both (task_line n task load.entry most) (text_line n load.text) (parts d tasks loads) (more first) (more second) line text)
    back

is_fresh : (before : List (TaskSpec × Load)) (priority : ℕ) → All (λ p. p.0.priority ≢ priority) before → is_taken priority (map (λ p. p.0) before) ≡ false
is_fresh [] priority others = refl
is_fresh (p ∷ before) priority others =
    neither (p.0.priority == priority) (is_taken priority (map (λ p. p.0) before)) (other (p.0.priority == priority) refl) (is_fresh before priority (λ k d h. others (suc k) d (omega arith)))
  where
    neither : (a b : Bool) → a ≡ false → b ≡ false → (a || b) ≡ false
    neither false b e f = f
    neither true b e f = cc e

    other : (same : Bool) → (p.0.priority == priority) ≡ same → same ≡ false
    other false e = refl
    other true e = absurd (others 0 p (omega arith) (eqb-true _ _ e))

apart_before : (before : List (TaskSpec × Load)) (x : TaskSpec × Load) (behind whole : List (TaskSpec × Load)) → before ++ x ∷ behind ≡ whole →
    AllPairs (λ p q. p.0.priority ≢ q.0.priority) whole → All (λ p. p.0.priority ≢ x.0.priority) before
apart_before before x behind whole e apart k d h =
    let there : get_or whole k x ≡ get_or before k d =
    ap (λ l. get_or l k x) (sym e) ∙ get_or_append_left before (x ∷ behind) x k h ∙ get_or_default before k x d h in
    subst (λ (p : TaskSpec × Load). p.0.priority ≢ x.0.priority) there
    (subst (λ (q : TaskSpec × Load). (get_or whole k x).0.priority ≢ q.0.priority) (item_at before x behind whole e)
    (apart k (length before) x h (within before x behind whole e)))

pub tasks_made : (d : Draft) (whole : List (TaskSpec × Load)) → length whole ≤ 16 → All (IsTask d.set) whole → AllPairs (λ p q. p.0.priority ≢ q.0.priority) whole →
    Makes (numbered task_text 0 whole) (parts d [] []) (parts d (map (λ p. p.0) whole) (map (λ p. p.1) whole))
tasks_made d whole few each apart =
    let put = λ (us : List (TaskSpec × Load)). parts d (map (λ p. p.0) us) (map (λ p. p.1) us) in
    listed task_text put whole (λ before x behind e.
    (let made : Makes (task_text (length before) x) (put before) (parts d (map (λ p. p.0) before ++ x.0 ∷ []) (map (λ p. p.1) before ++ x.1 ∷ [])) =
    one_task d (map (λ p. p.0) before) (map (λ p. p.1) before) x.0 x.1 (length before)
    (sym (length-map before (λ p. p.0))) (length-map before (λ p. p.1)) (omega (arith, within before x behind whole e))
    (of_item (IsTask d.set) before x behind whole e each)
    (is_fresh before x.0.priority (apart_before before x behind whole e apart)) in
    subst (λ (ts : List TaskSpec). Makes (task_text (length before) x) (put before) (parts d ts (map (λ p. p.1) (before ++ x ∷ []))))
    (sym (map-append (λ p. p.0) before (x ∷ [])))
    (subst (λ (ls : List Load). Makes (task_text (length before) x) (put before) (parts d (map (λ p. p.0) before ++ x.0 ∷ []) ls))
    (sym (map-append (λ p. p.1) before (x ∷ []))) made))) whole [] refl

-- ---- rings
pub rings_made : (d : Draft) (caps : Caps) → IsCaps caps →
    Makes (rings_text caps) (record d { rings = record { control = None; logs = None; outputs = None; checks = None } })
    (record d { rings = record { control = Some caps.control; logs = Some caps.logs; outputs = Some caps.outputs; checks = Some caps.checks } })
rings_made d caps is =
    let none : Draft = record d { rings = record { control = None; logs = None; outputs = None; checks = None } } in
    let one : Draft = record d { rings = record { control = Some caps.control; logs = None; outputs = None; checks = None } } in
    let two : Draft = record d { rings = record { control = Some caps.control; logs = Some caps.logs; outputs = None; checks = None } } in
    let three : Draft = record d { rings = record { control = Some caps.control; logs = Some caps.logs; outputs = Some caps.outputs; checks = None } } in
    let four : Draft = record d { rings = record { control = Some caps.control; logs = Some caps.logs; outputs = Some caps.outputs; checks = Some caps.checks } } in
    let a = ring_line (codes "control") caps.control in
    let b = ring_line (codes "data") caps.logs in
    let c = ring_line (codes "outputs") caps.outputs in
    let e = ring_line (codes "checks") caps.checks in
    makes_both (a ++ b ++ c) e none three four
    (makes_both (a ++ b) c none two three
    (makes_both a b none one two
    (ring_made none one (codes "control") caps.control 65536 refl is.control.some is.control.few (omega arith) (λ narrow. rw (decimal_read caps.control narrow) refl))
    (ring_made one two (codes "data") caps.logs 65536 refl is.logs.some is.logs.few (omega arith) (λ narrow. rw (decimal_read caps.logs narrow) refl)))
    (ring_made two three (codes "outputs") caps.outputs 65536 refl is.outputs.some is.outputs.few (omega arith) (λ narrow. rw (decimal_read caps.outputs narrow) refl)))
    (ring_made three four (codes "checks") caps.checks 64 refl is.checks.some is.checks.few (omega arith) (λ narrow. rw (decimal_read caps.checks narrow) refl))
