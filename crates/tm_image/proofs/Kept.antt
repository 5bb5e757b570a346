-- What every line of an image keeps, and with it every image.
use Rattle.std.proofs.Common.{◌≡◌, ◌≢◌, ℕ, zero, suc, ◌+◌, ◌^◌, ◌%◌, ◌<◌, ◌≤◌, Bool, false, ◌||◌, List, [], ◌∷◌, ◌++◌, length, Option, Some, None, unwrap_or, Ok, refl, subst, arith, All, AllPairs, slice_get, get_or, set, eqb, ltb, length-append}
use Rattle.std.specs.List.{list_any}
use Rattle.std.specs.Prelude.{is_some}
use Rattle.std.proofs.lemmas.Bool.{ltb-false, leb-false, eqb-false}
use Rattle.std.proofs.lemmas.Bool.Decides.{nat_tests}
use Rattle.std.proofs.lemmas.Grind.{common_steps}
use Rattle.std.proofs.lemmas.List.{length-set, length-replicate}
use Rattle.std.proofs.lemmas.List.Elements.{All-set, All-push, All-weaker, All-nil, All-replicate}
use Rattle.std.proofs.lemmas.List.Quantifiers.{all_pairs_push}
use Rattle.std.proofs.lemmas.Option.{slice_get_within, get_or_from_slice_get}
use Rattle.std.proofs.Math.Nat.{pow-le-pow_right}
use Rattle.tm_kernel.specs.declared.spec.Action.{Action}
use Rattle.tm_kernel.specs.declared.spec.Action.TheVariants as action
use Rattle.tm_kernel.specs.declared.spec.TaskSpec.{TaskSpec}
use Rattle.tm_kernel.specs.Spec.{IsLineAction, IsAlarmAction}
use Rattle.tm_marker.specs.Shape.{IsCaps}
use Rattle.tm_image.specs.declared.said.Keyword.{Keyword}
use Rattle.tm_image.specs.declared.said.Keyword.TheVariants.{Task, Text, Data, Resource, Alarm, Box, Line, Ring}
use Rattle.tm_image.specs.declared.said.TaskLine.{TaskLine}
use Rattle.tm_image.specs.declared.said.TextLine.{TextLine}
use Rattle.tm_image.specs.declared.said.DataLine.{DataLine}
use Rattle.tm_image.specs.declared.said.ResourceLine.{ResourceLine}
use Rattle.tm_image.specs.declared.said.TaskAction.{TaskAction}
use Rattle.tm_image.specs.declared.said.TaskAction.TheVariants.{Activate, Event}
use Rattle.tm_image.specs.declared.said.AlarmLine.{AlarmLine}
use Rattle.tm_image.specs.declared.said.BoxLine.{BoxLine}
use Rattle.tm_image.specs.declared.said.LineAction.{LineAction}
use Rattle.tm_image.specs.declared.said.LineAction.TheVariants.{Tick, OfTask}
use Rattle.tm_image.specs.declared.said.LineLine.{LineLine}
use Rattle.tm_image.specs.declared.said.RingLine.{RingLine}
use Rattle.tm_image.specs.declared.rings.RingName.{RingName}
use Rattle.tm_image.specs.declared.rings.RingName.TheVariants as ring
use Rattle.tm_image.specs.declared.rings.Rings.{Rings}
use Rattle.tm_rv.specs.declared.instr.Set.{Set}
use Rattle.tm_lines.specs.Steps.{◌>>=◌}
use Rattle.tm_lines.specs.Numbers.{number_in, all_in}
use Rattle.tm_image.specs.Said.{keyword_in, task_in, text_in, data_in, resource_in, alarm_in, box_in, line_in, ring_in}
use Rattle.tm_image.specs.Load.{Load, more_text, with_text, written, new_data, with_data}
use Rattle.tm_image.specs.Draft.{Draft, empty_draft, is_taken, is_off_range, with_task, new_task, new_text, new_data_words, is_no_task, has_twice, mask_of, new_resource, task_of, action_of, new_alarm, new_box, names_no_task, line_action_of, is_given, new_line, most_of, ring_of, with_ring, new_ring, caps_of, words_on, image_line}
use Rattle.tm_lines.proofs.Steps.{bound, passed, both_not}
use Rattle.tm_image.proofs.Masks.{mask_some, mask_few}

-- a load whose text may still come
pub record IsLoadSoFar (load : Load) : Type 0 where
  pub short_text : length load.text ≤ 16384
  pub some_words : 0 < length load.words
  pub few_words : length load.words ≤ 16384
  pub aligned : load.entry % 4 ≡ 0

-- at most 16 tasks, of distinct priorities from 1 to 255
pub record IsTasks (tasks : List TaskSpec) : Type 0 where
  pub few : length tasks ≤ 16
  pub priorities : All (λ t. 0 < t.priority) tasks
  pub small : All (λ t. t.priority < 256) tasks
  pub distinct : AllPairs (λ s t. s.priority ≢ t.priority) tasks

-- at most 16 resources, each with a user among the tasks
pub record IsUsers (tasks : ℕ) (users : List ℕ) : Type 0 where
  pub few : length users ≤ 16
  pub masks : All (λ mask. (0 < mask) × (mask < 2 ^ tasks)) users

-- at most 16 alarms, each of which does something to one of the tasks
pub record IsAlarms (tasks : ℕ) (alarms : List Action) : Type 0 where
  pub few : length alarms ≤ 16
  pub actions : All (IsAlarmAction tasks) alarms

-- at most 16 boxes, each of 1 to 64 messages
pub record IsBoxes (boxes : List ℕ) : Type 0 where
  pub few : length boxes ≤ 16
  pub capacities : All (λ capacity. (0 < capacity) × (capacity ≤ 64)) boxes

-- 16 lines, whose actions name tasks that there are
pub record IsLines (tasks : ℕ) (lines : List Action) : Type 0 where
  pub all : length lines ≡ 16
  pub actions : All (IsLineAction tasks) lines

-- as many loads as tasks
pub record IsLoads (tasks : ℕ) (loads : List Load) : Type 0 where
  pub all : length loads ≡ tasks
  pub each : All IsLoadSoFar loads

-- what the lines so far have made
pub record IsSoFar (d : Draft) : Type 0 where
  pub tasks : IsTasks d.spec.tasks
  pub users : IsUsers (length d.spec.tasks) d.spec.users
  pub alarms : IsAlarms (length d.spec.tasks) d.spec.alarms
  pub boxes : IsBoxes d.spec.boxes
  pub lines : IsLines (length d.spec.tasks) d.spec.lines
  pub loads : IsLoads (length d.spec.tasks) d.loads
  pub caps : IsCaps (caps_of d.rings)

-- no element passes, where `list_any` says so
pub any_false : {X : Type 0} (p : X → Bool) (xs : List X)
    → list_any p xs ≡ false
    → (k : ℕ) (d : X)
    → k < length xs
    → p (get_or xs k d) ≡ false
any_false p [] e k d h = absurd (omega arith)
any_false p (x ∷ xs) e zero d h = (both_not (p x) (list_any p xs) e).0
any_false p (x ∷ xs) e (suc k) d h = any_false p xs (both_not (p x) (list_any p xs) e).1 k d (omega arith)

-- an action of some tasks is one of more
line_action_more : (n m : ℕ) → n ≤ m → (a : Action) → IsLineAction n a → IsLineAction m a
line_action_more n m h action.Nothing a = tt
line_action_more n m h action.Tick a = tt
line_action_more n m h (action.Activate t) a = omega arith
line_action_more n m h (action.Event t mask) a = omega arith

alarm_action_more : (n m : ℕ) → n ≤ m → (a : Action) → IsAlarmAction n a → IsAlarmAction m a
alarm_action_more n m h action.Nothing a = a
alarm_action_more n m h action.Tick a = a
alarm_action_more n m h (action.Activate t) a = omega arith
alarm_action_more n m h (action.Event t mask) a = omega arith

-- the mask of some tasks is one of more
mask_more : (n m : ℕ) → n ≤ m → (mask : ℕ) → (0 < mask) × (mask < 2 ^ n) → (0 < mask) × (mask < 2 ^ m)
mask_more n m h mask both =
    let two : 0 < 2 = omega arith in
    let most : 2 ^ n ≤ 2 ^ m = pow-le-pow_right two h in
    (both.0, omega (arith, most, both.1))

-- what the tests of a line `task` say
record FitsTask (d : Draft) (t : TaskLine) : Type 0 where
  priority : 0 < t.priority
  small : t.priority < 256
  aligned : t.entry % 4 ≡ 0
  some_words : 0 < t.words
  few_words : t.words ≤ 16384
  room : length d.spec.tasks < 16
  fresh : is_taken t.priority d.spec.tasks ≡ false

fits_task : (d : Draft) (t : TaskLine)
    → (ltb (length d.spec.tasks) t.number || is_off_range t) ≡ false
    → (ltb t.number (length d.spec.tasks) || is_taken t.priority d.spec.tasks) ≡ false
    → eqb t.number 16 ≡ false
    → length d.spec.tasks ≤ 16
    → FitsTask d t
fits_task d t range fresh limit few =
    let numbered : ltb (length d.spec.tasks) t.number ≡ false = (both_not _ _ range).0 in
    let ranges : is_off_range t ≡ false = (both_not (ltb (length d.spec.tasks) t.number) (is_off_range t) range).1 in
    let next : ltb t.number (length d.spec.tasks) ≡ false = (both_not _ _ fresh).0 in
    record {
      priority = grind (arith, nat_tests, ranges);
      small = grind (arith, nat_tests, ranges);
      aligned = grind (arith, nat_tests, ranges);
      some_words = grind (arith, nat_tests, ranges);
      few_words = grind (arith, nat_tests, ranges);
      room = omega (arith, ltb-false _ _ numbered, ltb-false _ _ next, eqb-false _ _ limit);
      fresh = (both_not _ _ fresh).1;
    }

task_keeps : (d : Draft) (t : TaskLine) → FitsTask d t → IsSoFar d → IsSoFar (with_task d t)
task_keeps d t fits so =
    let more : length d.spec.tasks ≤ length (with_task d t).spec.tasks = omega (arith, length-append {A = TaskSpec}) in
    record {
      tasks = record {
        few = omega (arith, fits.room, length-append {A = TaskSpec});
        priorities = All-push (λ s. 0 < s.priority) _ _ so.tasks.priorities fits.priority;
        small = All-push (λ s. s.priority < 256) _ _ so.tasks.small fits.small;
        distinct =
            all_pairs_push (λ r s. r.priority ≢ s.priority) _ _ so.tasks.distinct
            (λ k e h. eqb-false _ _ (any_false (λ s. eqb s.priority t.priority) d.spec.tasks fits.fresh k e h));
      };
      users = record { few = so.users.few; masks = All-weaker _ _ (mask_more _ _ more) d.spec.users so.users.masks };
      alarms = record {
        few = so.alarms.few;
        actions = All-weaker (IsAlarmAction _) (IsAlarmAction _) (alarm_action_more _ _ more) d.spec.alarms so.alarms.actions;
      };
      boxes = so.boxes;
      lines = record {
        all = so.lines.all;
        actions = All-weaker (IsLineAction _) (IsLineAction _) (line_action_more _ _ more) d.spec.lines so.lines.actions;
      };
      loads = record {
        all = omega (arith, so.loads.all, length-append {A = TaskSpec}, length-append {A = Load});
        each =
            All-push IsLoadSoFar _ _ so.loads.each (record {
              short_text = omega arith;
              some_words = rw length-replicate fits.some_words;
              few_words = rw length-replicate fits.few_words;
              aligned = fits.aligned;
            });
      };
      caps = so.caps;
    }

new_task_keeps : (d : Draft) (t : TaskLine) (next : Draft) → new_task d t ≡ Ok next → IsSoFar d → IsSoFar next
new_task_keeps d t next e so =
    let p = passed (ltb (length d.spec.tasks) t.number || is_off_range t) (ltb t.number (length d.spec.tasks) || is_taken t.priority d.spec.tasks) (eqb t.number 16) (with_task d t) next e in
    subst IsSoFar p.is (task_keeps d t (fits_task d t p.in_range p.fresh p.room so.tasks.few) so)

-- a load at a place is one of the list's
load_at : (loads : List Load) (n : ℕ) → All IsLoadSoFar loads → (old : Load) → slice_get loads n ≡ Some old → IsLoadSoFar old
load_at loads n each old e =
    subst IsLoadSoFar (get_or_from_slice_get loads n old old e) (each n old (slice_get_within loads n old e))

-- one load in the place of another
loads_keep : (d : Draft) (n : ℕ) (load : Load) (loads : List Load)
    → set d.loads n load ≡ loads
    → IsLoadSoFar load
    → IsSoFar d
    → IsSoFar (record d { loads = loads })
loads_keep d n load loads e kept so =
    subst (λ (ls : List Load). IsSoFar (record d { loads = ls })) e (record {
      tasks = so.tasks;
      users = so.users;
      alarms = so.alarms;
      boxes = so.boxes;
      lines = so.lines;
      loads = record { all = rw length-set so.loads.all; each = All-set IsLoadSoFar _ _ _ kept so.loads.each };
      caps = so.caps;
    })

more_text_keeps : (o : Option Load) (words : List ℕ) (load : Load)
    → more_text words o ≡ Ok load
    → ((old : Load) → o ≡ Some old → IsLoadSoFar old)
    → IsLoadSoFar load
more_text_keeps None words load e old = cc e
more_text_keeps (Some l) words load e old =
    let p = passed false false (ltb 16384 (length l.text + length words)) (record l { text = l.text ++ words }) load e in
    let kept = old l refl in
    subst IsLoadSoFar p.is (record {
      short_text = omega (arith, length-append {A = ℕ}, ltb-false _ _ p.room);
      some_words = kept.some_words;
      few_words = kept.few_words;
      aligned = kept.aligned;
    })

new_text_keeps : (d : Draft) (t : TextLine) (next : Draft) → new_text d t ≡ Ok next → IsSoFar d → IsSoFar next
new_text_keeps d t next e so =
    let outer = bound (with_text d.loads t) (λ loads. Ok (record d { loads = loads })) next e in
    let inner = bound (more_text t.words (slice_get d.loads t.number)) (λ load. Ok (set d.loads t.number load)) outer.0 outer.1.0 in
    let kept : IsLoadSoFar inner.0 = more_text_keeps _ t.words inner.0 inner.1.0 (load_at d.loads t.number so.loads.each) in
    let there : set d.loads t.number inner.0 ≡ outer.0 = cc inner.1.1 in
    let same : record d { loads = outer.0 } ≡ next = cc outer.1.1 in
    subst IsSoFar same (loads_keep d t.number inner.0 outer.0 there kept so)

length_written : (words : List ℕ) (offset : ℕ) (others : List ℕ)
    → offset + length others ≤ length words
    → length (written words offset others) ≡ length words
length_written words offset others h = grind (arith, common_steps)

new_data_keeps : (offset : ℕ) (o : Option Load) (words : List ℕ) (load : Load)
    → new_data offset words o ≡ Ok load
    → ((old : Load) → o ≡ Some old → IsLoadSoFar old)
    → IsLoadSoFar load
new_data_keeps offset None words load e old = cc e
new_data_keeps offset (Some l) words load e old =
    let p = passed (ltb (length l.words) (offset + length words)) false false (record l { words = written l.words offset words }) load e in
    let kept = old l refl in
    let long = length_written l.words offset words (ltb-false _ _ p.in_range) in
    subst IsLoadSoFar p.is (record {
      short_text = kept.short_text;
      some_words = omega (arith, long, kept.some_words);
      few_words = omega (arith, long, kept.few_words);
      aligned = kept.aligned;
    })

new_data_words_keeps : (d : Draft) (t : DataLine) (next : Draft) → new_data_words d t ≡ Ok next → IsSoFar d → IsSoFar next
new_data_words_keeps d t next e so =
    let outer = bound (with_data d.loads t) (λ loads. Ok (record d { loads = loads })) next e in
    let inner = bound (new_data t.offset t.words (slice_get d.loads t.number)) (λ load. Ok (set d.loads t.number load)) outer.0 outer.1.0 in
    let kept : IsLoadSoFar inner.0 = new_data_keeps t.offset _ t.words inner.0 inner.1.0 (load_at d.loads t.number so.loads.each) in
    let there : set d.loads t.number inner.0 ≡ outer.0 = cc inner.1.1 in
    let same : record d { loads = outer.0 } ≡ next = cc outer.1.1 in
    subst IsSoFar same (loads_keep d t.number inner.0 outer.0 there kept so)

-- one more of a list that has room, where its number is the next and not 16
room_for : (count number : ℕ) → ltb count number ≡ false → ltb number count ≡ false → eqb number 16 ≡ false → count ≤ 16 → count + 1 ≤ 16
room_for count number range fresh limit few = omega (arith, ltb-false _ _ range, ltb-false _ _ fresh, eqb-false _ _ limit)

new_resource_keeps : (d : Draft) (r : ResourceLine) (next : Draft)
    → new_resource d r ≡ Ok next
    → 0 < length r.users
    → IsSoFar d
    → IsSoFar next
new_resource_keeps d r next e some so =
    let p = passed (ltb (length d.spec.users) r.number || list_any (is_no_task d.spec.tasks) r.users) (ltb r.number (length d.spec.users) || has_twice r.users) (eqb r.number 16) (record d { spec = record d.spec { users = d.spec.users ++ mask_of r.users ∷ [] } }) next e in
    let range = both_not _ _ p.in_range in
    let fresh = both_not _ _ p.fresh in
    let there : All (λ user. user < length d.spec.tasks) r.users = λ k x h. leb-false _ _ (any_false (is_no_task d.spec.tasks) r.users range.1 k x h) in
    let room = room_for _ _ range.0 fresh.0 p.room so.users.few in
    subst IsSoFar p.is (record {
      tasks = so.tasks;
      users = record {
        few = omega (arith, room, length-append {A = ℕ});
        masks = All-push (λ mask. (0 < mask) × (mask < 2 ^ length d.spec.tasks)) _ _ so.users.masks (mask_some r.users some, mask_few _ r.users there);
      };
      alarms = so.alarms;
      boxes = so.boxes;
      lines = so.lines;
      loads = so.loads;
      caps = so.caps;
    })

alarm_action_is : (tasks : List TaskSpec) (a : TaskAction) → is_no_task tasks (task_of a) ≡ false → IsAlarmAction (length tasks) (action_of a)
alarm_action_is tasks (Activate t) e = leb-false _ _ e
alarm_action_is tasks (Event t mask) e = leb-false _ _ e

new_alarm_keeps : (d : Draft) (a : AlarmLine) (next : Draft) → new_alarm d a ≡ Ok next → IsSoFar d → IsSoFar next
new_alarm_keeps d a next e so =
    let p = passed (ltb (length d.spec.alarms) a.number || is_no_task d.spec.tasks (task_of a.action)) (ltb a.number (length d.spec.alarms)) (eqb a.number 16) (record d { spec = record d.spec { alarms = d.spec.alarms ++ action_of a.action ∷ [] } }) next e in
    let range = both_not _ _ p.in_range in
    let room = room_for _ _ range.0 p.fresh p.room so.alarms.few in
    subst IsSoFar p.is (record {
      tasks = so.tasks;
      users = so.users;
      alarms = record {
        few = omega (arith, room, length-append {A = Action});
        actions = All-push (IsAlarmAction (length d.spec.tasks)) _ _ so.alarms.actions (alarm_action_is d.spec.tasks a.action range.1);
      };
      boxes = so.boxes;
      lines = so.lines;
      loads = so.loads;
      caps = so.caps;
    })

new_box_keeps : (d : Draft) (b : BoxLine) (next : Draft) → new_box d b ≡ Ok next → IsSoFar d → IsSoFar next
new_box_keeps d b next e so =
    let p = passed (ltb (length d.spec.boxes) b.number || eqb b.capacity 0 || ltb 64 b.capacity) (ltb b.number (length d.spec.boxes)) (eqb b.number 16) (record d { spec = record d.spec { boxes = d.spec.boxes ++ b.capacity ∷ [] } }) next e in
    let most = both_not _ _ p.in_range in
    let range = both_not _ _ most.0 in
    let room = room_for _ _ range.0 p.fresh p.room so.boxes.few in
    let some : 0 < b.capacity = omega (arith, eqb-false _ _ range.1) in
    subst IsSoFar p.is (record {
      tasks = so.tasks;
      users = so.users;
      alarms = so.alarms;
      boxes = record {
        few = omega (arith, room, length-append {A = ℕ});
        capacities = All-push (λ capacity. (0 < capacity) × (capacity ≤ 64)) _ _ so.boxes.capacities (some, ltb-false _ _ most.1);
      };
      lines = so.lines;
      loads = so.loads;
      caps = so.caps;
    })

line_action_is : (tasks : List TaskSpec) (a : LineAction) → names_no_task tasks a ≡ false → IsLineAction (length tasks) (line_action_of a)
line_action_is tasks Tick e = tt
line_action_is tasks (OfTask (Activate t)) e = leb-false _ _ e
line_action_is tasks (OfTask (Event t mask)) e = leb-false _ _ e

new_line_keeps : (d : Draft) (l : LineLine) (next : Draft) → new_line d l ≡ Ok next → IsSoFar d → IsSoFar next
new_line_keeps d l next e so =
    let p = passed (ltb 15 l.number || names_no_task d.spec.tasks l.action) (is_given (unwrap_or (slice_get d.spec.lines l.number) action.Nothing)) false (record d { spec = record d.spec { lines = set d.spec.lines l.number (line_action_of l.action) } }) next e in
    let range = both_not _ _ p.in_range in
    subst IsSoFar p.is (record {
      tasks = so.tasks;
      users = so.users;
      alarms = so.alarms;
      boxes = so.boxes;
      lines = record {
        all = rw length-set so.lines.all;
        actions = All-set (IsLineAction (length d.spec.tasks)) _ _ _ (line_action_is d.spec.tasks l.action range.1) so.lines.actions;
      };
      loads = so.loads;
      caps = so.caps;
    })

caps_keep : (rings : Rings) (r : RingName) (n : ℕ)
    → 0 < n
    → n ≤ most_of r
    → IsCaps (caps_of rings)
    → IsCaps (caps_of (with_ring rings r n))
caps_keep rings ring.Control n some few caps = record { control = record { some = some; few = few }; logs = caps.logs; outputs = caps.outputs; checks = caps.checks }
caps_keep rings ring.Data n some few caps = record { control = caps.control; logs = record { some = some; few = few }; outputs = caps.outputs; checks = caps.checks }
caps_keep rings ring.Outputs n some few caps = record { control = caps.control; logs = caps.logs; outputs = record { some = some; few = few }; checks = caps.checks }
caps_keep rings ring.Checks n some few caps = record { control = caps.control; logs = caps.logs; outputs = caps.outputs; checks = record { some = some; few = few } }

new_ring_keeps : (d : Draft) (r : RingLine) (next : Draft) → new_ring d r ≡ Ok next → IsSoFar d → IsSoFar next
new_ring_keeps d r next e so =
    let p = passed (eqb r.capacity 0 || ltb (most_of r.ring) r.capacity) (is_some (ring_of d.rings r.ring)) false (record d { rings = with_ring d.rings r.ring r.capacity }) next e in
    let range : (eqb r.capacity 0 ≡ false) × (ltb (most_of r.ring) r.capacity ≡ false) = both_not _ _ p.in_range in
    let some : 0 < r.capacity = omega (arith, eqb-false _ _ range.0) in
    subst IsSoFar p.is (record {
      tasks = so.tasks;
      users = so.users;
      alarms = so.alarms;
      boxes = so.boxes;
      lines = so.lines;
      loads = so.loads;
      caps = caps_keep d.rings r.ring r.capacity some (ltb-false _ _ range.1) so.caps;
    })

-- a list of at least one token spells at least one number
all_some : (token : List ℕ) (rest : List (List ℕ)) (ns : List ℕ) → all_in number_in (token ∷ rest) ≡ Ok ns → 0 < length ns
all_some token rest ns e =
    let first = bound (number_in token) (λ n. all_in number_in rest >>= (λ more. Ok (n ∷ more))) ns e in
    let second = bound (all_in number_in rest) (λ more. Ok (first.0 ∷ more)) ns first.1.1 in
    let same : first.0 ∷ second.0 ≡ ns = cc second.1.1 in
    subst (λ (xs : List ℕ). 0 < length xs) same (omega arith)

resource_line : ℕ → List ℕ → ResourceLine
resource_line n users = record { number = n; users = users }

-- a line `resource` names at least one user
resource_users : (words : List (List ℕ)) (r : ResourceLine) → resource_in words ≡ Ok r → 0 < length r.users
unfolding resource_line
resource_users [] r e = cc e
resource_users (number ∷ []) r e = cc e
resource_users (number ∷ token ∷ rest) r e =
    let first = bound (number_in number) (λ n. all_in number_in (token ∷ rest) >>= (λ users. Ok (resource_line n users))) r e in
    let second = bound (all_in number_in (token ∷ rest)) (λ users. Ok (resource_line first.0 users)) r first.1.1 in
    let same : resource_line first.0 second.0 ≡ r = cc second.1.1 in
    subst (λ (x : ResourceLine). 0 < length x.users) same (all_some token rest second.0 second.1.0)

words_keep : (d : Draft) (keyword : Keyword) (words : List (List ℕ)) (next : Draft)
    → words_on d keyword words ≡ Ok next
    → IsSoFar d
    → IsSoFar next
words_keep d Task words next e so =
    let said = bound (task_in words) (new_task d) next e in
    new_task_keeps d said.0 next said.1.1 so
words_keep d Text words next e so =
    let said = bound (text_in words) (new_text d) next e in
    new_text_keeps d said.0 next said.1.1 so
words_keep d Data words next e so =
    let said = bound (data_in words) (new_data_words d) next e in
    new_data_words_keeps d said.0 next said.1.1 so
words_keep d Resource words next e so =
    let said = bound (resource_in words) (new_resource d) next e in
    new_resource_keeps d said.0 next said.1.1 (resource_users words said.0 said.1.0) so
words_keep d Alarm words next e so =
    let said = bound (alarm_in words) (new_alarm d) next e in
    new_alarm_keeps d said.0 next said.1.1 so
words_keep d Box words next e so =
    let said = bound (box_in words) (new_box d) next e in
    new_box_keeps d said.0 next said.1.1 so
words_keep d Line words next e so =
    let said = bound (line_in words) (new_line d) next e in
    new_line_keeps d said.0 next said.1.1 so
words_keep d Ring words next e so =
    let said = bound (ring_in words) (new_ring d) next e in
    new_ring_keeps d said.0 next said.1.1 so

pub line_keeps : (d : Draft) (found : List (List ℕ)) (next : Draft)
    → image_line d found ≡ Ok next
    → IsSoFar d
    → IsSoFar next
line_keeps d [] next e so = cc e
line_keeps d (first ∷ words) next e so =
    let keyword = bound (keyword_in first) (λ keyword. words_on d keyword words) next e in
    words_keep d keyword.0 words next keyword.1.1 so

pub none_so_far : (s : Set) → IsSoFar (empty_draft s)
none_so_far s = record {
  tasks = record { few = omega arith; priorities = All-nil (λ s. 0 < s.priority); small = All-nil (λ s. s.priority < 256); distinct = λ i j d h k. absurd (omega arith) };
  users = record { few = omega arith; masks = All-nil _ };
  alarms = record { few = omega arith; actions = All-nil _ };
  boxes = record { few = omega arith; capacities = All-nil _ };
  lines = record { all = refl; actions = All-replicate (IsLineAction 0) 16 action.Nothing tt };
  loads = record { all = refl; each = All-nil IsLoadSoFar };
  caps = record {
    control = record { some = omega arith; few = omega arith };
    logs = record { some = omega arith; few = omega arith };
    outputs = record { some = omega arith; few = omega arith };
    checks = record { some = omega arith; few = omega arith };
  };
}
