-- What each line of an image makes of the lines before it: each `new_` tells, in this order, when the
-- line is out of range, when it repeats something, and when it passes a limit.
use Rattle.std.specs.Prelude.{ℕ, ◌^◌, ◌%◌, Bool, true, false, ◌||◌, not, List, [], ◌∷◌, ◌++◌, length, replicate, fold, bit_or, slice_get, slice_set, is_some, ◌==◌, nat_lt, nat_le, if◌then◌else◌, Option, Some, None, unwrap_or, Result, Ok, Err}
use Rattle.std.specs.List.{list_any}
use Rattle.tm_kernel.specs.declared.spec.Action.{Action}
use Rattle.tm_kernel.specs.declared.spec.Action.TheVariants as action
use Rattle.tm_kernel.specs.declared.spec.TaskSpec.{TaskSpec}
use Rattle.tm_kernel.specs.declared.spec.KernelSpec.{KernelSpec}
use Rattle.tm_kernel.specs.declared.spec.TheConstants.{MOST_RESOURCES, MOST_ALARMS, MOST_BOXES, MOST_MESSAGES}
use Rattle.tm_marker.specs.declared.entries.TheConstants.{LINES}
use Rattle.tm_marker.specs.declared.shape.Caps.{Caps}
use Rattle.tm_marker.specs.declared.shape.TheConstants.{MOST_TASKS, MOST_WORDS, MOST_ITEMS, MOST_CHECKPOINTS}
use Rattle.tm_marker.specs.declared.shape.TheConstants.Caps.{DEFAULT}
use Rattle.tm_rv.specs.declared.instr.Set.{Set}
use Rattle.tm_lines.specs.declared.fault.Reason.{Reason}
use Rattle.tm_lines.specs.declared.fault.Reason.TheVariants.{Form, Range, Missing}
use Rattle.tm_image.specs.declared.said.Keyword.{Keyword}
use Rattle.tm_image.specs.declared.said.Keyword.TheVariants.{Task, Text, Data, Resource, Alarm, Box, Line, Ring}
use Rattle.tm_image.specs.declared.said.TaskLine.{TaskLine}
use Rattle.tm_image.specs.declared.said.TextLine.{TextLine}
use Rattle.tm_image.specs.declared.said.DataLine.{DataLine}
use Rattle.tm_image.specs.declared.said.ResourceLine.{ResourceLine}
use Rattle.tm_image.specs.declared.said.TaskAction.{TaskAction}
use Rattle.tm_image.specs.declared.said.TaskAction.TheVariants.{Activate, Event}
use Rattle.tm_image.specs.declared.said.AlarmLine.{AlarmLine}
use Rattle.tm_image.specs.declared.said.BoxLine.{BoxLine}
use Rattle.tm_image.specs.declared.said.LineAction.{LineAction}
use Rattle.tm_image.specs.declared.said.LineAction.TheVariants.{Tick, OfTask}
use Rattle.tm_image.specs.declared.said.LineLine.{LineLine}
use Rattle.tm_image.specs.declared.said.RingLine.{RingLine}
use Rattle.tm_image.specs.declared.rings.RingName.{RingName}
use Rattle.tm_image.specs.declared.rings.RingName.TheVariants as ring
use Rattle.tm_image.specs.declared.rings.Rings.{Rings}
use Rattle.tm_lines.specs.Steps.{◌>>=◌, tested}
use Rattle.tm_image.specs.Said.{keyword_in, task_in, text_in, data_in, resource_in, alarm_in, box_in, line_in, ring_in}
use Rattle.tm_image.specs.Load.{Load, has_no_text, is_outside, with_text, with_data}

-- the set of instructions, what the kernel is made of, what each task is loaded from, and the capacities that
-- were given
pub record Draft : Type 0 where
  pub set : Set
  pub spec : KernelSpec
  pub loads : List Load
  pub rings : Rings

-- before the first line: nothing, and no line with an action
abbrev pub empty_draft : Set → Draft
empty_draft s = record {
  set = s;
  spec = record { tasks = []; users = []; alarms = []; boxes = []; lines = replicate LINES action.Nothing };
  loads = [];
  rings = record { control = None; logs = None; outputs = None; checks = None };
}

-- some task has this priority
abbrev pub is_taken : ℕ → List TaskSpec → Bool
is_taken priority tasks = list_any (λ t. t.priority == priority) tasks

-- a line `task` has a number outside its range: the priority is one of 1 to 255, the entry a multiple
-- of 4, and there is a data word, and no more than there may be
abbrev pub is_off_range : TaskLine → Bool
is_off_range t =
    t.priority == 0 || nat_lt 255 t.priority || not (t.entry % 4 == 0) || t.words == 0 || nat_lt MOST_WORDS t.words

-- one more task, whose data words are 0; its text comes later
abbrev pub with_task : Draft → TaskLine → Draft
with_task d t = record d {
  spec = record d.spec {
    tasks = d.spec.tasks ++ record { extended = t.extended; priority = t.priority; auto = t.auto } ∷ [];
  };
  loads = d.loads ++ record { entry = t.entry; text = []; set = d.set; words = replicate t.words 0 } ∷ [];
}

-- tasks are numbered in their order, and no two have one priority
abbrev pub new_task : Draft → TaskLine → Result Draft Reason
new_task d t = tested
    (nat_lt (length d.spec.tasks) t.number || is_off_range t)
    (nat_lt t.number (length d.spec.tasks) || is_taken t.priority d.spec.tasks)
    (t.number == MOST_TASKS)
    (with_task d t)

abbrev pub new_text : Draft → TextLine → Result Draft Reason
new_text d t = do
  loads ← with_text d.loads t
  Ok (record d { loads = loads })

abbrev pub new_data_words : Draft → DataLine → Result Draft Reason
new_data_words d t = do
  loads ← with_data d.loads t
  Ok (record d { loads = loads })

-- there is no task of this number
abbrev pub is_no_task : List TaskSpec → ℕ → Bool
is_no_task tasks t = nat_le (length tasks) t

-- some number stands twice in the list
abbrev pub has_twice : List ℕ → Bool
has_twice [] = false
has_twice (x ∷ xs) = list_any (λ y. y == x) xs || has_twice xs

-- the mask in which the bits of these users are set
abbrev pub mask_of : List ℕ → ℕ
mask_of users = fold (λ mask user. bit_or mask (2 ^ user)) 0 users

-- resources are numbered in their order
abbrev pub new_resource : Draft → ResourceLine → Result Draft Reason
new_resource d r = tested
    (nat_lt (length d.spec.users) r.number || list_any (is_no_task d.spec.tasks) r.users)
    (nat_lt r.number (length d.spec.users) || has_twice r.users)
    (r.number == MOST_RESOURCES)
    (record d { spec = record d.spec { users = d.spec.users ++ mask_of r.users ∷ [] } })

-- the task that an action names
abbrev pub task_of : TaskAction → ℕ
task_of (Activate t) = t
task_of (Event t mask) = t

-- what the kernel is to do
abbrev pub action_of : TaskAction → Action
action_of (Activate t) = action.Activate t
action_of (Event t mask) = action.Event t mask

-- alarms are numbered in their order
abbrev pub new_alarm : Draft → AlarmLine → Result Draft Reason
new_alarm d a = tested
    (nat_lt (length d.spec.alarms) a.number || is_no_task d.spec.tasks (task_of a.action))
    (nat_lt a.number (length d.spec.alarms))
    (a.number == MOST_ALARMS)
    (record d { spec = record d.spec { alarms = d.spec.alarms ++ action_of a.action ∷ [] } })

-- boxes are numbered in their order, and each has room for a message, and no more than it may have
abbrev pub new_box : Draft → BoxLine → Result Draft Reason
new_box d b = tested
    (nat_lt (length d.spec.boxes) b.number || b.capacity == 0 || nat_lt MOST_MESSAGES b.capacity)
    (nat_lt b.number (length d.spec.boxes))
    (b.number == MOST_BOXES)
    (record d { spec = record d.spec { boxes = d.spec.boxes ++ b.capacity ∷ [] } })

-- the action of a line names a task that there is not
abbrev pub names_no_task : List TaskSpec → LineAction → Bool
names_no_task tasks Tick = false
names_no_task tasks (OfTask a) = is_no_task tasks (task_of a)

-- what the kernel is to do when the line comes
abbrev pub line_action_of : LineAction → Action
line_action_of Tick = action.Tick
line_action_of (OfTask a) = action_of a

-- a line has been given its action
abbrev pub is_given : Action → Bool
is_given action.Nothing = false
is_given action.Tick = true
is_given (action.Activate t) = true
is_given (action.Event t mask) = true

-- an action of a line that there is
abbrev pub new_line : Draft → LineLine → Result Draft Reason
new_line d l = tested
    (nat_le LINES l.number || names_no_task d.spec.tasks l.action)
    (is_given (unwrap_or (slice_get d.spec.lines l.number) action.Nothing))
    false
    (record d { spec = record d.spec { lines = slice_set d.spec.lines l.number (line_action_of l.action) } })

-- the most items that a ring may keep
abbrev pub most_of : RingName → ℕ
most_of ring.Control = MOST_ITEMS
most_of ring.Data = MOST_ITEMS
most_of ring.Outputs = MOST_ITEMS
most_of ring.Checks = MOST_CHECKPOINTS

-- the capacity that a ring was given
abbrev pub ring_of : Rings → RingName → Option ℕ
ring_of rings ring.Control = rings.control
ring_of rings ring.Data = rings.logs
ring_of rings ring.Outputs = rings.outputs
ring_of rings ring.Checks = rings.checks

-- the rings, one of which is given its capacity
abbrev pub with_ring : Rings → RingName → ℕ → Rings
with_ring rings ring.Control n = record rings { control = Some n }
with_ring rings ring.Data n = record rings { logs = Some n }
with_ring rings ring.Outputs n = record rings { outputs = Some n }
with_ring rings ring.Checks n = record rings { checks = Some n }

abbrev pub new_ring : Draft → RingLine → Result Draft Reason
new_ring d r = tested
    (r.capacity == 0 || nat_lt (most_of r.ring) r.capacity)
    (is_some (ring_of d.rings r.ring))
    false
    (record d { rings = with_ring d.rings r.ring r.capacity })

-- the capacities: those that were given, else the default ones
abbrev pub caps_of : Rings → Caps
caps_of rings = record {
  control = unwrap_or rings.control DEFAULT.control;
  logs = unwrap_or rings.logs DEFAULT.logs;
  outputs = unwrap_or rings.outputs DEFAULT.outputs;
  checks = unwrap_or rings.checks DEFAULT.checks;
}

-- what the words below a keyword make of a draft
abbrev pub words_on : Draft → Keyword → List (List ℕ) → Result Draft Reason
words_on d Task words = task_in words >>= new_task d
words_on d Text words = text_in words >>= new_text d
words_on d Data words = data_in words >>= new_data_words d
words_on d Resource words = resource_in words >>= new_resource d
words_on d Alarm words = alarm_in words >>= new_alarm d
words_on d Box words = box_in words >>= new_box d
words_on d Line words = line_in words >>= new_line d
words_on d Ring words = ring_in words >>= new_ring d

-- a line of an image
abbrev pub image_line : Draft → List (List ℕ) → Result Draft Reason
image_line d [] = Err Form
image_line d (first ∷ words) = do
  keyword ← keyword_in first
  words_on d keyword words

-- the draft at the end of the file: Missing where there is no task or some task has no text; then Range
-- where some entry is outside its text
abbrev pub whole : Draft → Result Draft Reason
whole d =
    if length d.loads == 0 || list_any has_no_text d.loads then Err Missing
    else (if list_any is_outside d.loads then Err Range else Ok d)
