-- What a printed text tells, as a value, and how the value is spelled.
use Rattle.std.specs.Prelude.{ℕ, ◌+◌, ◌==◌, if◌then◌else◌, List, [], ◌∷◌, ◌++◌, length, replicate, flat_map, Option, Some, None}
use Rattle.tm_marker.specs.declared.marker.Marker.{Marker}
use Rattle.tm_marker.specs.declared.entries.Switch.{Switch}
use Rattle.tm_marker.specs.declared.entries.OutputEntry.{OutputEntry}
use Rattle.tm_spelling.specs.Lines.{start_line, task_line, state_line, regs_line, data_line, out_line, switch_line, at_line, cause_line, end_line}

-- a task as it is printed: its marker, its registers, and the data words to print, as pairs of an
-- address and a value
pub record View : Type 0 where
  pub task : ℕ
  pub at : Marker
  pub regs : List ℕ
  pub changed : List (ℕ × ℕ)

-- how a task left the processor: the cause of its fault or 0, how it stands then, and the outputs that
-- it made since the control entry before
pub record Leave : Type 0 where
  pub cause : ℕ
  pub view : View
  pub outputs : List OutputEntry

-- one control entry with its number from 1, and how the task that it comes from left
pub record Block : Type 0 where
  pub seq : ℕ
  pub switch : Switch
  pub leave : Option Leave

-- a task at the end: its state, how it stands, and the outputs that are printed with it
pub record Last : Type 0 where
  pub state : ℕ
  pub view : View
  pub outputs : List OutputEntry

-- a text: the point that it begins from and who runs there, each task there, the control entries
-- after it, and the end
pub record Story : Type 0 where
  pub from : ℕ
  pub running : ℕ
  pub starts : List View
  pub blocks : List Block
  pub last_running : ℕ
  pub ended : ℕ
  pub lasts : List Last

-- the words of the second list that differ from those of the first, with their addresses
abbrev pub differences : ℕ → List ℕ → List ℕ → List (ℕ × ℕ)
differences address before [] = []
differences address [] (w ∷ ws) = []
differences address (b ∷ bs) (w ∷ ws) =
    if b == w then differences (address + 4) bs ws else (address, w) ∷ differences (address + 4) bs ws

-- the data words that changed, by address; data stands from 10000000 hex on
abbrev pub changes : List ℕ → List ℕ → List (ℕ × ℕ)
changes before now = differences 0x10000000 before now

-- the data words that are not 0, by address
abbrev pub nonzero : List ℕ → List (ℕ × ℕ)
nonzero words = changes (replicate (length words) 0) words

-- the registers and the data words of a view
abbrev pub values_text : View → List ℕ
values_text v = regs_line v.regs ++ flat_map data_line v.changed

-- a task at the start
abbrev pub start_view_text : View → List ℕ
start_view_text v = task_line v.task v.at ++ values_text v

-- the block of the start
abbrev pub start_text : ℕ → ℕ → List View → List ℕ
start_text from running views = start_line from running ++ flat_map start_view_text views

-- how the task left, below the line of the switch
abbrev pub leave_text : Option Leave → List ℕ
leave_text None = []
leave_text (Some l) =
    at_line l.view.at ++ (if l.cause == 0 then [] else cause_line l.cause) ++ values_text l.view ++ flat_map out_line l.outputs

-- one control entry
abbrev pub block_text : Block → List ℕ
block_text b = switch_line b.seq b.switch ++ leave_text b.leave

-- a task at the end
abbrev pub last_text : Last → List ℕ
last_text l = state_line l.view.task l.state l.view.at ++ values_text l.view ++ flat_map out_line l.outputs

-- the block of the end
abbrev pub end_text : ℕ → ℕ → List Last → List ℕ
end_text running ended lasts = end_line running ended ++ flat_map last_text lasts

-- the whole text
abbrev pub spelled : Story → List ℕ
spelled s =
    start_text s.from s.running s.starts ++ flat_map block_text s.blocks ++ end_text s.last_running s.ended s.lasts
