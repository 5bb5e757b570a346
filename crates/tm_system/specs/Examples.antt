-- Runs of small images, held to what they must leave.
use Rattle.std.specs.Prelude.{◌≡◌, ℕ, Bool, true, false, List, [], ◌∷◌, replicate, map}
use Rattle.tm_rv.specs.declared.instr.Set.TheVariants as set
use Rattle.tm_marker.specs.declared.marker.Marker.{Marker}
use Rattle.tm_marker.specs.declared.entries.Switch.{Switch}
use Rattle.tm_marker.specs.declared.entries.Slice.{Slice}
use Rattle.tm_marker.specs.declared.entries.Kind.{Kind}
use Rattle.tm_marker.specs.declared.entries.Kind.TheVariants.{Preempted, Ends, Idle}
use Rattle.tm_kernel.specs.declared.spec.TaskSpec.{TaskSpec}
use Rattle.tm_kernel.specs.declared.spec.Action.{Action}
use Rattle.tm_kernel.specs.declared.spec.Action.TheVariants.{Nothing, Activate}
use Rattle.tm_kernel.specs.State.{nobody}
use Rattle.tm_image.specs.Image.{ImageView}
use Rattle.tm_system.specs.Run.{run}
use Rattle.tm_system.specs.Controls.{controls}

-- an image of basic tasks with these texts, each entered at 0, with one data word; the lines' actions
abbrev pub image_of_texts : List TaskSpec → List (List ℕ) → List Action → ImageView
image_of_texts tasks texts lines = record {
  set = set.Base;
  digest = replicate 32 0;
  spec = record { tasks = tasks; users = []; alarms = []; boxes = []; lines = lines };
  loads = map (λ text. record { entry = 0; text = text; set = set.Base; words = 0 ∷ [] }) texts;
  caps = record { control = 256; logs = 256; outputs = 256; checks = 4 };
}

-- a basic task of this priority
abbrev pub basic : ℕ → Bool → TaskSpec
basic priority auto = record { extended = false; priority = priority; auto = auto }

-- a slice with no port words
abbrev pub slice : ℕ → ℕ → Slice
slice count mask = record { length = count; mask = mask; ports = 0 ∷ 0 ∷ 0 ∷ 0 ∷ [] }

-- a marker by its epoch, count and pc
abbrev pub at : ℕ → ℕ → ℕ → Marker
at epoch count pc = record { epoch = epoch; count = count; pc = pc }

-- a text that terminates its task: addi a7, x0, 2; ecall
abbrev pub ending_text : List ℕ
ending_text = 0x00200893 ∷ 0x00000073 ∷ []

-- a text of a jump to itself
abbrev pub looping_text : List ℕ
looping_text = 0x0000006f ∷ []

-- line 1 activates task 1
abbrev pub line_1 : List Action
line_1 = Nothing ∷ Activate 1 ∷ replicate 14 Nothing

-- one task, that terminates
abbrev pub ending : ImageView
ending = image_of_texts (basic 1 true ∷ []) (ending_text ∷ []) (replicate 16 Nothing)

-- a task that jumps to itself, and one of higher priority that line 1 activates
abbrev pub preempting : ImageView
preempting = image_of_texts (basic 1 true ∷ basic 2 false ∷ []) (looping_text ∷ ending_text ∷ []) line_1

-- a control entry
abbrev pub switch : ℕ → Kind → Marker → ℕ → Marker → Switch
switch from kind from_at to to_at =
    record { from = from; kind = kind; from_at = from_at; to = to; to_at = to_at }

-- a task that terminates at once: it leaves idle, and then ends in its next epoch
abbrev pub EndingLeaves : Type 0
EndingLeaves =
    controls ending (run ending (slice 2 0 ∷ []))
    ≡ switch nobody Idle (at 0 0 0) 0 (at 0 0 0) ∷ switch 0 Ends (at 1 0 0) nobody (at 0 0 0) ∷ []

-- a task is preempted after five jumps to itself, by one that terminates, and runs again
abbrev pub PreemptingLeaves : Type 0
PreemptingLeaves =
    controls preempting (run preempting (slice 5 0 ∷ slice 2 2 ∷ []))
    ≡ switch nobody Idle (at 0 0 0) 0 (at 0 0 0)
    ∷ switch 0 Preempted (at 0 5 0) 1 (at 0 0 0)
    ∷ switch 1 Ends (at 1 0 0) 0 (at 0 5 0) ∷ []
