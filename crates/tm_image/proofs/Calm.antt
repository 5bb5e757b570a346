-- No image's and no plan's answer is want of memory.
use Rattle.std.proofs.Common.{ℕ, ◌+◌, false, ◌||◌, List, [], ◌∷◌, ◌++◌, length, Option, Some, None, Result, Ok, Err, slice_get, set, eqb, ltb, unwrap_or}
use Rattle.std.specs.Prelude.{codes, is_some}
use Rattle.tm_marker.specs.declared.entries.Slice.{Slice}
use Rattle.tm_image.specs.declared.said.Keyword.{Keyword}
use Rattle.tm_image.specs.declared.said.Keyword.TheVariants.{Task, Text, Data, Resource, Alarm, Box, Line, Ring}
use Rattle.tm_image.specs.declared.said.LineLine.{LineLine}
use Rattle.tm_image.specs.declared.said.RingLine.{RingLine}
use Rattle.tm_kernel.specs.declared.spec.Action.TheVariants.{Nothing}
use Rattle.tm_rv.specs.declared.instr.Set.{Set}
use Rattle.tm_rv.specs.declared.instr.Set.TheVariants as set
use Rattle.tm_lines.specs.declared.fault.Fault.{Fault}
use Rattle.tm_lines.specs.Steps.{◌>>=◌, on_line}
use Rattle.tm_lines.specs.Lines.{pieces, header, from_header, lines_on}
use Rattle.tm_lines.specs.Numbers.{number_in, word_in, all_in}
use Rattle.tm_image.specs.Plan.{ports_in, slice_in, new_slice, plan_line, plan_of}
use Rattle.tm_image.specs.Said.{keyword_in, kind_in, start_in, task_in, text_in, data_in, resource_in, activate_in, event_in, action_in, alarm_in, box_in, line_action_in, line_in, ring_name_in, ring_in}
use Rattle.tm_image.specs.Load.{Load, written, more_text, with_text, new_data, with_data}
use Rattle.tm_image.specs.Draft.{Draft, names_no_task, is_given, line_action_of, most_of, ring_of, with_ring, empty_draft, new_task, new_text, new_data_words, new_resource, new_alarm, new_box, new_line, new_ring, words_on, image_line, whole}
use Rattle.tm_image.specs.Image.{image_digest, image_with, Below, by_version, below, draft_of, image_of}
use Rattle.tm_lines.specs.Laws.{NeverMemory}
use Rattle.tm_lines.proofs.Calm.{IsCalm, ok, form, range, missing, choice, then_on, tests, word_calm, all_calm, number_calm, from_number, gives, on_line_never, goes_on, header_never, lines_never}

ports_calm : (words : List (List ℕ)) → IsCalm (ports_in words)
ports_calm [] = ok _
ports_calm (a ∷ []) = form
ports_calm (a ∷ b ∷ []) = form
ports_calm (a ∷ b ∷ c ∷ []) = form
ports_calm (a ∷ b ∷ c ∷ d ∷ []) =
    from_number a _ (λ p0. from_number b _ (λ p1. from_number c _ (λ p2. from_number d _ (λ p3. ok _))))
ports_calm (a ∷ b ∷ c ∷ d ∷ e ∷ rest) = form

slice_calm : (words : List (List ℕ)) → IsCalm (slice_in words)
slice_calm [] = form
slice_calm (a ∷ []) = form
slice_calm (a ∷ b ∷ rest) =
    then_on (ports_in rest) _ (ports_calm rest) (λ ports. from_number a _ (λ n. from_number b _ (λ m. ok _)))

new_slice_calm : (slices : List Slice) (slice : Slice) → IsCalm (new_slice slices slice)
new_slice_calm slices slice = tests (ltb 1048576 slice.length || ltb 65535 slice.mask) false false (slices ++ slice ∷ [])

plan_line_calm : (slices : List Slice) (words : List (List ℕ)) → IsCalm (plan_line slices words)
plan_line_calm slices [] = form
plan_line_calm slices (keyword ∷ words) =
    choice _ _ _ (then_on (slice_in words) (new_slice slices) (slice_calm words) (λ slice. new_slice_calm slices slice)) form

keyword_calm : (token : List ℕ) → IsCalm (keyword_in token)
keyword_calm token = search (choice, ok, form) depth 12

kind_calm : (token : List ℕ) → IsCalm (kind_in token)
kind_calm token = search (choice, ok, form)

start_calm : (token : List ℕ) → IsCalm (start_in token)
start_calm token = search (choice, ok, form)

task_calm : (words : List (List ℕ)) → IsCalm (task_in words)
task_calm [] = form
task_calm (a ∷ []) = form
task_calm (a ∷ b ∷ []) = form
task_calm (a ∷ b ∷ c ∷ []) = form
task_calm (a ∷ b ∷ c ∷ d ∷ []) = form
task_calm (a ∷ b ∷ c ∷ d ∷ e ∷ []) = form
task_calm (a ∷ b ∷ c ∷ d ∷ e ∷ f ∷ []) =
    then_on (kind_in b) _ (kind_calm b)
    (λ k. then_on (start_in d) _ (start_calm d)
    (λ s. from_number a _ (λ n. from_number c _ (λ p. from_number e _ (λ y. from_number f _ (λ w. ok _))))))
task_calm (a ∷ b ∷ c ∷ d ∷ e ∷ f ∷ g ∷ rest) = form

text_calm : (words : List (List ℕ)) → IsCalm (text_in words)
text_calm [] = form
text_calm (a ∷ []) = form
text_calm (a ∷ b ∷ rest) = from_number a _ (λ n. then_on (all_in word_in (b ∷ rest)) _ (all_calm word_in (b ∷ rest) word_calm) (λ ws. ok _))

data_calm : (words : List (List ℕ)) → IsCalm (data_in words)
data_calm [] = form
data_calm (a ∷ []) = form
data_calm (a ∷ b ∷ []) = form
data_calm (a ∷ b ∷ c ∷ rest) =
    from_number a _ (λ n. from_number b _ (λ o. then_on (all_in word_in (c ∷ rest)) _ (all_calm word_in (c ∷ rest) word_calm) (λ ws. ok _)))

resource_calm : (words : List (List ℕ)) → IsCalm (resource_in words)
resource_calm [] = form
resource_calm (a ∷ []) = form
resource_calm (a ∷ b ∷ rest) =
    from_number a _ (λ n. then_on (all_in number_in (b ∷ rest)) _ (all_calm number_in (b ∷ rest) number_calm) (λ ts. ok _))

activate_calm : (words : List (List ℕ)) → IsCalm (activate_in words)
activate_calm [] = form
activate_calm (a ∷ []) = from_number a _ (λ t. ok _)
activate_calm (a ∷ b ∷ rest) = form

event_calm : (words : List (List ℕ)) → IsCalm (event_in words)
event_calm [] = form
event_calm (a ∷ []) = form
event_calm (a ∷ b ∷ []) = from_number a _ (λ t. from_number b _ (λ m. ok _))
event_calm (a ∷ b ∷ c ∷ rest) = form

action_calm : (words : List (List ℕ)) → IsCalm (action_in words)
action_calm [] = form
action_calm (first ∷ words) = search (choice, activate_calm, event_calm, form)

alarm_calm : (words : List (List ℕ)) → IsCalm (alarm_in words)
alarm_calm [] = form
alarm_calm (a ∷ words) = then_on (action_in words) _ (action_calm words) (λ x. from_number a _ (λ n. ok _))

box_calm : (words : List (List ℕ)) → IsCalm (box_in words)
box_calm [] = form
box_calm (a ∷ []) = form
box_calm (a ∷ b ∷ []) = from_number a _ (λ n. from_number b _ (λ c. ok _))
box_calm (a ∷ b ∷ c ∷ rest) = form

line_action_calm : (words : List (List ℕ)) → IsCalm (line_action_in words)
line_action_calm words = choice _ _ _ (ok _) (then_on (action_in words) _ (action_calm words) (λ a. ok _))

line_calm : (words : List (List ℕ)) → IsCalm (line_in words)
line_calm [] = form
line_calm (a ∷ words) = then_on (line_action_in words) _ (line_action_calm words) (λ x. from_number a _ (λ n. ok _))

ring_name_calm : (token : List ℕ) → IsCalm (ring_name_in token)
ring_name_calm token = search (choice, ok, form) depth 8

ring_calm : (words : List (List ℕ)) → IsCalm (ring_in words)
ring_calm [] = form
ring_calm (a ∷ []) = form
ring_calm (a ∷ b ∷ []) = then_on (ring_name_in a) _ (ring_name_calm a) (λ r. from_number b _ (λ n. ok _))
ring_calm (a ∷ b ∷ c ∷ rest) = form

more_text_calm : (words : List ℕ) (o : Option Load) → IsCalm (more_text words o)
more_text_calm words None = range
more_text_calm words (Some load) =
    tests false false (ltb 16384 (length load.text + length words)) (record load { text = load.text ++ words })

new_data_calm : (offset : ℕ) (words : List ℕ) (o : Option Load) → IsCalm (new_data offset words o)
new_data_calm offset words None = range
new_data_calm offset words (Some load) =
    tests (ltb (length load.words) (offset + length words)) false false (record load { words = written load.words offset words })

new_line_calm : (d : Draft) (l : LineLine) → IsCalm (new_line d l)
new_line_calm d l =
    tests (ltb 15 l.number || names_no_task d.spec.tasks l.action) (is_given (unwrap_or (slice_get d.spec.lines l.number) Nothing)) false
    (record d { spec = record d.spec { lines = set d.spec.lines l.number (line_action_of l.action) } })

new_ring_calm : (d : Draft) (r : RingLine) → IsCalm (new_ring d r)
new_ring_calm d r =
    tests (eqb r.capacity 0 || ltb (most_of r.ring) r.capacity) (is_some (ring_of d.rings r.ring)) false
    (record d { rings = with_ring d.rings r.ring r.capacity })

words_calm : (d : Draft) (keyword : Keyword) (words : List (List ℕ)) → IsCalm (words_on d keyword words)
words_calm d Task words = then_on (task_in words) (new_task d) (task_calm words) (λ t. tests _ _ _ _)
words_calm d Text words =
    then_on (text_in words) (new_text d) (text_calm words)
    (λ t. then_on (with_text d.loads t) _ (then_on (more_text t.words (slice_get d.loads t.number)) _ (more_text_calm t.words (slice_get d.loads t.number)) (λ load. ok _)) (λ loads. ok _))
words_calm d Data words =
    then_on (data_in words) (new_data_words d) (data_calm words)
    (λ t. then_on (with_data d.loads t) _ (then_on (new_data t.offset t.words (slice_get d.loads t.number)) _ (new_data_calm t.offset t.words (slice_get d.loads t.number)) (λ load. ok _)) (λ loads. ok _))
words_calm d Resource words = then_on (resource_in words) (new_resource d) (resource_calm words) (λ r. tests _ _ _ _)
words_calm d Alarm words = then_on (alarm_in words) (new_alarm d) (alarm_calm words) (λ a. tests _ _ _ _)
words_calm d Box words = then_on (box_in words) (new_box d) (box_calm words) (λ b. tests _ _ _ _)
words_calm d Line words = then_on (line_in words) (new_line d) (line_calm words) (new_line_calm d)
words_calm d Ring words = then_on (ring_in words) (new_ring d) (ring_calm words) (new_ring_calm d)

image_line_calm : (d : Draft) (words : List (List ℕ)) → IsCalm (image_line d words)
image_line_calm d [] = form
image_line_calm d (first ∷ words) = then_on (keyword_in first) _ (keyword_calm first) (λ keyword. words_calm d keyword words)

whole_calm : (d : Draft) → IsCalm (whole d)
whole_calm d = search (choice, missing, range, ok)

pub plan_never : (bytes : List ℕ) → NeverMemory (plan_of bytes)
unfolding plan_of
plan_never bytes =
    goes_on (from_header (header (codes "tmplan") (codes "1")) 1 (pieces bytes)) (λ (body : ℕ × List (List ℕ)). lines_on plan_line body.0 [] body.1 >>= (λ (last : ℕ × List Slice). Ok last.1))
    (header_never (header (codes "tmplan") (codes "1")) 1 (pieces bytes))
    (λ body. goes_on (lines_on plan_line body.0 [] body.1) (λ (last : ℕ × List Slice). Ok last.1) (lines_never plan_line body.0 [] body.1 plan_line_calm) (λ last. gives last.1))

below_never : (lines : List (List ℕ)) → NeverMemory (below lines)
below_never lines =
    either (from_header (header (codes "tmi") (codes "1")) 1 lines) (from_header (header (codes "tmi") (codes "2")) 1 lines)
    (header_never (header (codes "tmi") (codes "2")) 1 lines)
  where
    either : (first second : Result Below Fault) → NeverMemory second → NeverMemory (by_version first second)
    either (Ok body) second calm = gives _
    either (Err fault) second calm = goes_on second (λ body. Ok (set.Mul, body)) calm (λ body. gives _)

draft_never : (bytes : List ℕ) → NeverMemory (draft_of bytes)
unfolding draft_of
draft_never bytes =
    goes_on (below (pieces bytes)) (λ (body : Set × Below). lines_on image_line body.1.0 (empty_draft body.0) body.1.1 >>= (λ (last : ℕ × Draft). on_line last.0 (whole last.1)))
    (below_never (pieces bytes))
    (λ body. goes_on (lines_on image_line body.1.0 (empty_draft body.0) body.1.1) (λ (last : ℕ × Draft). on_line last.0 (whole last.1)) (lines_never image_line body.1.0 (empty_draft body.0) body.1.1 image_line_calm) (λ last. on_line_never last.0 (whole last.1) (whole_calm last.1)))

pub image_never : (bytes : List ℕ) → NeverMemory (image_of bytes)
unfolding image_of
image_never bytes = goes_on (draft_of bytes) (λ d. Ok (image_with (image_digest bytes) d)) (draft_never bytes) (λ d. gives _)
