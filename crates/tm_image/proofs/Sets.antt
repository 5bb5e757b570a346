-- Each task of an image has the image's set of instructions.
use Rattle.std.proofs.Common.{◌≡◌, ◌∙◌, ℕ, ◌+◌, false, ◌||◌, nat_lt, ◌==◌, List, [], ◌∷◌, ◌++◌, All, length, refl, sym, subst, Option, Some, None, Ok, slice_get, set, unwrap_or}
use Rattle.std.specs.Prelude.{is_some}
use Rattle.std.specs.List.{list_any}
use Rattle.std.proofs.lemmas.List.Elements.{All-nil, All-push, All-set}
use Rattle.std.proofs.lemmas.Option.{slice_get_within, get_or_from_slice_get}
use Rattle.tm_kernel.specs.declared.spec.Action.TheVariants as action
use Rattle.tm_rv.specs.declared.instr.Set.{Set}
use Rattle.tm_image.specs.declared.said.Keyword.{Keyword}
use Rattle.tm_image.specs.declared.said.Keyword.TheVariants.{Task, Text, Data, Resource, Alarm, Box, Line, Ring}
use Rattle.tm_image.specs.declared.said.TaskLine.{TaskLine}
use Rattle.tm_image.specs.declared.said.TextLine.{TextLine}
use Rattle.tm_image.specs.declared.said.DataLine.{DataLine}
use Rattle.tm_image.specs.declared.said.ResourceLine.{ResourceLine}
use Rattle.tm_image.specs.declared.said.AlarmLine.{AlarmLine}
use Rattle.tm_image.specs.declared.said.BoxLine.{BoxLine}
use Rattle.tm_image.specs.declared.said.LineLine.{LineLine}
use Rattle.tm_image.specs.declared.said.RingLine.{RingLine}
use Rattle.tm_lines.specs.Lines.{lines_on}
use Rattle.tm_image.specs.Said.{keyword_in, task_in, text_in, data_in, resource_in, alarm_in, box_in, line_in, ring_in}
use Rattle.tm_image.specs.Load.{Load, more_text, written, new_data, with_text, with_data}
use Rattle.tm_image.specs.Draft.{Draft, empty_draft, is_taken, is_off_range, with_task, new_task, new_text, new_data_words, is_no_task, has_twice, mask_of, new_resource, task_of, action_of, new_alarm, new_box, names_no_task, line_action_of, is_given, new_line, most_of, ring_of, with_ring, new_ring, words_on, image_line}
use Rattle.tm_lines.proofs.Steps.{bound, passed}
use Rattle.tm_lines.proofs.Keeping.{lines_keep}

-- the task may have these instructions
abbrev MayHave : Set → Load → Type 0
MayHave s load = load.set ≡ s

-- the draft and each of its tasks have this set
pub record HasSet (s : Set) (d : Draft) : Type 0 where
  pub own : d.set ≡ s
  pub loads : All (λ load. load.set ≡ s) d.loads

-- a draft with the same set and loads
same_draft : (s : Set) (d next made : Draft) → made ≡ next → made.set ≡ d.set → made.loads ≡ d.loads → HasSet s d → HasSet s next
same_draft s d next made is own loads so = subst (HasSet s) is (record { own = own ∙ so.own; loads = subst (All (MayHave s)) (sym loads) so.loads })

-- a draft with other loads
with_loads : (s : Set) (d next : Draft) (loads : List Load) → record d { loads = loads } ≡ next → All (MayHave s) loads → HasSet s d → HasSet s next
with_loads s d next loads is each so = subst (HasSet s) is (record { own = so.own; loads = each })

has_task : (s : Set) (d : Draft) (t : TaskLine) (next : Draft) → new_task d t ≡ Ok next → HasSet s d → HasSet s next
has_task s d t next e so =
    let p = passed (nat_lt (length d.spec.tasks) t.number || is_off_range t) (nat_lt t.number (length d.spec.tasks) || is_taken t.priority d.spec.tasks) (t.number == 16) (with_task d t) next e in
    subst (HasSet s) p.is (record { own = so.own; loads = All-push (MayHave s) d.loads _ so.loads so.own })

-- a load at a place is one of the list's
load_at : (s : Set) (loads : List Load) (n : ℕ) → All (MayHave s) loads → (old : Load) → slice_get loads n ≡ Some old → MayHave s old
load_at s loads n each old e = subst (MayHave s) (get_or_from_slice_get loads n old old e) (each n old (slice_get_within loads n old e))

has_text : (s : Set) (d : Draft) (t : TextLine) (next : Draft) → new_text d t ≡ Ok next → HasSet s d → HasSet s next
has_text s d t next e so =
    let outer = bound (with_text d.loads t) (λ loads. Ok (record d { loads = loads })) next e in
    let inner = bound (more_text t.words (slice_get d.loads t.number)) (λ load. Ok (set d.loads t.number load)) outer.0 outer.1.0 in
    let kept : MayHave s inner.0 = more (slice_get d.loads t.number) inner.0 inner.1.0 (λ old is. load_at s d.loads t.number so.loads old is) in
    let there : set d.loads t.number inner.0 ≡ outer.0 = cc inner.1.1 in
    let same : record d { loads = outer.0 } ≡ next = cc outer.1.1 in
    with_loads s d next outer.0 same (subst (All (MayHave s)) there (All-set (MayHave s) d.loads t.number inner.0 kept so.loads)) so
  where
    more : (o : Option Load) (load : Load) → more_text t.words o ≡ Ok load → ((old : Load) → o ≡ Some old → MayHave s old) → MayHave s load
    more None load e old = cc e
    more (Some l) load e old =
        let p = passed false false (nat_lt 16384 (length l.text + length t.words)) (record l { text = l.text ++ t.words }) load e in
        subst (MayHave s) p.is (old l refl)

has_data : (s : Set) (d : Draft) (t : DataLine) (next : Draft) → new_data_words d t ≡ Ok next → HasSet s d → HasSet s next
has_data s d t next e so =
    let outer = bound (with_data d.loads t) (λ loads. Ok (record d { loads = loads })) next e in
    let inner = bound (new_data t.offset t.words (slice_get d.loads t.number)) (λ load. Ok (set d.loads t.number load)) outer.0 outer.1.0 in
    let kept : MayHave s inner.0 = more (slice_get d.loads t.number) inner.0 inner.1.0 (λ old is. load_at s d.loads t.number so.loads old is) in
    let there : set d.loads t.number inner.0 ≡ outer.0 = cc inner.1.1 in
    let same : record d { loads = outer.0 } ≡ next = cc outer.1.1 in
    with_loads s d next outer.0 same (subst (All (MayHave s)) there (All-set (MayHave s) d.loads t.number inner.0 kept so.loads)) so
  where
    more : (o : Option Load) (load : Load) → new_data t.offset t.words o ≡ Ok load → ((old : Load) → o ≡ Some old → MayHave s old) → MayHave s load
    more None load e old = cc e
    more (Some l) load e old =
        let p = passed (nat_lt (length l.words) (t.offset + length t.words)) false false (record l { words = written l.words t.offset t.words }) load e in
        subst (MayHave s) p.is (old l refl)

has_resource : (s : Set) (d : Draft) (r : ResourceLine) (next : Draft) → new_resource d r ≡ Ok next → HasSet s d → HasSet s next
has_resource s d r next e so =
    let p = passed (nat_lt (length d.spec.users) r.number || list_any (is_no_task d.spec.tasks) r.users) (nat_lt r.number (length d.spec.users) || has_twice r.users) (r.number == 16) (record d { spec = record d.spec { users = d.spec.users ++ mask_of r.users ∷ [] } }) next e in
    same_draft s d next _ p.is refl refl so

has_alarm : (s : Set) (d : Draft) (a : AlarmLine) (next : Draft) → new_alarm d a ≡ Ok next → HasSet s d → HasSet s next
has_alarm s d a next e so =
    let p = passed (nat_lt (length d.spec.alarms) a.number || is_no_task d.spec.tasks (task_of a.action)) (nat_lt a.number (length d.spec.alarms)) (a.number == 16) (record d { spec = record d.spec { alarms = d.spec.alarms ++ action_of a.action ∷ [] } }) next e in
    same_draft s d next _ p.is refl refl so

has_box : (s : Set) (d : Draft) (b : BoxLine) (next : Draft) → new_box d b ≡ Ok next → HasSet s d → HasSet s next
has_box s d b next e so =
    let p = passed (nat_lt (length d.spec.boxes) b.number || b.capacity == 0 || nat_lt 64 b.capacity) (nat_lt b.number (length d.spec.boxes)) (b.number == 16) (record d { spec = record d.spec { boxes = d.spec.boxes ++ b.capacity ∷ [] } }) next e in
    same_draft s d next _ p.is refl refl so

has_line : (s : Set) (d : Draft) (l : LineLine) (next : Draft) → new_line d l ≡ Ok next → HasSet s d → HasSet s next
has_line s d l next e so =
    let p = passed (nat_lt 15 l.number || names_no_task d.spec.tasks l.action) (is_given (unwrap_or (slice_get d.spec.lines l.number) action.Nothing)) false (record d { spec = record d.spec { lines = set d.spec.lines l.number (line_action_of l.action) } }) next e in
    same_draft s d next _ p.is refl refl so

has_ring : (s : Set) (d : Draft) (r : RingLine) (next : Draft) → new_ring d r ≡ Ok next → HasSet s d → HasSet s next
has_ring s d r next e so =
    let p = passed (r.capacity == 0 || nat_lt (most_of r.ring) r.capacity) (is_some (ring_of d.rings r.ring)) false (record d { rings = with_ring d.rings r.ring r.capacity }) next e in
    same_draft s d next _ p.is refl refl so

words_have : (s : Set) (d : Draft) (keyword : Keyword) (words : List (List ℕ)) (next : Draft) → words_on d keyword words ≡ Ok next → HasSet s d → HasSet s next
words_have s d Task words next e so = let said = bound (task_in words) (new_task d) next e in has_task s d said.0 next said.1.1 so
words_have s d Text words next e so = let said = bound (text_in words) (new_text d) next e in has_text s d said.0 next said.1.1 so
words_have s d Data words next e so = let said = bound (data_in words) (new_data_words d) next e in has_data s d said.0 next said.1.1 so
words_have s d Resource words next e so = let said = bound (resource_in words) (new_resource d) next e in has_resource s d said.0 next said.1.1 so
words_have s d Alarm words next e so = let said = bound (alarm_in words) (new_alarm d) next e in has_alarm s d said.0 next said.1.1 so
words_have s d Box words next e so = let said = bound (box_in words) (new_box d) next e in has_box s d said.0 next said.1.1 so
words_have s d Line words next e so = let said = bound (line_in words) (new_line d) next e in has_line s d said.0 next said.1.1 so
words_have s d Ring words next e so = let said = bound (ring_in words) (new_ring d) next e in has_ring s d said.0 next said.1.1 so

line_has : (s : Set) (d : Draft) (found : List (List ℕ)) (next : Draft) → image_line d found ≡ Ok next → HasSet s d → HasSet s next
line_has s d [] next e so = cc e
line_has s d (first ∷ words) next e so =
    let keyword = bound (keyword_in first) (λ keyword. words_on d keyword words) next e in
    words_have s d keyword.0 words next keyword.1.1 so

-- what the lines below a header make has the header's set
pub lines_have : (s : Set) (first : ℕ) (lines : List (List ℕ)) (last : ℕ × Draft) → lines_on image_line first (empty_draft s) lines ≡ Ok last → HasSet s last.1
lines_have s first lines last e =
    lines_keep (HasSet s) image_line (line_has s) first lines (empty_draft s) last e (record { own = refl; loads = All-nil (MayHave s) })

-- a draft that has a set has its own
pub own_set : {s : Set} {d : Draft} → HasSet s d → HasSet d.set d
own_set {s = s} {d = d} has = subst (λ (t : Set). HasSet t d) (sym has.own) has
