-- What every line of an image keeps of the numbers of 32 bits, and with it every image.
use Rattle.std.proofs.Common.{◌≡◌, ℕ, ◌+◌, ◌-◌, ◌*◌, ◌<◌, ◌≤◌, ◌^◌, Bool, true, false, ◌&&◌, ◌||◌, nat_lt, nat_le, ◌==◌, if◌then◌else◌, List, [], ◌∷◌, ◌++◌, All, length, take, drop, refl, sym, subst, arith, Option, Some, None, Result, Ok, Err, slice_get, set, unwrap_or}
use Rattle.std.specs.Prelude.{codes, is_some}
use Rattle.std.specs.List.{list_any}
use Rattle.std.specs.Str.{bytes_eq}
use Rattle.std.proofs.lemmas.Bool.Decides.{nat_tests}
use Rattle.std.proofs.lemmas.Grind.{pow_more}
use Rattle.std.proofs.Math.Nat.{pow-le-pow_right}
use Rattle.std.proofs.lemmas.List.Elements.{All-nil, All-cons, All-append, All-take, All-drop, All-push, All-set, All-replicate}
use Rattle.std.proofs.lemmas.Option.{slice_get_within, get_or_from_slice_get}
use Rattle.tm_kernel.specs.declared.spec.Action.{Action}
use Rattle.tm_kernel.specs.declared.spec.Action.TheVariants as action
use Rattle.tm_lines.specs.declared.fault.Reason.{Reason}
use Rattle.tm_lines.specs.declared.fault.Reason.TheVariants.{Number, Form}
use Rattle.tm_image.specs.declared.said.Keyword.{Keyword}
use Rattle.tm_image.specs.declared.said.Keyword.TheVariants.{Task, Text, Data, Resource, Alarm, Box, Line, Ring}
use Rattle.tm_image.specs.declared.said.TaskLine.{TaskLine}
use Rattle.tm_image.specs.declared.said.TextLine.{TextLine}
use Rattle.tm_image.specs.declared.said.DataLine.{DataLine}
use Rattle.tm_image.specs.declared.said.ResourceLine.{ResourceLine}
use Rattle.tm_image.specs.declared.said.TaskAction.{TaskAction}
use Rattle.tm_image.specs.declared.said.TaskAction.TheVariants.{Activate, Event}
use Rattle.tm_image.specs.declared.said.AlarmLine.{AlarmLine}
use Rattle.tm_image.specs.declared.said.BoxLine.{BoxLine}
use Rattle.tm_image.specs.declared.said.LineAction.{LineAction}
use Rattle.tm_image.specs.declared.said.LineAction.TheVariants.{Tick, OfTask}
use Rattle.tm_image.specs.declared.said.LineLine.{LineLine}
use Rattle.tm_image.specs.declared.said.RingLine.{RingLine}
use Rattle.tm_lines.specs.Steps.{◌>>=◌, on_line}
use Rattle.tm_rv.specs.declared.instr.Set.{Set}
use Rattle.tm_lines.specs.Lines.{pieces, lines_on}
use Rattle.tm_lines.specs.Numbers.{digit_in, hex_digit_in, digits_on, narrow, decimal_in, hex_in, number_in, word_in, all_in}
use Rattle.tm_image.specs.Said.{keyword_in, task_in, text_in, data_in, resource_in, activate_in, event_in, action_in, alarm_in, box_in, is_tick, line_action_in, line_in, ring_in}
use Rattle.tm_image.specs.Load.{Load, has_no_text, is_outside, more_text, written, new_data, with_text, with_data}
use Rattle.tm_image.specs.Draft.{Draft, empty_draft, is_taken, is_off_range, with_task, new_task, new_text, new_data_words, is_no_task, has_twice, mask_of, new_resource, task_of, action_of, new_alarm, new_box, names_no_task, line_action_of, is_given, new_line, most_of, ring_of, with_ring, new_ring, words_on, image_line, whole}
use Rattle.tm_image.specs.Image.{Below, below, draft_of}
use Rattle.tm_lines.proofs.Steps.{bound, passed, on_line_gave}
use Rattle.tm_lines.proofs.Keeping.{lines_keep}
use Rattle.tm_image.proofs.Wholes.{whole_passed}

-- a number of 32 bits
abbrev pub IsWord : ℕ → Type 0
IsWord n = n < 2 ^ 32

-- the value where a test passes
when : {X : Type 0} (b : Bool) (x y : Result X Reason) (n : X) → (if b then x else y) ≡ Ok n → (P : Type 0) → (b ≡ true → x ≡ Ok n → P) → (b ≡ false → y ≡ Ok n → P) → P
when true x y n e P held missed = held refl e
when false x y n e P held missed = missed refl e

digit_small : (c d : ℕ) → digit_in c ≡ Ok d → d < 16
digit_small c d e =
    when (nat_le 48 c && nat_le c 57) (Ok (c - 48)) (Err Number) d e (d < 16)
    (λ is same. (let value : c - 48 ≡ d = cc same in grind (arith, nat_tests, is, value)))
    (λ _ same. cc same)

hex_small : (c d : ℕ) → hex_digit_in c ≡ Ok d → d < 16
hex_small c d e =
    when (nat_le 97 c && nat_le c 102) (Ok (c - 87)) _ d e (d < 16)
    (λ is same. (let value : c - 87 ≡ d = cc same in grind (arith, nat_tests, is, value)))
    (λ _ rest. when (nat_le 65 c && nat_le c 70) (Ok (c - 55)) (digit_in c) d rest (d < 16)
    (λ is same. (let value : c - 55 ≡ d = cc same in grind (arith, nat_tests, is, value)))
    (λ _ last. digit_small c d last))

-- a number of i hexadecimal digits, with so many more that they are at most eight
digits_word : (ds : List ℕ) (i k n : ℕ) → k < 16 ^ i → i + length ds ≤ 8 → digits_on hex_digit_in 16 k ds ≡ Ok n → IsWord n
digits_word [] i k n low few e =
    let same : k ≡ n = cc e in
    let positive : 0 < 16 = omega arith in
    let short : i ≤ 8 = omega (arith, few) in
    let most : 16 ^ i ≤ 16 ^ 8 = pow-le-pow_right positive short in
    omega (arith, same, low, most)
digits_word (c ∷ cs) i k n low few e =
    let first = bound (hex_digit_in c) (λ d. digits_on hex_digit_in 16 (16 * k + d) cs) n e in
    digits_word cs (i + 1) (16 * k + first.0) n (omega (arith, low, pow_more 16 i, hex_small c first.0 first.1.0)) (omega (arith, few)) first.1.1

hex_word : (least : ℕ) (ds : List ℕ) (n : ℕ) → hex_in least 8 ds ≡ Ok n → IsWord n
hex_word least ds n e =
    when (nat_le least (length ds) && nat_le (length ds) 8) (digits_on hex_digit_in 16 0 ds) (Err Number) n e (IsWord n)
    (λ is same. (let few : length ds ≤ 8 = grind (arith, nat_tests, is) in digits_word ds 0 0 n (omega arith) (omega (arith, few)) same))
    (λ _ same. cc same)

narrow_word : (k n : ℕ) → narrow k ≡ Ok n → IsWord n
narrow_word k n e =
    when (nat_lt k (2 ^ 32)) (Ok k) (Err Number) n e (IsWord n)
    (λ is same. (let value : k ≡ n = cc same in grind (arith, nat_tests, is, value)))
    (λ _ same. cc same)

decimal_word : (ds : List ℕ) (n : ℕ) → decimal_in ds ≡ Ok n → IsWord n
decimal_word ds n e =
    when (nat_le 1 (length ds) && nat_le (length ds) 10) (digits_on digit_in 10 0 ds >>= narrow) (Err Number) n e (IsWord n)
    (λ _ same. (let first = bound (digits_on digit_in 10 0 ds) narrow n same in narrow_word first.0 n first.1.1))
    (λ _ same. cc same)

number_word : (token : List ℕ) (n : ℕ) → number_in token ≡ Ok n → IsWord n
unfolding number_in
number_word [] n e = decimal_word [] n e
number_word (c ∷ []) n e = decimal_word (c ∷ []) n e
number_word (c ∷ x ∷ digits) n e =
    when (c == 48 && x == 120) (hex_in 1 8 digits) (decimal_in (c ∷ x ∷ digits)) n e (IsWord n)
    (λ _ same. hex_word 1 digits n same) (λ _ same. decimal_word (c ∷ x ∷ digits) n same)

word_word : (token : List ℕ) (n : ℕ) → word_in token ≡ Ok n → IsWord n
unfolding word_in
word_word token n e = hex_word 8 token n e

all_words : (tokens : List (List ℕ)) (ns : List ℕ) → all_in word_in tokens ≡ Ok ns → All IsWord ns
all_words [] ns e = let same : [] ≡ ns = cc e in subst (All IsWord) same (All-nil IsWord)
all_words (token ∷ rest) ns e =
    let first = bound (word_in token) (λ n. all_in word_in rest >>= (λ more. Ok (n ∷ more))) ns e in
    let second = bound (all_in word_in rest) (λ more. Ok (first.0 ∷ more)) ns first.1.1 in
    let same : first.0 ∷ second.0 ≡ ns = cc second.1.1 in
    subst (All IsWord) same (All-cons IsWord first.0 second.0 (word_word token first.0 first.1.0) (all_words rest second.0 second.1.0))

-- the events that an action sets are a mask of 32 bits
abbrev pub FitsAction : Action → Type 0
FitsAction action.Nothing = Unit {0}
FitsAction action.Tick = Unit {0}
FitsAction (action.Activate task) = Unit {0}
FitsAction (action.Event task mask) = IsWord mask

abbrev FitsTaskAction : TaskAction → Type 0
FitsTaskAction a = FitsAction (action_of a)

activate_fits : (words : List (List ℕ)) (a : TaskAction) → activate_in words ≡ Ok a → FitsTaskAction a
activate_fits [] a e = cc e
activate_fits (task ∷ []) a e =
    let first = bound (number_in task) (λ t. Ok (Activate t)) a e in
    let same : Activate first.0 ≡ a = cc first.1.1 in
    subst FitsTaskAction same tt
activate_fits (task ∷ other ∷ rest) a e = cc e

event_fits : (words : List (List ℕ)) (a : TaskAction) → event_in words ≡ Ok a → FitsTaskAction a
event_fits [] a e = cc e
event_fits (task ∷ []) a e = cc e
event_fits (task ∷ mask ∷ []) a e =
    let first = bound (number_in task) (λ t. number_in mask >>= (λ m. Ok (Event t m))) a e in
    let second = bound (number_in mask) (λ m. Ok (Event first.0 m)) a first.1.1 in
    let same : Event first.0 second.0 ≡ a = cc second.1.1 in
    subst FitsTaskAction same (number_word mask second.0 second.1.0)
event_fits (task ∷ mask ∷ other ∷ rest) a e = cc e

action_fits : (words : List (List ℕ)) (a : TaskAction) → action_in words ≡ Ok a → FitsTaskAction a
action_fits [] a e = cc e
action_fits (first ∷ words) a e =
    when (bytes_eq first (codes "activate")) (activate_in words) (if bytes_eq first (codes "event") then event_in words else Err Form) a e (FitsTaskAction a)
    (λ _ same. activate_fits words a same)
    (λ _ rest. when (bytes_eq first (codes "event")) (event_in words) (Err Form) a rest (FitsTaskAction a)
    (λ _ same. event_fits words a same) (λ _ none. cc none))

alarm_line : ℕ → TaskAction → AlarmLine
alarm_line n a = record { number = n; action = a }

alarm_line_fits : (words : List (List ℕ)) (l : AlarmLine) → alarm_in words ≡ Ok l → FitsTaskAction l.action
unfolding alarm_line
alarm_line_fits [] l e = cc e
alarm_line_fits (number ∷ words) l e =
    let first = bound (action_in words) (λ a. number_in number >>= (λ n. Ok (alarm_line n a))) l e in
    let second = bound (number_in number) (λ n. Ok (alarm_line n first.0)) l first.1.1 in
    let same : alarm_line second.0 first.0 ≡ l = cc second.1.1 in
    subst (λ (x : AlarmLine). FitsTaskAction x.action) same (action_fits words first.0 first.1.0)

-- the action of a line
abbrev FitsLineAction : LineAction → Type 0
FitsLineAction a = FitsAction (line_action_of a)

line_action_fits : (words : List (List ℕ)) (a : LineAction) → line_action_in words ≡ Ok a → FitsLineAction a
line_action_fits words a e = go (is_tick words) e
  where
    go : (tick : Bool) → (if tick then Ok Tick else (action_in words >>= (λ x. Ok (OfTask x)))) ≡ Ok a → FitsLineAction a
    go true same = let is : Tick ≡ a = cc same in subst FitsLineAction is tt
    go false same =
        let first = bound (action_in words) (λ x. Ok (OfTask x)) a same in
        let is : OfTask first.0 ≡ a = cc first.1.1 in
        subst FitsLineAction is (action_fits words first.0 first.1.0)

line_line : ℕ → LineAction → LineLine
line_line n a = record { number = n; action = a }

line_line_fits : (words : List (List ℕ)) (l : LineLine) → line_in words ≡ Ok l → FitsLineAction l.action
unfolding line_line
line_line_fits [] l e = cc e
line_line_fits (number ∷ words) l e =
    let first = bound (line_action_in words) (λ a. number_in number >>= (λ n. Ok (line_line n a))) l e in
    let second = bound (number_in number) (λ n. Ok (line_line n first.0)) l first.1.1 in
    let same : line_line second.0 first.0 ≡ l = cc second.1.1 in
    subst (λ (x : LineLine). FitsLineAction x.action) same (line_action_fits words first.0 first.1.0)

data_line : ℕ → ℕ → List ℕ → DataLine
data_line n offset words = record { number = n; offset = offset; words = words }

data_said : (n offset : ℕ) (words : List ℕ) (l : DataLine) → data_line n offset words ≡ l → All IsWord words → All IsWord l.words
unfolding data_line
data_said n offset words l is each = subst (λ (x : DataLine). All IsWord x.words) is each

data_words : (words : List (List ℕ)) (l : DataLine) → data_in words ≡ Ok l → All IsWord l.words
unfolding data_line
data_words [] l e = cc e
data_words (number ∷ []) l e = cc e
data_words (number ∷ offset ∷ []) l e = cc e
data_words (number ∷ offset ∷ token ∷ rest) l e =
    let first = bound (number_in number) (λ n. number_in offset >>= (λ o. all_in word_in (token ∷ rest) >>= (λ ws. Ok (data_line n o ws)))) l e in
    let second = bound (number_in offset) (λ o. all_in word_in (token ∷ rest) >>= (λ ws. Ok (data_line first.0 o ws))) l first.1.1 in
    let third = bound (all_in word_in (token ∷ rest)) (λ ws. Ok (data_line first.0 second.0 ws)) l second.1.1 in
    data_said first.0 second.0 third.0 l (cc third.1.1) (all_words (token ∷ rest) third.0 third.1.0)

-- what the lines so far have made
abbrev pub LoadFits : Load → Type 0
LoadFits load = All IsWord load.words

pub record FitsSoFar (d : Draft) : Type 0 where
  pub lines : All FitsAction d.spec.lines
  pub alarms : All FitsAction d.spec.alarms
  pub loads : All LoadFits d.loads

-- a draft with other loads
with_loads : (d : Draft) (loads : List Load) → All LoadFits loads → FitsSoFar d → FitsSoFar (record d { loads = loads })
with_loads d loads each so = record { lines = so.lines; alarms = so.alarms; loads = each }

-- a draft with the same actions and loads
same_draft : (d next made : Draft) → made ≡ next → made.spec.lines ≡ d.spec.lines → made.spec.alarms ≡ d.spec.alarms → made.loads ≡ d.loads → FitsSoFar d →
    FitsSoFar next
same_draft d next made is lines alarms loads so = subst FitsSoFar is (record {
  lines = subst (All FitsAction) (sym lines) so.lines;
  alarms = subst (All FitsAction) (sym alarms) so.alarms;
  loads = subst (All LoadFits) (sym loads) so.loads;
})

task_fits : (d : Draft) (t : TaskLine) (next : Draft) → new_task d t ≡ Ok next → FitsSoFar d → FitsSoFar next
task_fits d t next e so =
    let p = passed (nat_lt (length d.spec.tasks) t.number || is_off_range t) (nat_lt t.number (length d.spec.tasks) || is_taken t.priority d.spec.tasks) (t.number == 16) (with_task d t) next e in
    let zero_word : 0 < 2 ^ 32 = omega arith in
    subst FitsSoFar p.is (record {
      lines = so.lines;
      alarms = so.alarms;
      loads = All-push LoadFits d.loads _ so.loads (All-replicate IsWord t.words 0 zero_word);
    })

-- a load at a place is one of the list's
load_at : (loads : List Load) (n : ℕ) → All LoadFits loads → (old : Load) → slice_get loads n ≡ Some old → LoadFits old
load_at loads n each old e = subst LoadFits (get_or_from_slice_get loads n old old e) (each n old (slice_get_within loads n old e))

text_fits : (d : Draft) (t : TextLine) (next : Draft) → new_text d t ≡ Ok next → FitsSoFar d → FitsSoFar next
text_fits d t next e so =
    let outer = bound (with_text d.loads t) (λ loads. Ok (record d { loads = loads })) next e in
    let inner = bound (more_text t.words (slice_get d.loads t.number)) (λ load. Ok (set d.loads t.number load)) outer.0 outer.1.0 in
    let kept : LoadFits inner.0 = more (slice_get d.loads t.number) inner.0 inner.1.0 (λ old is. load_at d.loads t.number so.loads old is) in
    let there : set d.loads t.number inner.0 ≡ outer.0 = cc inner.1.1 in
    let same : record d { loads = outer.0 } ≡ next = cc outer.1.1 in
    subst FitsSoFar same (with_loads d outer.0 (subst (All LoadFits) there (All-set LoadFits d.loads t.number inner.0 kept so.loads)) so)
  where
    more : (o : Option Load) (load : Load) → more_text t.words o ≡ Ok load → ((old : Load) → o ≡ Some old → LoadFits old) → LoadFits load
    more None load e old = cc e
    more (Some l) load e old =
        let p = passed false false (nat_lt 16384 (length l.text + length t.words)) (record l { text = l.text ++ t.words }) load e in
        subst LoadFits p.is (old l refl)

data_fits : (d : Draft) (t : DataLine) (next : Draft) → All IsWord t.words → new_data_words d t ≡ Ok next → FitsSoFar d → FitsSoFar next
data_fits d t next words e so =
    let outer = bound (with_data d.loads t) (λ loads. Ok (record d { loads = loads })) next e in
    let inner = bound (new_data t.offset t.words (slice_get d.loads t.number)) (λ load. Ok (set d.loads t.number load)) outer.0 outer.1.0 in
    let kept : LoadFits inner.0 = more (slice_get d.loads t.number) inner.0 inner.1.0 (λ old is. load_at d.loads t.number so.loads old is) in
    let there : set d.loads t.number inner.0 ≡ outer.0 = cc inner.1.1 in
    let same : record d { loads = outer.0 } ≡ next = cc outer.1.1 in
    subst FitsSoFar same (with_loads d outer.0 (subst (All LoadFits) there (All-set LoadFits d.loads t.number inner.0 kept so.loads)) so)
  where
    more : (o : Option Load) (load : Load) → new_data t.offset t.words o ≡ Ok load → ((old : Load) → o ≡ Some old → LoadFits old) → LoadFits load
    more None load e old = cc e
    more (Some l) load e old =
        let p = passed (nat_lt (length l.words) (t.offset + length t.words)) false false (record l { words = written l.words t.offset t.words }) load e in
        subst LoadFits p.is
        (All-append IsWord (take t.offset l.words ++ t.words) (drop (t.offset + length t.words) l.words)
        (All-append IsWord (take t.offset l.words) t.words (All-take IsWord t.offset l.words (old l refl)) words)
        (All-drop IsWord (t.offset + length t.words) l.words (old l refl)))

resource_fits : (d : Draft) (r : ResourceLine) (next : Draft) → new_resource d r ≡ Ok next → FitsSoFar d → FitsSoFar next
resource_fits d r next e so =
    let p = passed (nat_lt (length d.spec.users) r.number || list_any (is_no_task d.spec.tasks) r.users) (nat_lt r.number (length d.spec.users) || has_twice r.users) (r.number == 16) (record d { spec = record d.spec { users = d.spec.users ++ mask_of r.users ∷ [] } }) next e in
    same_draft d next _ p.is refl refl refl so

alarm_fits : (d : Draft) (a : AlarmLine) (next : Draft) → FitsTaskAction a.action → new_alarm d a ≡ Ok next → FitsSoFar d → FitsSoFar next
alarm_fits d a next fits e so =
    let p = passed (nat_lt (length d.spec.alarms) a.number || is_no_task d.spec.tasks (task_of a.action)) (nat_lt a.number (length d.spec.alarms)) (a.number == 16) (record d { spec = record d.spec { alarms = d.spec.alarms ++ action_of a.action ∷ [] } }) next e in
    subst FitsSoFar p.is (record { lines = so.lines; alarms = All-push FitsAction d.spec.alarms (action_of a.action) so.alarms fits; loads = so.loads })

box_fits : (d : Draft) (b : BoxLine) (next : Draft) → new_box d b ≡ Ok next → FitsSoFar d → FitsSoFar next
box_fits d b next e so =
    let p = passed (nat_lt (length d.spec.boxes) b.number || b.capacity == 0 || nat_lt 64 b.capacity) (nat_lt b.number (length d.spec.boxes)) (b.number == 16) (record d { spec = record d.spec { boxes = d.spec.boxes ++ b.capacity ∷ [] } }) next e in
    same_draft d next _ p.is refl refl refl so

line_line_keeps : (d : Draft) (l : LineLine) (next : Draft) → FitsLineAction l.action → new_line d l ≡ Ok next → FitsSoFar d → FitsSoFar next
line_line_keeps d l next fits e so =
    let p = passed (nat_lt 15 l.number || names_no_task d.spec.tasks l.action) (is_given (unwrap_or (slice_get d.spec.lines l.number) action.Nothing)) false (record d { spec = record d.spec { lines = set d.spec.lines l.number (line_action_of l.action) } }) next e in
    subst FitsSoFar p.is (record { lines = All-set FitsAction d.spec.lines l.number (line_action_of l.action) fits so.lines; alarms = so.alarms; loads = so.loads })

ring_fits : (d : Draft) (r : RingLine) (next : Draft) → new_ring d r ≡ Ok next → FitsSoFar d → FitsSoFar next
ring_fits d r next e so =
    let p = passed (r.capacity == 0 || nat_lt (most_of r.ring) r.capacity) (is_some (ring_of d.rings r.ring)) false (record d { rings = with_ring d.rings r.ring r.capacity }) next e in
    same_draft d next _ p.is refl refl refl so

words_fit : (d : Draft) (keyword : Keyword) (words : List (List ℕ)) (next : Draft) → words_on d keyword words ≡ Ok next → FitsSoFar d → FitsSoFar next
words_fit d Task words next e so = let said = bound (task_in words) (new_task d) next e in task_fits d said.0 next said.1.1 so
words_fit d Text words next e so = let said = bound (text_in words) (new_text d) next e in text_fits d said.0 next said.1.1 so
words_fit d Data words next e so =
    let said = bound (data_in words) (new_data_words d) next e in data_fits d said.0 next (data_words words said.0 said.1.0) said.1.1 so
words_fit d Resource words next e so = let said = bound (resource_in words) (new_resource d) next e in resource_fits d said.0 next said.1.1 so
words_fit d Alarm words next e so =
    let said = bound (alarm_in words) (new_alarm d) next e in alarm_fits d said.0 next (alarm_line_fits words said.0 said.1.0) said.1.1 so
words_fit d Box words next e so = let said = bound (box_in words) (new_box d) next e in box_fits d said.0 next said.1.1 so
words_fit d Line words next e so =
    let said = bound (line_in words) (new_line d) next e in line_line_keeps d said.0 next (line_line_fits words said.0 said.1.0) said.1.1 so
words_fit d Ring words next e so = let said = bound (ring_in words) (new_ring d) next e in ring_fits d said.0 next said.1.1 so

line_keeps : (d : Draft) (found : List (List ℕ)) (next : Draft) → image_line d found ≡ Ok next → FitsSoFar d → FitsSoFar next
line_keeps d [] next e so = cc e
line_keeps d (first ∷ words) next e so =
    let keyword = bound (keyword_in first) (λ keyword. words_on d keyword words) next e in
    words_fit d keyword.0 words next keyword.1.1 so

none_so_far : (s : Set) → FitsSoFar (empty_draft s)
none_so_far s = record { lines = All-replicate FitsAction 16 action.Nothing tt; alarms = All-nil FitsAction; loads = All-nil LoadFits }

-- what every image keeps
pub draft_fits : (bytes : List ℕ) (d : Draft) → draft_of bytes ≡ Ok d → FitsSoFar d
unfolding draft_of
draft_fits bytes d e =
    let body = bound (below (pieces bytes)) (λ (body : Set × Below). lines_on image_line body.1.0 (empty_draft body.0) body.1.1 >>= (λ (last : ℕ × Draft). on_line last.0 (whole last.1))) d e in
    let last = bound (lines_on image_line body.0.1.0 (empty_draft body.0.0) body.0.1.1) (λ (last : ℕ × Draft). on_line last.0 (whole last.1)) d body.1.1 in
    let so : FitsSoFar last.0.1 = lines_keep FitsSoFar image_line line_keeps body.0.1.0 body.0.1.1 (empty_draft body.0.0) last.0 last.1.0 (none_so_far body.0.0) in
    let is = whole_passed (length last.0.1.loads == 0 || list_any has_no_text last.0.1.loads) (list_any is_outside last.0.1.loads) last.0.1 d (on_line_gave last.0.0 (whole last.0.1) d last.1.1) in
    subst FitsSoFar is.2 so
