-- The lines of a text make one draft of another: how such lines are put together, and what each line makes.
use Rattle.std.proofs.Common.{◌≡◌, ◌≢◌, ℕ, suc, ◌+◌, ◌-◌, ◌*◌, ◌%◌, ◌^◌, ◌<◌, ◌≤◌, Bool, true, false, ◌&&◌, ◌||◌, not, ◌==◌, nat_lt, nat_le, List, [], ◌∷◌, ◌++◌, length, map, replicate, set, slice_get, codes, decimal, flat_map, is_some, if◌then◌else◌, Option, Some, None, unwrap_or, Result, Ok, Err, refl, ap, ap₂, sym, ◌∙◌, subst, All, append_assoc, arith, tests}
use Rattle.std.specs.List.{list_any, list_all}
use Rattle.std.proofs.Math.Nat.{pow-le-pow_right}
use Rattle.std.proofs.lemmas.Bool.{eqb-true}
use Rattle.std.proofs.lemmas.List.{nil_from_length}
use Rattle.std.proofs.lemmas.List.Elements.{All-weaker}
use Rattle.tm_kernel.specs.declared.spec.Action.{Action}
use Rattle.tm_kernel.specs.declared.spec.Action.TheVariants.{Nothing, Tick, Activate, Event}
use Rattle.tm_kernel.specs.declared.spec.TaskSpec.{TaskSpec}
use Rattle.tm_kernel.specs.Spec.{IsAlarmAction, IsLineAction}
use Rattle.tm_lines.specs.declared.fault.Reason.{Reason}
use Rattle.tm_lines.specs.declared.fault.Fault.{Fault}
use Rattle.tm_lines.specs.Steps.{◌>>=◌, on_line, tested}
use Rattle.tm_lines.specs.Lines.{pieces, is_skipped, said, go_on, step, lines_on}
use Rattle.tm_lines.specs.Numbers.{number_in, word_in, all_in}
use Rattle.tm_spelling.specs.Lines.{hex8}
use Rattle.tm_image.specs.Said.{kind_in, start_in, task_in, text_in, data_in, resource_in, action_in, alarm_in, box_in, line_action_in, line_in, ring_name_in, ring_in}
use Rattle.tm_image.specs.Load.{Load, more_text, with_text, new_data, with_data, written}
use Rattle.tm_image.specs.Draft.{Draft, is_taken, is_off_range, with_task, new_task, new_text, new_data_words, is_no_task, has_twice, mask_of, new_resource, task_of, action_of, new_alarm, new_box, names_no_task, line_action_of, is_given, new_line, most_of, ring_of, with_ring, new_ring, image_line}
use Rattle.tm_image_text.specs.Lines.{spaced, line_of, kind_name, start_name, task_line, text_line, used, data_line, users_of, resource_line, action_tokens, alarm_line, box_line, action_line, ring_line}
use Rattle.tm_image_text.specs.Numbers.{IsWord, IsNarrow}
use Rattle.tm_image_text.proofs.Tokens.{is_word, row, piece_line, plain_row, said_row}
use Rattle.tm_image_text.proofs.Spelled.{decimal_read, words_read, numbers_read, decimal_word, are_words, are_numbers}
use Rattle.tm_image_text.proofs.Users.{mask_back, some_user, users_small, none_over, users_once}
use Rattle.tm_image_text.proofs.Used.{used_fits, used_are}

-- after the text's lines the second draft stands for the first, whatever comes behind
pub record Makes (text : List ℕ) (before after : Draft) : Type 0 where
  pub goes : (number : ℕ) (rest : List ℕ) → (last : ℕ) × (lines_on image_line number before (pieces (text ++ rest)) ≡ lines_on image_line last after (pieces rest))

pub makes_none : (d : Draft) → Makes [] d d
makes_none d = record { goes = λ number rest. (number, refl) }

pub makes_both : (a b : List ℕ) (d e f : Draft) → Makes a d e → Makes b e f → Makes (a ++ b) d f
makes_both a b d e f first second = record {
  goes = λ number rest.
      let one = first.goes number (b ++ rest) in
      let two = second.goes one.0 rest in
      (two.0, ap (λ text. lines_on image_line number d (pieces text)) (append_assoc a b rest) ∙ one.1 ∙ two.1);
}

-- one line, which is no note
makes_line : (first : List ℕ) (others : List (List ℕ)) (d e : Draft) → list_all is_word (first ∷ others) ≡ true → is_skipped (row first others) ≡ false →
    image_line d (first ∷ others) ≡ Ok e → Makes (line_of first others) d e
makes_line first others d e words told made = record {
  goes = λ number rest. (
    number + 1,
    ap (lines_on image_line number d) (piece_line (row first others) rest (plain_row first others words))
        ∙ ap (λ (r : Result (List (List ℕ)) Reason). on_line number (r >>= go_on image_line d) >>= (λ after. lines_on image_line (number + 1) after (pieces rest)))
        (said_row first others words told)
        ∙ ap (λ (r : Result Draft Reason). on_line number r >>= (λ after. lines_on image_line (number + 1) after (pieces rest))) made,
  );
}

-- a line that passes the last three tests
passes : {A : Type 0} (out again over : Bool) (made : A) → out ≡ false → again ≡ false → over ≡ false → tested out again over made ≡ Ok made
passes false false false made o a v = refl
passes false false true made o a v = cc v
passes false true over made o a v = cc a
passes true again over made o a v = cc o

neither : (a b : Bool) → a ≡ false → b ≡ false → (a || b) ≡ false
neither false b e f = f
neither true b e f = cc e

all_of : (a b : Bool) → a ≡ true → b ≡ true → (a && b) ≡ true
all_of true b e f = f
all_of false b e f = cc e

-- ---- tasks
kind_read : (extended : Bool) → kind_in (kind_name extended) ≡ Ok extended
kind_read true = refl
kind_read false = refl

kind_word : (extended : Bool) → is_word (kind_name extended) ≡ true
kind_word true = refl
kind_word false = refl

start_read : (auto : Bool) → start_in (start_name auto) ≡ Ok auto
start_read true = refl
start_read false = refl

start_word : (auto : Bool) → is_word (start_name auto) ≡ true
start_word true = refl
start_word false = refl

task_said : (k s : Bool) (n p e w : ℕ) → IsWord n → IsWord p → IsWord e → IsWord w →
    task_in (decimal n ∷ kind_name k ∷ decimal p ∷ start_name s ∷ decimal e ∷ decimal w ∷ [])
    ≡ Ok (record { number = n; extended = k; priority = p; auto = s; entry = e; words = w })
task_said k s n p e w hn hp he hw =
    rw (kind_read k, start_read s, decimal_read n hn, decimal_read p hp, decimal_read e he, decimal_read w hw) refl

task_words : (k s : Bool) (n p e w : ℕ) → IsWord n → IsWord p → IsWord e → IsWord w →
    list_all is_word (codes "task" ∷ decimal n ∷ kind_name k ∷ decimal p ∷ start_name s ∷ decimal e ∷ decimal w ∷ []) ≡ true
task_words k s n p e w hn hp he hw =
    rw (decimal_word n hn, kind_word k, decimal_word p hp, start_word s, decimal_word e he, decimal_word w hw) refl

off_range : (k s : Bool) (n p e w : ℕ) → 0 < p → p < 256 → e % 4 ≡ 0 → 0 < w → w ≤ 16384 →
    is_off_range (record { number = n; extended = k; priority = p; auto = s; entry = e; words = w }) ≡ false
off_range k s n p e w some small aligned words few = grind (arith, tests)

pub task_made : (d : Draft) (n : ℕ) (task : TaskSpec) (entry words : ℕ) → n ≡ length d.spec.tasks → n < 16 →
    0 < task.priority → task.priority < 256 → is_taken task.priority d.spec.tasks ≡ false →
    IsWord entry → entry % 4 ≡ 0 → 0 < words → words ≤ 16384 →
    Makes (task_line n task entry words) d (record d {
      spec = record d.spec { tasks = d.spec.tasks ++ task ∷ [] };
      loads = d.loads ++ record { entry = entry; text = []; set = d.set; words = replicate words 0 } ∷ [];
    })
unfolding task_line
task_made d n task entry words next few some small fresh narrow aligned one most =
    makes_line (codes "task")
    (decimal n ∷ kind_name task.extended ∷ decimal task.priority ∷ start_name task.auto ∷ decimal entry ∷ decimal words ∷ []) d _
    (task_words task.extended task.auto n task.priority entry words (omega arith) (omega arith) narrow (omega arith))
    refl
    (rw (task_said task.extended task.auto n task.priority entry words (omega arith) (omega arith) narrow (omega arith))
    (passes _ _ _ _
    (neither (nat_lt (length d.spec.tasks) n) _ (grind (arith, tests)) (off_range task.extended task.auto n task.priority entry words some small aligned one most))
    (neither (nat_lt n (length d.spec.tasks)) (is_taken task.priority d.spec.tasks) (grind (arith, tests)) fresh)
    (grind (arith, tests))))

-- ---- the words of a task
-- what a line is made of that has at least one word behind its numbers
text_said : (n : ℕ) (words : List ℕ) → IsWord n → 0 < length words → All IsWord words → text_in (decimal n ∷ map hex8 words) ≡ Ok (record { number = n; words = words })
text_said n [] hn some each = absurd (omega arith)
text_said n (word ∷ words) hn some each = rw (decimal_read n hn, words_read (word ∷ words) each) refl

data_said : (n : ℕ) (words : List ℕ) → IsWord n → 0 < length words → All IsWord words →
    data_in (decimal n ∷ codes "0" ∷ map hex8 words) ≡ Ok (record { number = n; offset = 0; words = words })
unfolding number_in
data_said n [] hn some each = absurd (omega arith)
data_said n (word ∷ words) hn some each = rw (decimal_read n hn, words_read (word ∷ words) each) refl

pub text_made : (d : Draft) (n : ℕ) (load : Load) (words : List ℕ) → slice_get d.loads n ≡ Some load → IsWord n →
    0 < length words → length load.text + length words ≤ 16384 → All IsWord words →
    Makes (text_line n words) d (record d { loads = set d.loads n (record load { text = load.text ++ words }) })
unfolding text_line
text_made d n load words there hn some few each =
    makes_line (codes "text") (decimal n ∷ map hex8 words) d _
    (rw (decimal_word n hn) (are_words words)) refl
    (rw (text_said n words hn some each, there)
    (ap (λ (r : Result Load Reason). (r >>= (λ l. Ok (set d.loads n l))) >>= (λ loads. Ok (record d { loads = loads })))
    (passes false false (nat_lt 16384 (length load.text + length words)) (record load { text = load.text ++ words }) refl refl (grind (arith, tests)))))

pub data_made : (d : Draft) (n : ℕ) (load : Load) (words : List ℕ) → slice_get d.loads n ≡ Some load → IsWord n →
    length words ≤ length load.words → All IsWord words → set d.loads n load ≡ d.loads →
    Makes (data_line n words) d (record d { loads = set d.loads n (record load { words = written load.words 0 (used words) }) })
unfolding data_line
data_made d n load words there hn few each same = go (length (used words) == 0) refl
  where
    go : (is : Bool) → (length (used words) == 0) ≡ is →
        Makes (if is then [] else line_of (codes "data") (decimal n ∷ codes "0" ∷ map hex8 (used words))) d
        (record d { loads = set d.loads n (record load { words = written load.words 0 (used words) }) })
    go true e =
        let none : used words ≡ [] = nil_from_length (used words) (eqb-true _ _ e) in
        let kept : written load.words 0 (used words) ≡ load.words = rw none refl in
        let stays : set d.loads n (record load { words = written load.words 0 (used words) }) ≡ d.loads = rw kept same in
        subst (λ (loads : List Load). Makes [] d (record d { loads = loads })) (sym stays) (makes_none d)
    go false e =
        makes_line (codes "data") (decimal n ∷ codes "0" ∷ map hex8 (used words)) d _
        (rw (decimal_word n hn) (are_words (used words))) refl
        (rw (data_said n (used words) hn (grind (arith, tests, e)) (used_are IsWord words each), there)
        (ap (λ (r : Result Load Reason). (r >>= (λ l. Ok (set d.loads n l))) >>= (λ loads. Ok (record d { loads = loads })))
        (passes (nat_lt (length load.words) (0 + length (used words))) false false (record load { words = written load.words 0 (used words) })
        (grind (arith, tests, used_fits words)) refl refl)))

-- ---- resources
resource_said : (n : ℕ) (users : List ℕ) → IsWord n → 0 < length users → All IsWord users →
    resource_in (decimal n ∷ map decimal users) ≡ Ok (record { number = n; users = users })
resource_said n [] hn some each = absurd (omega arith)
resource_said n (user ∷ users) hn some each = rw (decimal_read n hn, numbers_read (user ∷ users) each) refl

pub resource_made : (d : Draft) (n mask : ℕ) → n ≡ length d.spec.users → n < 16 → length d.spec.tasks ≤ 16 → 0 < mask → mask < 2 ^ length d.spec.tasks →
    Makes (resource_line n mask) d (record d { spec = record d.spec { users = d.spec.users ++ mask ∷ [] } })
unfolding resource_line
resource_made d n mask next few tasks some small =
    let positive : 0 < 2 = omega arith in
    let most : 2 ^ length d.spec.tasks ≤ 2 ^ 16 = pow-le-pow_right positive tasks in
    let narrow : mask < 2 ^ 16 = omega arith in
    let words : All IsWord (users_of mask) = All-weaker (λ user. user < 16) IsWord (λ user h. omega (arith, h)) (users_of mask) (users_small mask) in
    makes_line (codes "resource") (decimal n ∷ map decimal (users_of mask)) d _
    (rw (decimal_word n (omega arith)) (are_numbers (users_of mask) words)) refl
    (rw (resource_said n (users_of mask) (omega arith) (some_user mask narrow some) words, mask_back mask narrow)
    (passes _ _ _ (record d { spec = record d.spec { users = d.spec.users ++ mask ∷ [] } })
    (neither (nat_lt (length d.spec.users) n) (list_any (λ user. nat_le (length d.spec.tasks) user) (users_of mask)) (grind (arith, tests)) (none_over (length d.spec.tasks) mask small))
    (neither (nat_lt n (length d.spec.users)) (has_twice (users_of mask)) (grind (arith, tests)) (users_once mask))
    (grind (arith, tests))))

-- ---- actions
activate_words : (t : ℕ) → IsWord t → list_all is_word (codes "activate" ∷ decimal t ∷ []) ≡ true
activate_words t h = rw (decimal_word t h) refl

event_words : (t mask : ℕ) → IsWord t → IsWord mask → list_all is_word (codes "event" ∷ decimal t ∷ decimal mask ∷ []) ≡ true
event_words t mask h narrow = rw (decimal_word t h, decimal_word mask narrow) refl

-- ---- alarms
-- a line that is tested so
alarm_of : (d : Draft) (n : ℕ) (tokens : List (List ℕ)) (task : ℕ) (a : Action) → n ≡ length d.spec.alarms → n < 16 →
    (alarm_in (decimal n ∷ tokens) >>= new_alarm d) ≡ tested
    (nat_lt (length d.spec.alarms) n || nat_le (length d.spec.tasks) task) (nat_lt n (length d.spec.alarms)) (n == 16)
    (record d { spec = record d.spec { alarms = d.spec.alarms ++ a ∷ [] } }) →
    list_all is_word tokens ≡ true → task < length d.spec.tasks →
    Makes (line_of (codes "alarm") (decimal n ∷ tokens)) d (record d { spec = record d.spec { alarms = d.spec.alarms ++ a ∷ [] } })
alarm_of d n tokens task a next few is words there =
    makes_line (codes "alarm") (decimal n ∷ tokens) d _
    (rw (decimal_word n (omega arith)) words) refl
    (is
    ∙ passes _ _ _ (record d { spec = record d.spec { alarms = d.spec.alarms ++ a ∷ [] } })
    (neither (nat_lt (length d.spec.alarms) n) (nat_le (length d.spec.tasks) task) (grind (arith, tests)) (grind (arith, tests)))
    (grind (arith, tests)) (grind (arith, tests)))

pub alarm_made : (d : Draft) (n : ℕ) (a : Action) → n ≡ length d.spec.alarms → n < 16 → length d.spec.tasks ≤ 16 →
    IsAlarmAction (length d.spec.tasks) a → IsNarrow a →
    Makes (alarm_line n a) d (record d { spec = record d.spec { alarms = d.spec.alarms ++ a ∷ [] } })
unfolding alarm_line
alarm_made d n Nothing next few tasks is narrow = absurd is
alarm_made d n Tick next few tasks is narrow = absurd is
alarm_made d n (Activate t) next few tasks is narrow =
    alarm_of d n (action_tokens (Activate t)) t (Activate t) next few (rw (decimal_read t (omega arith), decimal_read n (omega arith)) refl)
    (activate_words t (omega arith)) is
alarm_made d n (Event t mask) next few tasks is narrow =
    alarm_of d n (action_tokens (Event t mask)) t (Event t mask) next few
    (rw (decimal_read t (omega arith), decimal_read mask narrow, decimal_read n (omega arith)) refl)
    (event_words t mask (omega arith) narrow) is

-- ---- boxes
box_said : (n c : ℕ) → IsWord n → IsWord c → box_in (decimal n ∷ decimal c ∷ []) ≡ Ok (record { number = n; capacity = c })
box_said n c hn hc = rw (decimal_read n hn, decimal_read c hc) refl

pub box_made : (d : Draft) (n capacity : ℕ) → n ≡ length d.spec.boxes → n < 16 → 0 < capacity → capacity ≤ 64 →
    Makes (box_line n capacity) d (record d { spec = record d.spec { boxes = d.spec.boxes ++ capacity ∷ [] } })
unfolding box_line
box_made d n capacity next few some most =
    makes_line (codes "box") (decimal n ∷ decimal capacity ∷ []) d _
    (rw (decimal_word n (omega arith), decimal_word capacity (omega arith)) refl) refl
    (rw (box_said n capacity (omega arith) (omega arith))
    (passes _ _ _ (record d { spec = record d.spec { boxes = d.spec.boxes ++ capacity ∷ [] } })
    (grind (arith, tests)) (grind (arith, tests)) (grind (arith, tests))))

-- ---- lines
-- a line that is tested so
line_of_action : (d : Draft) (n : ℕ) (tokens : List (List ℕ)) (no_task : Bool) (a : Action) → n < 16 →
    (line_in (decimal n ∷ tokens) >>= new_line d) ≡ tested
    (nat_le 16 n || no_task) (is_given (unwrap_or (slice_get d.spec.lines n) Nothing)) false
    (record d { spec = record d.spec { lines = set d.spec.lines n a } }) →
    list_all is_word tokens ≡ true → no_task ≡ false → slice_get d.spec.lines n ≡ Some Nothing →
    Makes (line_of (codes "line") (decimal n ∷ tokens)) d (record d { spec = record d.spec { lines = set d.spec.lines n a } })
line_of_action d n tokens no_task a few is words there free =
    makes_line (codes "line") (decimal n ∷ tokens) d _
    (rw (decimal_word n (omega arith)) words) refl
    (is
    ∙ passes _ _ _ (record d { spec = record d.spec { lines = set d.spec.lines n a } })
    (neither (nat_le 16 n) no_task (grind (arith, tests)) there) (rw free refl) refl)

pub line_made : (d : Draft) (n : ℕ) (a : Action) → n < 16 → length d.spec.tasks ≤ 16 → slice_get d.spec.lines n ≡ Some Nothing →
    set d.spec.lines n Nothing ≡ d.spec.lines → IsLineAction (length d.spec.tasks) a → IsNarrow a →
    Makes (action_line n a) d (record d { spec = record d.spec { lines = set d.spec.lines n a } })
unfolding action_line
line_made d n Nothing few tasks free same is narrow =
    subst (λ (lines : List Action). Makes [] d (record d { spec = record d.spec { lines = lines } })) (sym same) (makes_none d)
line_made d n Tick few tasks free same is narrow =
    line_of_action d n (action_tokens Tick) false Tick few (rw (decimal_read n (omega arith)) refl) refl refl free
line_made d n (Activate t) few tasks free same is narrow =
    line_of_action d n (action_tokens (Activate t)) (nat_le (length d.spec.tasks) t) (Activate t) few
    (rw (decimal_read t (omega arith), decimal_read n (omega arith)) refl) (activate_words t (omega arith)) (grind (arith, tests)) free
line_made d n (Event t mask) few tasks free same is narrow =
    line_of_action d n (action_tokens (Event t mask)) (nat_le (length d.spec.tasks) t) (Event t mask) few
    (rw (decimal_read t (omega arith), decimal_read mask narrow, decimal_read n (omega arith)) refl)
    (event_words t mask (omega arith) narrow) (grind (arith, tests)) free

-- ---- rings
-- a line that is tested so
pub ring_made : (d e : Draft) (name : List ℕ) (n most : ℕ) → is_word name ≡ true → 0 < n → n ≤ most → most ≤ 65536 →
    (IsWord n → (ring_in (name ∷ decimal n ∷ []) >>= new_ring d) ≡ tested (n == 0 || nat_lt most n) false false e) →
    Makes (ring_line name n) d e
unfolding ring_line
ring_made d e name n most word some few limit is =
    let narrow : IsWord n = omega arith in
    makes_line (codes "ring") (name ∷ decimal n ∷ []) d e
    (rw (word, decimal_word n narrow) refl) refl
    (is narrow ∙ passes _ _ _ e (neither (n == 0) (nat_lt most n) (grind (arith, tests)) (grind (arith, tests))) refl refl)
