-- The numbers of an image that was read have 32 bits.
use Rattle.std.proofs.Common.{◌≡◌, ℕ, ◌+◌, ◌-◌, ◌*◌, ◌<◌, ◌≤◌, ◌^◌, Bool, true, false, ◌&&◌, ◌||◌, nat_lt, nat_le, ◌==◌, if◌then◌else◌, List, [], ◌∷◌, ◌++◌, All, length, refl, sym, subst, arith, Option, Some, None, Result, Ok, Err, slice_get, set, unwrap_or}
use Rattle.std.specs.Prelude.{codes, is_some}
use Rattle.std.specs.List.{list_any, AllByRecursion}
use Rattle.std.specs.Str.{bytes_eq}
use Rattle.std.proofs.lemmas.Bool.Decides.{nat_tests}
use Rattle.std.proofs.lemmas.Grind.{pow_more}
use Rattle.std.proofs.Math.Nat.{pow-le-pow_right}
use Rattle.std.proofs.lemmas.List.Elements.{All-nil, All-cons, All-append, All-push, All-set, All-weaker}
use Rattle.std.proofs.lemmas.Option.{slice_get_within, get_or_from_slice_get}
use Rattle.tm_kernel.specs.declared.spec.Action.{Action}
use Rattle.tm_kernel.specs.declared.spec.Action.TheVariants as action
use Rattle.tm_lines.specs.declared.fault.Reason.{Reason}
use Rattle.tm_lines.specs.declared.fault.Reason.TheVariants.{Number, Form}
use Rattle.tm_lines.specs.Steps.{◌>>=◌, on_line}
use Rattle.tm_rv.specs.declared.instr.Set.{Set}
use Rattle.tm_lines.specs.Lines.{pieces, lines_on}
use Rattle.tm_lines.specs.Numbers.{digit_in, hex_digit_in, digits_on, number_in, word_in, all_in}
use Rattle.tm_image.specs.Said.{keyword_in, task_in, text_in, data_in, resource_in, alarm_in, box_in, line_in, ring_in}
use Rattle.tm_image.specs.Load.{Load, has_no_text, is_outside, more_text, written, new_data, with_text, with_data}
use Rattle.tm_image.specs.Draft.{Draft, empty_draft, is_taken, is_off_range, with_task, new_task, new_text, new_data_words, is_no_task, has_twice, mask_of, new_resource, task_of, action_of, new_alarm, new_box, names_no_task, line_action_of, is_given, new_line, most_of, ring_of, with_ring, new_ring, words_on, image_line, whole}
use Rattle.tm_image.specs.Image.{ImageView, replaced, image_digest, Below, below, draft_of, image_with, image_of}
use Rattle.tm_lines.proofs.Steps.{bound, passed, on_line_gave}
use Rattle.tm_lines.proofs.Keeping.{lines_keep}
use Rattle.tm_image.proofs.Fits as image_numbers
use Rattle.tm_image.proofs.Wholes.{whole_passed}
use Rattle.tm_image_text.specs.Numbers.{IsWord, IsNarrow, IsOfWords, FitsText}

-- ---- words
-- the value where a test passes
when : {X : Type 0} (b : Bool) (x y : Result X Reason) (n : X) → (if b then x else y) ≡ Ok n → (P : Type 0) → (b ≡ true → x ≡ Ok n → P) → (b ≡ false → y ≡ Ok n → P) → P
when true x y n e P held missed = held refl e
when false x y n e P held missed = missed refl e

digit_small : (c d : ℕ) → digit_in c ≡ Ok d → d < 16
digit_small c d e =
    when (nat_le 48 c && nat_le c 57) (Ok (c - 48)) (Err Number) d e (d < 16)
    (λ is same. (let value : c - 48 ≡ d = cc same in grind (arith, nat_tests, is, value)))
    (λ _ same. cc same)

hex_small : (c d : ℕ) → hex_digit_in c ≡ Ok d → d < 16
hex_small c d e =
    when (nat_le 97 c && nat_le c 102) (Ok (c - 87)) _ d e (d < 16)
    (λ is same. (let value : c - 87 ≡ d = cc same in grind (arith, nat_tests, is, value)))
    (λ _ rest. when (nat_le 65 c && nat_le c 70) (Ok (c - 55)) (digit_in c) d rest (d < 16)
    (λ is same. (let value : c - 55 ≡ d = cc same in grind (arith, nat_tests, is, value)))
    (λ _ last. digit_small c d last))

-- a number of i hexadecimal digits, with so many more that they are at most eight
digits_word : (ds : List ℕ) (i k n : ℕ) → k < 16 ^ i → i + length ds ≤ 8 → digits_on hex_digit_in 16 k ds ≡ Ok n → IsWord n
digits_word [] i k n low few e =
    let same : k ≡ n = cc e in
    let positive : 0 < 16 = omega arith in
    let short : i ≤ 8 = omega (arith, few) in
    let most : 16 ^ i ≤ 16 ^ 8 = pow-le-pow_right positive short in
    omega (arith, same, low, most)
digits_word (c ∷ cs) i k n low few e =
    let first = bound (hex_digit_in c) (λ d. digits_on hex_digit_in 16 (16 * k + d) cs) n e in
    digits_word cs (i + 1) (16 * k + first.0) n (omega (arith, low, pow_more 16 i, hex_small c first.0 first.1.0)) (omega (arith, few)) first.1.1

word_word : (token : List ℕ) (n : ℕ) → word_in token ≡ Ok n → IsWord n
unfolding word_in
word_word token n e =
    when (nat_le 8 (length token) && nat_le (length token) 8) (digits_on hex_digit_in 16 0 token) (Err Number) n e (IsWord n)
    (λ is same. (let few : length token ≤ 8 = grind (arith, nat_tests, is) in digits_word token 0 0 n (omega arith) (omega (arith, few)) same))
    (λ _ same. cc same)

all_words : (tokens : List (List ℕ)) (ns : List ℕ) → all_in word_in tokens ≡ Ok ns → All IsWord ns
all_words [] ns e = let same : [] ≡ ns = cc e in subst (All IsWord) same (All-nil IsWord)
all_words (token ∷ rest) ns e =
    let first = bound (word_in token) (λ n. all_in word_in rest >>= (λ more. Ok (n ∷ more))) ns e in
    let second = bound (all_in word_in rest) (λ more. Ok (first.0 ∷ more)) ns first.1.1 in
    let same : first.0 ∷ second.0 ≡ ns = cc second.1.1 in
    subst (All IsWord) same (All-cons IsWord first.0 second.0 (word_word token first.0 first.1.0) (all_words rest second.0 second.1.0))

-- the value of two steps, of which the second has a fact
made_of : {A B C : Type 0} (first : Result A Reason) (second : Result B Reason) (make : A → B → C) (P : C → Type 0) →
    ((a : A) (b : B) → second ≡ Ok b → P (make a b)) → (c : C) → (first >>= (λ a. second >>= (λ b. Ok (make a b)))) ≡ Ok c → P c
made_of (Ok a) (Ok b) make P each c e = let same : make a b ≡ c = cc e in subst P same (each a b refl)
made_of (Ok a) (Err reason) make P each c e = cc e
made_of (Err reason) second make P each c e = cc e

-- ---- texts
abbrev IsText : Load → Type 0
IsText load = All IsWord load.text

-- what the lines so far have made
abbrev AreTexts : Draft → Type 0
AreTexts d = All IsText d.loads

-- a load at a place is one of the list's
load_at : (loads : List Load) (n : ℕ) → All IsText loads → (old : Load) → slice_get loads n ≡ Some old → IsText old
load_at loads n each old e = subst IsText (get_or_from_slice_get loads n old old e) (each n old (slice_get_within loads n old e))

-- a draft with the same loads
same_loads : (d made next : Draft) → made ≡ next → made.loads ≡ d.loads → AreTexts d → AreTexts next
same_loads d made next is loads so = subst AreTexts is (subst (All IsText) (sym loads) so)

-- a load of which the text stays, or has more words
more_keeps : (words : List ℕ) (o : Option Load) (load : Load) → All IsWord words → more_text words o ≡ Ok load → ((old : Load) → o ≡ Some old → IsText old) → IsText load
more_keeps words None load each e old = cc e
more_keeps words (Some l) load each e old =
    let p = passed false false (nat_lt 16384 (length l.text + length words)) (record l { text = l.text ++ words }) load e in
    subst IsText p.is (All-append IsWord l.text words (old l refl) each)

data_keep : (offset : ℕ) (words : List ℕ) (o : Option Load) (load : Load) → new_data offset words o ≡ Ok load → ((old : Load) → o ≡ Some old → IsText old) → IsText load
data_keep offset words None load e old = cc e
data_keep offset words (Some l) load e old =
    let p = passed (nat_lt (length l.words) (offset + length words)) false false (record l { words = written l.words offset words }) load e in
    subst IsText p.is (old l refl)

-- ---- lines
task_keeps : (d : Draft) (words : List (List ℕ)) (next : Draft) → (task_in words >>= new_task d) ≡ Ok next → AreTexts d → AreTexts next
task_keeps d words next e so =
    let said = bound (task_in words) (new_task d) next e in
    let t = said.0 in
    let p = passed (nat_lt (length d.spec.tasks) t.number || is_off_range t) (nat_lt t.number (length d.spec.tasks) || is_taken t.priority d.spec.tasks) (t.number == 16) (with_task d t) next said.1.1 in
    subst AreTexts p.is (All-push IsText d.loads _ so (All-nil IsWord))

text_keeps : (d : Draft) (words : List (List ℕ)) (next : Draft) → (text_in words >>= new_text d) ≡ Ok next → AreTexts d → AreTexts next
text_keeps d [] next e so = cc e
text_keeps d (number ∷ []) next e so = cc e
text_keeps d (number ∷ token ∷ rest) next e so =
    let said = bound (text_in (number ∷ token ∷ rest)) (new_text d) next e in
    let t = said.0 in
    let each : All IsWord t.words =
    made_of (number_in number) (all_in word_in (token ∷ rest)) (λ n ws. record { number = n; words = ws }) (λ l. All IsWord l.words)
    (λ n ws is. all_words (token ∷ rest) ws is) t said.1.0 in
    let outer = bound (with_text d.loads t) (λ loads. Ok (record d { loads = loads })) next said.1.1 in
    let inner = bound (more_text t.words (slice_get d.loads t.number)) (λ load. Ok (set d.loads t.number load)) outer.0 outer.1.0 in
    let kept : IsText inner.0 = more_keeps t.words (slice_get d.loads t.number) inner.0 each inner.1.0 (load_at d.loads t.number so) in
    let there : set d.loads t.number inner.0 ≡ outer.0 = cc inner.1.1 in
    let same : record d { loads = outer.0 } ≡ next = cc outer.1.1 in
    subst AreTexts same (subst (All IsText) there (All-set IsText d.loads t.number inner.0 kept so))

data_keeps : (d : Draft) (words : List (List ℕ)) (next : Draft) → (data_in words >>= new_data_words d) ≡ Ok next → AreTexts d → AreTexts next
data_keeps d words next e so =
    let said = bound (data_in words) (new_data_words d) next e in
    let t = said.0 in
    let outer = bound (with_data d.loads t) (λ loads. Ok (record d { loads = loads })) next said.1.1 in
    let inner = bound (new_data t.offset t.words (slice_get d.loads t.number)) (λ load. Ok (set d.loads t.number load)) outer.0 outer.1.0 in
    let kept : IsText inner.0 = data_keep t.offset t.words (slice_get d.loads t.number) inner.0 inner.1.0 (load_at d.loads t.number so) in
    let there : set d.loads t.number inner.0 ≡ outer.0 = cc inner.1.1 in
    let same : record d { loads = outer.0 } ≡ next = cc outer.1.1 in
    subst AreTexts same (subst (All IsText) there (All-set IsText d.loads t.number inner.0 kept so))

resource_keeps : (d : Draft) (words : List (List ℕ)) (next : Draft) → (resource_in words >>= new_resource d) ≡ Ok next → AreTexts d → AreTexts next
resource_keeps d words next e so =
    let said = bound (resource_in words) (new_resource d) next e in
    let r = said.0 in
    let p = passed (nat_lt (length d.spec.users) r.number || list_any (is_no_task d.spec.tasks) r.users) (nat_lt r.number (length d.spec.users) || has_twice r.users) (r.number == 16) (record d { spec = record d.spec { users = d.spec.users ++ mask_of r.users ∷ [] } }) next said.1.1 in
    same_loads d _ next p.is refl so

alarm_keeps : (d : Draft) (words : List (List ℕ)) (next : Draft) → (alarm_in words >>= new_alarm d) ≡ Ok next → AreTexts d → AreTexts next
alarm_keeps d words next e so =
    let said = bound (alarm_in words) (new_alarm d) next e in
    let a = said.0 in
    let p = passed (nat_lt (length d.spec.alarms) a.number || is_no_task d.spec.tasks (task_of a.action)) (nat_lt a.number (length d.spec.alarms)) (a.number == 16) (record d { spec = record d.spec { alarms = d.spec.alarms ++ action_of a.action ∷ [] } }) next said.1.1 in
    same_loads d _ next p.is refl so

box_keeps : (d : Draft) (words : List (List ℕ)) (next : Draft) → (box_in words >>= new_box d) ≡ Ok next → AreTexts d → AreTexts next
box_keeps d words next e so =
    let said = bound (box_in words) (new_box d) next e in
    let b = said.0 in
    let p = passed (nat_lt (length d.spec.boxes) b.number || b.capacity == 0 || nat_lt 64 b.capacity) (nat_lt b.number (length d.spec.boxes)) (b.number == 16) (record d { spec = record d.spec { boxes = d.spec.boxes ++ b.capacity ∷ [] } }) next said.1.1 in
    same_loads d _ next p.is refl so

line_line_keeps : (d : Draft) (words : List (List ℕ)) (next : Draft) → (line_in words >>= new_line d) ≡ Ok next → AreTexts d → AreTexts next
line_line_keeps d words next e so =
    let said = bound (line_in words) (new_line d) next e in
    let l = said.0 in
    let p = passed (nat_lt 15 l.number || names_no_task d.spec.tasks l.action) (is_given (unwrap_or (slice_get d.spec.lines l.number) action.Nothing)) false (record d { spec = record d.spec { lines = set d.spec.lines l.number (line_action_of l.action) } }) next said.1.1 in
    same_loads d _ next p.is refl so

ring_keeps : (d : Draft) (words : List (List ℕ)) (next : Draft) → (ring_in words >>= new_ring d) ≡ Ok next → AreTexts d → AreTexts next
ring_keeps d words next e so =
    let said = bound (ring_in words) (new_ring d) next e in
    let r = said.0 in
    let p = passed (r.capacity == 0 || nat_lt (most_of r.ring) r.capacity) (is_some (ring_of d.rings r.ring)) false (record d { rings = with_ring d.rings r.ring r.capacity }) next said.1.1 in
    same_loads d _ next p.is refl so

-- what the name gives that the token is
by_name : {A : Type 0} → (List ℕ → Result A Reason) → List (List ℕ) → List ℕ → Result A Reason
by_name read [] token = Err Form
by_name read (name ∷ names) token = if bytes_eq token name then read name else by_name read names token

-- a fact that each name's line gives
each_name : {A B : Type 0} (read : List ℕ → Result A Reason) (names : List (List ℕ)) (token : List ℕ) (f : A → Result B Reason) (made : B) (P : Type 0) →
    (by_name read names token >>= f) ≡ Ok made → AllByRecursion (λ name. (read name >>= f) ≡ Ok made → P) names → P
unfolding by_name
each_name read [] token f made P e each = cc e
each_name read (name ∷ names) token f made P e each =
    go (bytes_eq token name) e (λ later. each_name read names token f made P later each.1)
  where
    go : (is : Bool) → ((if is then read name else by_name read names token) >>= f) ≡ Ok made → ((by_name read names token >>= f) ≡ Ok made → P) → P
    go true here rest = each.0 here
    go false later rest = rest later

-- the keywords
keywords : List (List ℕ)
keywords =
    codes "task" ∷ codes "text" ∷ codes "data" ∷ codes "resource" ∷ codes "alarm" ∷ codes "box" ∷ codes "line" ∷ codes "ring" ∷ []

line_keeps : (d : Draft) (found : List (List ℕ)) (next : Draft) → image_line d found ≡ Ok next → AreTexts d → AreTexts next
unfolding by_name keywords
line_keeps d [] next e so = cc e
line_keeps d (first ∷ words) next e so =
    each_name keyword_in keywords first (λ keyword. words_on d keyword words) next (AreTexts next) e (
      λ is. task_keeps d words next is so,
      (
        λ is. text_keeps d words next is so,
        (
          λ is. data_keeps d words next is so,
          (
            λ is. resource_keeps d words next is so,
            (
              λ is. alarm_keeps d words next is so,
              (
                λ is. box_keeps d words next is so,
                (
                  λ is. line_line_keeps d words next is so,
                  (λ is. ring_keeps d words next is so, tt),
                ),
              ),
            ),
          ),
        ),
      ),
    )

draft_texts : (bytes : List ℕ) (d : Draft) → draft_of bytes ≡ Ok d → AreTexts d
unfolding draft_of
draft_texts bytes d e =
    let body = bound (below (pieces bytes)) (λ (body : Set × Below). lines_on image_line body.1.0 (empty_draft body.0) body.1.1 >>= (λ (last : ℕ × Draft). on_line last.0 (whole last.1))) d e in
    let last = bound (lines_on image_line body.0.1.0 (empty_draft body.0.0) body.0.1.1) (λ (last : ℕ × Draft). on_line last.0 (whole last.1)) d body.1.1 in
    let so : AreTexts last.0.1 = lines_keep AreTexts image_line line_keeps body.0.1.0 body.0.1.1 (empty_draft body.0.0) last.0 last.1.0 (All-nil IsText) in
    let is = whole_passed (length last.0.1.loads == 0 || list_any has_no_text last.0.1.loads) (list_any is_outside last.0.1.loads) last.0.1 d (on_line_gave last.0.0 (whole last.0.1) d last.1.1) in
    subst AreTexts is.2 so

-- ---- images
narrow : (a : Action) → image_numbers.FitsAction a → IsNarrow a
narrow action.Nothing fits = tt
narrow action.Tick fits = tt
narrow (action.Activate task) fits = tt
narrow (action.Event task mask) fits = fits

pub read_fits : (bytes : List ℕ) (image : ImageView) → image_of bytes ≡ Ok image → FitsText image
unfolding image_of
read_fits bytes image e =
    let d = bound (draft_of bytes) (λ d. Ok (image_with (image_digest bytes) d)) image e in
    let so : image_numbers.FitsSoFar d.0 = image_numbers.draft_fits bytes d.0 d.1.0 in
    let texts : AreTexts d.0 = draft_texts bytes d.0 d.1.0 in
    let same : image_with (image_digest bytes) d.0 ≡ image = cc d.1.1 in
    subst FitsText same (record {
      loads = λ k x h. record { text = texts k x h; words = so.loads k x h };
      alarms = All-weaker image_numbers.FitsAction IsNarrow narrow d.0.spec.alarms so.alarms;
      lines = All-weaker image_numbers.FitsAction IsNarrow narrow d.0.spec.lines so.lines;
    })

pub replaced_fits : (image : ImageView) (task : ℕ) (load : Load) → FitsText image → IsOfWords load → FitsText (replaced image task load)
replaced_fits image task load fits words = record {
  loads = All-set IsOfWords image.loads task load words fits.loads;
  alarms = fits.alarms;
  lines = fits.lines;
}
