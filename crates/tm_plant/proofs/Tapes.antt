-- The text of a tape is read as the plan of its slices.
use Rattle.std.proofs.Common.{◌≡◌, ℕ, suc, ◌+◌, ◌-◌, ◌/◌, ◌%◌, ◌<◌, ◌≤◌, ◌^◌, Bool, true, false, ◌&&◌, ◌||◌, cond, List, [], ◌∷◌, ◌++◌, length, take, codes, decimal, flat_map, filter, slice_index, if◌then◌else◌, Result, Ok, Err, All, ltb, eqb, nat_le, refl, ap, ap₂, sym, ◌∙◌, append_assoc, append-nil, arith, tests}
use Rattle.std.specs.List.{slice_split, onto_first, list_all}
use Rattle.std.proofs.lemmas.Fmt.{decimal_nonempty}
use Rattle.std.proofs.lemmas.List.Folds.{list_all-append}
use Rattle.std.proofs.lemmas.List.Sums.{AllPass-from_list_all}
use Rattle.tm_marker.specs.declared.entries.Slice.{Slice}
use Rattle.tm_lines.specs.declared.fault.Reason.{Reason}
use Rattle.tm_lines.specs.declared.fault.Reason.TheVariants.{Form}
use Rattle.tm_lines.specs.declared.fault.Fault.{Fault}
use Rattle.tm_lines.specs.Steps.{◌>>=◌, on_line, tested}
use Rattle.tm_lines.specs.Lines.{is_line_end, pieces, without_return, is_plain, is_gap, is_token, tokens_read, said, go_on, step, lines_on}
use Rattle.tm_image.specs.Plan.{plan_line, plan_of}
use Rattle.tm_spelling.specs.Lines.{digit, hex8, line}
use Rattle.tm_plant.specs.Tape.{hex4, port_text, slice_line, tape_text, IsTaped}
use Rattle.tm_plant.proofs.Spelled.{is_decimal, decimal_digits, decimal_read, hex4_read, hex8_read}

-- the byte is printed, and no space
abbrev is_mark : ℕ → Bool
is_mark c = nat_le 33 c && nat_le c 126

-- the token has bytes, and each is printed
abbrev is_word : List ℕ → Bool
is_word token = is_token token && list_all is_mark token

-- tokens with a space between each two
abbrev spaced : List ℕ → List (List ℕ) → List ℕ
spaced first rest = first ++ flat_map (λ token. 32 ∷ token) rest

both : (a b : Bool) → (a && b) ≡ true → (a ≡ true) × (b ≡ true)
both true b e = (refl, e)
both false b e = cc e

plain_mark : (c : ℕ) → is_mark c ≡ true → is_plain c ≡ true
plain_mark c e = grind (arith, tests, e)

mark_no_gap : (c : ℕ) → is_mark c ≡ true → is_gap c ≡ false
mark_no_gap c e = grind (arith, tests, e)

plain_no_end : (c : ℕ) → is_plain c ≡ true → is_line_end c ≡ false
plain_no_end c e = grind (arith, tests, e)

plain_no_return : (c : ℕ) → is_plain c ≡ true → eqb c 13 ≡ false
plain_no_return c e = grind (arith, tests, e)

digit_mark : (n : ℕ) → n < 16 → is_mark (digit n) ≡ true
digit_mark n h = grind (arith, tests)

decimal_mark : (c : ℕ) → is_decimal c ≡ true → is_mark c ≡ true
decimal_mark c e = grind (arith, tests, e)

-- what each byte is, all are
list_all-weaker : (p q : ℕ → Bool) (cs : List ℕ) → ((c : ℕ) → p c ≡ true → q c ≡ true) → list_all p cs ≡ true → list_all q cs ≡ true
list_all-weaker p q [] each e = refl
list_all-weaker p q (c ∷ cs) each e =
    let parts = both (p c) (list_all p cs) e in
    rw (each c parts.0) (list_all-weaker p q cs each parts.1)

-- a line without LF is the first piece
piece_line : (text rest : List ℕ) → list_all is_plain text ≡ true → pieces (line text ++ rest) ≡ text ∷ pieces rest
piece_line [] rest e = refl
piece_line (c ∷ text) rest e =
    let parts = both (is_plain c) (list_all is_plain text) e in
    more (is_line_end c) (plain_no_end c parts.0) (piece_line text rest parts.1)
  where
    more : (ends : Bool) → ends ≡ false → pieces (line text ++ rest) ≡ text ∷ pieces rest →
        (if ends then [] ∷ pieces (line text ++ rest) else onto_first c (pieces (line text ++ rest))) ≡ (c ∷ text) ∷ pieces rest
    more true no' e = cc no'
    more false no' e = ap (onto_first c) e

-- it ends with no CR
whole_line : (text : List ℕ) → list_all is_plain text ≡ true → without_return text ≡ text
whole_line [] e = refl
whole_line (c ∷ text) e =
    keep (eqb (slice_index (c ∷ text) (length (c ∷ text) - 1)) 13)
    (plain_no_return _ (AllPass-from_list_all is_plain (c ∷ text) e (length (c ∷ text) - 1) 0 (omega arith)))
  where
    keep : (t : Bool) → t ≡ false → (if t then take (length (c ∷ text) - 1) (c ∷ text) else c ∷ text) ≡ c ∷ text
    keep true no' = cc no'
    keep false no' = refl

-- a space ends a token
split_word : (token rest : List ℕ) → list_all is_mark token ≡ true → slice_split is_gap (token ++ 32 ∷ rest) ≡ token ∷ slice_split is_gap rest
split_word [] rest e = refl
split_word (c ∷ token) rest e =
    let parts = both (is_mark c) (list_all is_mark token) e in
    more (is_gap c) (mark_no_gap c parts.0) (split_word token rest parts.1)
  where
    more : (gap : Bool) → gap ≡ false → slice_split is_gap (token ++ 32 ∷ rest) ≡ token ∷ slice_split is_gap rest →
        cond gap ([] ∷ slice_split is_gap (token ++ 32 ∷ rest)) (onto_first c (slice_split is_gap (token ++ 32 ∷ rest))) ≡ (c ∷ token) ∷ slice_split is_gap rest
    more true no' e = cc no'
    more false no' e = ap (onto_first c) e

split_last : (token : List ℕ) → list_all is_mark token ≡ true → slice_split is_gap token ≡ token ∷ []
split_last [] e = refl
split_last (c ∷ token) e =
    let parts = both (is_mark c) (list_all is_mark token) e in
    more (is_gap c) (mark_no_gap c parts.0) (split_last token parts.1)
  where
    more : (gap : Bool) → gap ≡ false → slice_split is_gap token ≡ token ∷ [] →
        cond gap ([] ∷ slice_split is_gap token) (onto_first c (slice_split is_gap token)) ≡ (c ∷ token) ∷ []
    more true no' e = cc no'
    more false no' e = ap (onto_first c) e

split_spaced : (first : List ℕ) (rest : List (List ℕ)) → list_all is_word (first ∷ rest) ≡ true → slice_split is_gap (spaced first rest) ≡ first ∷ rest
split_spaced first [] e =
    let parts = both (is_word first) true e in
    ap (slice_split is_gap) (append-nil first) ∙ split_last first (both (is_token first) (list_all is_mark first) parts.0).1
split_spaced first (second ∷ rest) e =
    let parts = both (is_word first) (list_all is_word (second ∷ rest)) e in
    split_word first (spaced second rest) (both (is_token first) (list_all is_mark first) parts.0).1
    ∙ ap (λ ts. first ∷ ts) (split_spaced second rest parts.1)

keep_words : (words : List (List ℕ)) → list_all is_word words ≡ true → filter is_token words ≡ words
keep_words [] e = refl
keep_words (word ∷ words) e =
    let parts = both (is_word word) (list_all is_word words) e in
    more (is_token word) (both (is_token word) (list_all is_mark word) parts.0).0 (keep_words words parts.1)
  where
    more : (t : Bool) → t ≡ true → filter is_token words ≡ words → cond t (word ∷ filter is_token words) (filter is_token words) ≡ word ∷ words
    more true yes' e = ap (λ ws. word ∷ ws) e
    more false yes' e = cc yes'

-- words with spaces may stand in a line
plain_rest : (words : List (List ℕ)) → list_all is_word words ≡ true → list_all is_plain (flat_map (λ token. 32 ∷ token) words) ≡ true
plain_rest [] e = refl
plain_rest (word ∷ words) e =
    let parts = both (is_word word) (list_all is_word words) e in
    list_all-append is_plain word (flat_map (λ token. 32 ∷ token) words)
    ∙ ap₂ (λ a b. a && b)
    (list_all-weaker is_mark is_plain word plain_mark (both (is_token word) (list_all is_mark word) parts.0).1)
    (plain_rest words parts.1)

plain_spaced : (first : List ℕ) (rest : List (List ℕ)) → list_all is_word (first ∷ rest) ≡ true → list_all is_plain (spaced first rest) ≡ true
plain_spaced first rest e =
    let parts = both (is_word first) (list_all is_word rest) e in
    list_all-append is_plain first (flat_map (λ token. 32 ∷ token) rest)
    ∙ ap₂ (λ a b. a && b)
    (list_all-weaker is_mark is_plain first plain_mark (both (is_token first) (list_all is_mark first) parts.0).1)
    (plain_rest rest parts.1)

-- what a line says that begins with the keyword of a slice
said_words : (words : List (List ℕ)) → list_all is_word words ≡ true → said (spaced (codes "slice") words) ≡ Ok (codes "slice" ∷ words)
said_words words e =
    let text = spaced (codes "slice") words in
    let plain : list_all is_plain text ≡ true = plain_spaced (codes "slice") words e in
    ap (λ (l : List ℕ). if list_all is_plain l then Ok (tokens_read l) else Err Form) (whole_line text plain)
    ∙ ap (λ (t : Bool). if t then Ok (tokens_read text) else Err Form) plain
    ∙ ap Ok (ap (filter is_token) (split_spaced (codes "slice") words e) ∙ keep_words (codes "slice" ∷ words) e)

-- the numbers of a line are words
decimal_word : (n : ℕ) → n < 2 ^ 64 → is_word (decimal n) ≡ true
decimal_word n h =
    ap₂ (λ a b. a && b)
    (token (decimal n) (decimal_nonempty n h))
    (list_all-weaker is_decimal is_mark (decimal n) decimal_mark (decimal_digits n h))
  where
    token : (cs : List ℕ) → 0 < length cs → is_token cs ≡ true
    token [] some = absurd (omega arith)
    token (c ∷ cs) some = grind (arith, tests)

mask_word : (n : ℕ) → is_word (48 ∷ 120 ∷ hex4 n) ≡ true
unfolding hex4
mask_word n =
    rw (digit_mark (n / 16 ^ 3 % 16) (omega arith), digit_mark (n / 16 ^ 2 % 16) (omega arith), digit_mark (n / 16 % 16) (omega arith), digit_mark (n % 16) (omega arith)) refl

port_word : (n : ℕ) → is_word (48 ∷ 120 ∷ hex8 n) ≡ true
unfolding hex8
port_word n =
    rw (
      digit_mark (n / 16 ^ 7 % 16) (omega arith),
      digit_mark (n / 16 ^ 6 % 16) (omega arith),
      digit_mark (n / 16 ^ 5 % 16) (omega arith),
      digit_mark (n / 16 ^ 4 % 16) (omega arith),
      digit_mark (n / 16 ^ 3 % 16) (omega arith),
      digit_mark (n / 16 ^ 2 % 16) (omega arith),
      digit_mark (n / 16 % 16) (omega arith),
      digit_mark (n % 16) (omega arith),
    ) refl

-- the words of a line below its keyword
abbrev words_of : ℕ → ℕ → ℕ → ℕ → ℕ → ℕ → List (List ℕ)
words_of n m p0 p1 p2 p3 =
    decimal n ∷ (48 ∷ 120 ∷ hex4 m) ∷ (48 ∷ 120 ∷ hex8 p0) ∷ (48 ∷ 120 ∷ hex8 p1) ∷ (48 ∷ 120 ∷ hex8 p2) ∷ (48 ∷ 120 ∷ hex8 p3) ∷ []

-- the text of a line
abbrev text_of : Slice → List ℕ
text_of slice = codes "slice " ++ decimal slice.length ++ codes " 0x" ++ hex4 slice.mask ++ flat_map port_text slice.ports

-- the parts of a line, one after another
assoc5 : (a d z h f : List ℕ) → a ++ d ++ z ++ h ++ f ≡ a ++ (d ++ (z ++ (h ++ f)))
assoc5 a d z h f = simp append_assoc

-- the text of a line is its words with spaces
text_is : (n m p0 p1 p2 p3 : ℕ) →
    text_of (record { length = n; mask = m; ports = p0 ∷ p1 ∷ p2 ∷ p3 ∷ [] }) ≡ spaced (codes "slice") (words_of n m p0 p1 p2 p3)
text_is n m p0 p1 p2 p3 =
    assoc5 (codes "slice ") (decimal n) (codes " 0x") (hex4 m) (flat_map port_text (p0 ∷ p1 ∷ p2 ∷ p3 ∷ []))

are_words : (n m p0 p1 p2 p3 : ℕ) → n < 2 ^ 64 → list_all is_word (words_of n m p0 p1 p2 p3) ≡ true
are_words n m p0 p1 p2 p3 h =
    rw (decimal_word n h, mask_word m, port_word p0, port_word p1, port_word p2, port_word p3) refl

within : {A : Type 0} (a b : Bool) (made : A) → a ≡ false → b ≡ false → tested (a || b) false false made ≡ Ok made
within false false made e f = refl
within false true made e f = cc f
within true b made e f = cc e

-- the line of a slice adds the slice
line_read : (slices : List Slice) (n m p0 p1 p2 p3 : ℕ) → n ≤ 1048576 → m < 65536 →
    p0 < 2 ^ 32 → p1 < 2 ^ 32 → p2 < 2 ^ 32 → p3 < 2 ^ 32 →
    plan_line slices (codes "slice" ∷ words_of n m p0 p1 p2 p3) ≡ Ok (slices ++ record { length = n; mask = m; ports = p0 ∷ p1 ∷ p2 ∷ p3 ∷ [] } ∷ [])
line_read slices n m p0 p1 p2 p3 short few h0 h1 h2 h3 =
    rw (hex8_read p0 h0, hex8_read p1 h1, hex8_read p2 h2, hex8_read p3 h3, decimal_read n (omega arith), hex4_read m few)
    (within (ltb 1048576 n) (ltb 65535 m) (slices ++ record { length = n; mask = m; ports = p0 ∷ p1 ∷ p2 ∷ p3 ∷ [] } ∷ [])
    (grind (arith, tests)) (grind (arith, tests)))

step_read : (slices : List Slice) (n m : ℕ) (ports : List ℕ) → n ≤ 1048576 → m < 65536 → length ports ≡ 4 → All (λ word. word < 2 ^ 32) ports →
    step plan_line slices (text_of (record { length = n; mask = m; ports = ports })) ≡ Ok (slices ++ record { length = n; mask = m; ports = ports } ∷ [])
step_read slices n m [] short few four words = absurd (omega arith)
step_read slices n m (p0 ∷ []) short few four words = absurd (omega arith)
step_read slices n m (p0 ∷ p1 ∷ []) short few four words = absurd (omega arith)
step_read slices n m (p0 ∷ p1 ∷ p2 ∷ []) short few four words = absurd (omega arith)
step_read slices n m (p0 ∷ p1 ∷ p2 ∷ p3 ∷ []) short few four words =
    ap (step plan_line slices) (text_is n m p0 p1 p2 p3)
    ∙ ap (λ (r : Result (List (List ℕ)) Reason). r >>= go_on plan_line slices)
    (said_words (words_of n m p0 p1 p2 p3) (are_words n m p0 p1 p2 p3 (omega arith)))
    ∙ line_read slices n m p0 p1 p2 p3 short few
    (words 0 0 (omega arith)) (words 1 0 (omega arith)) (words 2 0 (omega arith)) (words 3 0 (omega arith))
step_read slices n m (p0 ∷ p1 ∷ p2 ∷ p3 ∷ p4 ∷ rest) short few four words = absurd (omega arith)

-- the text of a line may stand in a line
text_plain : (n m : ℕ) (ports : List ℕ) → n ≤ 1048576 → length ports ≡ 4 → list_all is_plain (text_of (record { length = n; mask = m; ports = ports })) ≡ true
text_plain n m [] short four = absurd (omega arith)
text_plain n m (p0 ∷ []) short four = absurd (omega arith)
text_plain n m (p0 ∷ p1 ∷ []) short four = absurd (omega arith)
text_plain n m (p0 ∷ p1 ∷ p2 ∷ []) short four = absurd (omega arith)
text_plain n m (p0 ∷ p1 ∷ p2 ∷ p3 ∷ []) short four =
    ap (list_all is_plain) (text_is n m p0 p1 p2 p3)
    ∙ plain_spaced (codes "slice") (words_of n m p0 p1 p2 p3) (are_words n m p0 p1 p2 p3 (omega arith))
text_plain n m (p0 ∷ p1 ∷ p2 ∷ p3 ∷ p4 ∷ rest) short four = absurd (omega arith)

-- the first line of the text of slices
first_line : (slice : Slice) (slices : List Slice) → IsTaped slice →
    pieces (flat_map slice_line (slice ∷ slices)) ≡ text_of slice ∷ pieces (flat_map slice_line slices)
unfolding slice_line
first_line slice slices taped =
    piece_line (text_of slice) (flat_map slice_line slices) (text_plain slice.length slice.mask slice.ports taped.is.short taped.is.ports)

-- the lines of slices add the slices
lines_read : (slices : List Slice) (number : ℕ) (before : List Slice) → All IsTaped slices →
    lines_on plan_line number before (pieces (flat_map slice_line slices)) ≡ Ok (number + length slices, before ++ slices)
lines_read [] number before all = ap₂ (λ (n : ℕ) (xs : List Slice). Ok (n, xs)) (omega arith) (sym (append-nil before))
lines_read (slice ∷ slices) number before all =
    let taped : IsTaped slice = all 0 slice (omega arith) in
    ap (lines_on plan_line number before) (first_line slice slices taped)
    ∙ ap (λ (r : Result (List Slice) Reason). on_line number r >>= (λ after. lines_on plan_line (number + 1) after (pieces (flat_map slice_line slices))))
    (step_read before slice.length slice.mask slice.ports taped.is.short taped.is.lines taped.is.ports taped.words)
    ∙ lines_read slices (number + 1) (before ++ slice ∷ []) (λ k d h. all (suc k) d (omega arith))
    ∙ ap₂ (λ (n : ℕ) (xs : List Slice). Ok (n, xs)) (omega arith) (append_assoc before (slice ∷ []) slices)

-- the text of a tape is the plan of its slices
pub tape_read : (slices : List Slice) → All IsTaped slices → plan_of (tape_text slices) ≡ Ok slices
unfolding plan_of tape_text
tape_read slices all =
    ap (λ (r : Result (ℕ × List Slice) Fault). r >>= (λ last. Ok last.1)) (lines_read slices 2 [] all)
