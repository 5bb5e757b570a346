-- How a line that is made of tokens is read: its tokens.
use Rattle.std.proofs.Common.{◌≡◌, ℕ, ◌-◌, ◌<◌, ◌≤◌, Bool, true, false, ◌&&◌, cond, List, [], ◌∷◌, ◌++◌, length, take, flat_map, filter, slice_index, if◌then◌else◌, Ok, Err, eqb, nat_le, refl, ap, ap₂, ◌∙◌, append-nil, arith, tests}
use Rattle.std.specs.List.{slice_split, onto_first, list_all}
use Rattle.std.proofs.lemmas.List.Folds.{list_all-append}
use Rattle.std.proofs.lemmas.List.Sums.{AllPass-from_list_all}
use Rattle.tm_lines.specs.declared.fault.Reason.TheVariants.{Form}
use Rattle.tm_lines.specs.Lines.{is_line_end, pieces, without_return, is_plain, is_gap, is_token, is_skipped, tokens, tokens_read, said}
use Rattle.tm_spelling.specs.Lines.{line}
use Rattle.tm_image_text.specs.Lines.{spaced}

-- the byte is printed, and no space
abbrev pub is_mark : ℕ → Bool
is_mark c = nat_le 33 c && nat_le c 126

-- the token has bytes, and each is printed
abbrev pub is_word : List ℕ → Bool
is_word token = is_token token && list_all is_mark token

-- tokens with a space between each two
abbrev pub row : List ℕ → List (List ℕ) → List ℕ
row first rest = first ++ flat_map spaced rest

pub both : (a b : Bool) → (a && b) ≡ true → (a ≡ true) × (b ≡ true)
both true b e = (refl, e)
both false b e = cc e

plain_mark : (c : ℕ) → is_mark c ≡ true → is_plain c ≡ true
plain_mark c e = grind (arith, tests, e)

mark_no_gap : (c : ℕ) → is_mark c ≡ true → is_gap c ≡ false
mark_no_gap c e = grind (arith, tests, e)

plain_no_end : (c : ℕ) → is_plain c ≡ true → is_line_end c ≡ false
plain_no_end c e = grind (arith, tests, e)

plain_no_return : (c : ℕ) → is_plain c ≡ true → eqb c 13 ≡ false
plain_no_return c e = grind (arith, tests, e)

-- what each byte is, all are
pub list_all-weaker : (p q : ℕ → Bool) (cs : List ℕ) → ((c : ℕ) → p c ≡ true → q c ≡ true) → list_all p cs ≡ true → list_all q cs ≡ true
list_all-weaker p q [] each e = refl
list_all-weaker p q (c ∷ cs) each e =
    let parts = both (p c) (list_all p cs) e in
    rw (each c parts.0) (list_all-weaker p q cs each parts.1)

-- a line without LF is the first piece
pub piece_line : (text rest : List ℕ) → list_all is_plain text ≡ true → pieces (line text ++ rest) ≡ text ∷ pieces rest
piece_line [] rest e = refl
piece_line (c ∷ text) rest e =
    let parts = both (is_plain c) (list_all is_plain text) e in
    more (is_line_end c) (plain_no_end c parts.0) (piece_line text rest parts.1)
  where
    more : (ends : Bool) → ends ≡ false → pieces (line text ++ rest) ≡ text ∷ pieces rest →
        (if ends then [] ∷ pieces (line text ++ rest) else onto_first c (pieces (line text ++ rest))) ≡ (c ∷ text) ∷ pieces rest
    more true no' e = cc no'
    more false no' e = ap (onto_first c) e

-- it ends with no CR
whole_line : (text : List ℕ) → list_all is_plain text ≡ true → without_return text ≡ text
whole_line [] e = refl
whole_line (c ∷ text) e =
    keep (eqb (slice_index (c ∷ text) (length (c ∷ text) - 1)) 13)
    (plain_no_return _ (AllPass-from_list_all is_plain (c ∷ text) e (length (c ∷ text) - 1) 0 (omega arith)))
  where
    keep : (t : Bool) → t ≡ false → (if t then take (length (c ∷ text) - 1) (c ∷ text) else c ∷ text) ≡ c ∷ text
    keep true no' = cc no'
    keep false no' = refl

-- a space ends a token
split_word : (token rest : List ℕ) → list_all is_mark token ≡ true → slice_split is_gap (token ++ 32 ∷ rest) ≡ token ∷ slice_split is_gap rest
split_word [] rest e = refl
split_word (c ∷ token) rest e =
    let parts = both (is_mark c) (list_all is_mark token) e in
    more (is_gap c) (mark_no_gap c parts.0) (split_word token rest parts.1)
  where
    more : (gap : Bool) → gap ≡ false → slice_split is_gap (token ++ 32 ∷ rest) ≡ token ∷ slice_split is_gap rest →
        cond gap ([] ∷ slice_split is_gap (token ++ 32 ∷ rest)) (onto_first c (slice_split is_gap (token ++ 32 ∷ rest))) ≡ (c ∷ token) ∷ slice_split is_gap rest
    more true no' e = cc no'
    more false no' e = ap (onto_first c) e

split_last : (token : List ℕ) → list_all is_mark token ≡ true → slice_split is_gap token ≡ token ∷ []
split_last [] e = refl
split_last (c ∷ token) e =
    let parts = both (is_mark c) (list_all is_mark token) e in
    more (is_gap c) (mark_no_gap c parts.0) (split_last token parts.1)
  where
    more : (gap : Bool) → gap ≡ false → slice_split is_gap token ≡ token ∷ [] →
        cond gap ([] ∷ slice_split is_gap token) (onto_first c (slice_split is_gap token)) ≡ (c ∷ token) ∷ []
    more true no' e = cc no'
    more false no' e = ap (onto_first c) e

split_row : (first : List ℕ) (rest : List (List ℕ)) → list_all is_word (first ∷ rest) ≡ true → slice_split is_gap (row first rest) ≡ first ∷ rest
split_row first [] e =
    let parts = both (is_word first) true e in
    ap (slice_split is_gap) (append-nil first) ∙ split_last first (both (is_token first) (list_all is_mark first) parts.0).1
split_row first (second ∷ rest) e =
    let parts = both (is_word first) (list_all is_word (second ∷ rest)) e in
    split_word first (row second rest) (both (is_token first) (list_all is_mark first) parts.0).1
    ∙ ap (λ ts. first ∷ ts) (split_row second rest parts.1)

keep_words : (words : List (List ℕ)) → list_all is_word words ≡ true → filter is_token words ≡ words
keep_words [] e = refl
keep_words (word ∷ words) e =
    let parts = both (is_word word) (list_all is_word words) e in
    more (is_token word) (both (is_token word) (list_all is_mark word) parts.0).0 (keep_words words parts.1)
  where
    more : (t : Bool) → t ≡ true → filter is_token words ≡ words → cond t (word ∷ filter is_token words) (filter is_token words) ≡ word ∷ words
    more true yes' e = ap (λ ws. word ∷ ws) e
    more false yes' e = cc yes'

-- words with spaces may stand in a line
plain_rest : (words : List (List ℕ)) → list_all is_word words ≡ true → list_all is_plain (flat_map spaced words) ≡ true
plain_rest [] e = refl
plain_rest (word ∷ words) e =
    let parts = both (is_word word) (list_all is_word words) e in
    list_all-append is_plain word (flat_map spaced words)
    ∙ ap₂ (λ a b. a && b)
    (list_all-weaker is_mark is_plain word plain_mark (both (is_token word) (list_all is_mark word) parts.0).1)
    (plain_rest words parts.1)

pub plain_row : (first : List ℕ) (rest : List (List ℕ)) → list_all is_word (first ∷ rest) ≡ true → list_all is_plain (row first rest) ≡ true
plain_row first rest e =
    let parts = both (is_word first) (list_all is_word rest) e in
    list_all-append is_plain first (flat_map spaced rest)
    ∙ ap₂ (λ a b. a && b)
    (list_all-weaker is_mark is_plain first plain_mark (both (is_token first) (list_all is_mark first) parts.0).1)
    (plain_rest rest parts.1)

-- what a line says that is no note
pub said_row : (first : List ℕ) (rest : List (List ℕ)) → list_all is_word (first ∷ rest) ≡ true → is_skipped (row first rest) ≡ false →
    said (row first rest) ≡ Ok (first ∷ rest)
said_row first rest e told =
    let text = row first rest in
    let plain : list_all is_plain text ≡ true = plain_row first rest e in
    ap (λ (l : List ℕ). if list_all is_plain l then Ok (tokens_read l) else Err Form) (whole_line text plain)
    ∙ ap (λ (t : Bool). if t then Ok (tokens_read text) else Err Form) plain
    ∙ ap (λ (t : Bool). Ok (if t then [] else tokens text)) told
    ∙ ap Ok (ap (filter is_token) (split_row first rest e) ∙ keep_words (first ∷ rest) e)
