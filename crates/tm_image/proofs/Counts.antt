-- A plan has no more slices than its text has bytes.
use Rattle.std.proofs.Common.{◌≡◌, ℕ, suc, ◌+◌, ◌≤◌, Bool, true, false, ◌||◌, List, [], ◌∷◌, ◌++◌, length, nat_lt, if◌then◌else◌, ap, arith, length-append, Ok, Err}
use Rattle.std.specs.Prelude.{codes}
use Rattle.std.specs.Str.{bytes_eq}
use Rattle.std.specs.List.{onto_first}
use Rattle.tm_marker.specs.declared.entries.Slice.{Slice}
use Rattle.tm_lines.specs.declared.fault.Reason.TheVariants.{Form}
use Rattle.tm_lines.specs.Steps.{◌>>=◌, on_line}
use Rattle.tm_lines.specs.Lines.{is_line_end, pieces, Header, header, opening, from_header, said, go_on, step, lines_on}
use Rattle.tm_lines.proofs.Steps.{bound, on_line_gave, passed}
use Rattle.tm_image.specs.Plan.{slice_in, new_slice, plan_line, plan_of}

piece_more : (ends : Bool) (c : ℕ) (parts : List (List ℕ)) (n : ℕ) →
    length parts ≤ n → length (if ends then [] ∷ parts else onto_first c parts) ≤ suc n
piece_more true c parts n h = omega arith
piece_more false c [] n h = omega arith
piece_more false c (part ∷ parts) n h = omega arith

length-pieces : (text : List ℕ) → length (pieces text) ≤ length text
length-pieces [] = omega arith
length-pieces (c ∷ cs) = piece_more (is_line_end c) c (pieces cs) (length cs) (length-pieces cs)

below_more : (opened : Bool) (name : Header) (number : ℕ) (rest : List (List ℕ)) (body : ℕ × List (List ℕ)) →
    ((number : ℕ) → (body : ℕ × List (List ℕ)) → from_header name number rest ≡ Ok body → length body.1 ≤ length rest) →
    (if opened then Ok (number + 1, rest) else from_header name (number + 1) rest) ≡ Ok body → length body.1 ≤ length rest
below_more true name number rest body more e =
    let same : (number + 1, rest) ≡ body = cc e in omega (arith, ap (λ (b : ℕ × List (List ℕ)). length b.1) same)
below_more false name number rest body more e = more (number + 1) body e

length-from_header : (name : Header) (lines : List (List ℕ)) (number : ℕ) (body : ℕ × List (List ℕ)) →
    from_header name number lines ≡ Ok body → length body.1 ≤ length lines
length-from_header name [] number body e = cc e
length-from_header name (line ∷ rest) number body e =
    let read = bound (on_line number (opening name line))
    (λ opened. if opened then Ok (number + 1, rest) else from_header name (number + 1) rest) body e in
    omega (arith, below_more read.0 name number rest body (length-from_header name rest) read.1.1)

length-keyword : (is : Bool) (slices after : List Slice) (words : List (List ℕ)) →
    (if is then slice_in words >>= new_slice slices else Err Form) ≡ Ok after → length after ≡ length slices + 1
length-keyword false slices after words e = cc e
length-keyword true slices after words e =
    let read = bound (slice_in words) (new_slice slices) after e in
    let made : slices ++ read.0 ∷ [] ≡ after = (passed (nat_lt 1048576 read.0.length || nat_lt 65535 read.0.mask) false false (slices ++ read.0 ∷ []) after read.1.1).is in
    omega (arith, ap length made, length-append slices (read.0 ∷ []))

length-plan_line : (slices after : List Slice) (tokens : List (List ℕ)) →
    plan_line slices tokens ≡ Ok after → length after ≡ length slices + 1
length-plan_line slices after [] e = cc e
length-plan_line slices after (keyword ∷ words) e = length-keyword (bytes_eq keyword (codes "slice")) slices after words e

length-go_on : (slices after : List Slice) (tokens : List (List ℕ)) →
    go_on plan_line slices tokens ≡ Ok after → length after ≤ length slices + 1
length-go_on slices after [] e = let same : slices ≡ after = cc e in omega (arith, ap length same)
length-go_on slices after (first ∷ rest) e = omega (arith, length-plan_line slices after (first ∷ rest) e)

length-lines_on : (lines : List (List ℕ)) (number : ℕ) (slices : List Slice) (last : ℕ × List Slice) →
    lines_on plan_line number slices lines ≡ Ok last → length last.1 ≤ length slices + length lines
length-lines_on [] number slices last e =
    let same : (number, slices) ≡ last = cc e in omega (arith, ap (λ (l : ℕ × List Slice). length l.1) same)
length-lines_on (line ∷ rest) number slices last e =
    let went = bound (on_line number (step plan_line slices line)) (λ after. lines_on plan_line (number + 1) after rest) last e in
    let read = bound (said line) (go_on plan_line slices) went.0 (on_line_gave number (step plan_line slices line) went.0 went.1.0) in
    omega (arith, length-go_on slices went.0 read.0 read.1.1, length-lines_on rest (number + 1) went.0 last went.1.1)

-- the slices of a plan are not more than the bytes of its text
pub few_slices : (text : List ℕ) (slices : List Slice) → plan_of text ≡ Ok slices → length slices ≤ length text
unfolding plan_of
few_slices text slices e =
    let below = bound (from_header (header (codes "tmplan") (codes "1")) 1 (pieces text))
    (λ body. lines_on plan_line body.0 [] body.1 >>= (λ last. Ok last.1)) slices e in
    let lines = bound (lines_on plan_line below.0.0 [] below.0.1) (λ last. Ok last.1) slices below.1.1 in
    let same : lines.0.1 ≡ slices = cc lines.1.1 in
    omega (
      arith,
      length-pieces text,
      length-from_header (header (codes "tmplan") (codes "1")) (pieces text) 1 below.0 below.1.0,
      length-lines_on below.0.1 below.0.0 [] lines.0 lines.1.0,
      ap length same,
    )
