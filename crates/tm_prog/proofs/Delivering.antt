-- What several puts and writes leave, one after another.
use Rattle.std.proofs.Common.{◌≡◌, ℕ, ◌+◌, ◌-◌, ◌<◌, ◌≤◌, List, [], ◌++◌, length, take, drop, Option, Some, None, refl, ap, sym, ◌∙◌, append_assoc, arith, length-drop, length-append}
use Rattle.std.specs.Option.{option_map}
use Rattle.std.proofs.lemmas.List.{take_all, append-nil}
use Rattle.std.proofs.Math.Seq.{take-add}
use Rattle.tm_io.specs.Sink.{SinkView, took}

appended_both : (bytes : Option (List ℕ)) (first second : List ℕ) →
    option_map (λ held. held ++ second) (option_map (λ held. held ++ first) bytes) ≡ option_map (λ held. held ++ (first ++ second)) bytes
appended_both None first second = refl
appended_both (Some held) first second = ap Some (append_assoc held first second)

-- one piece after another is both
pub took_both : (k : SinkView) (first second : List ℕ) → took (took k first) second ≡ took k (first ++ second)
took_both k first second =
    let bytes = appended_both k.bytes first second in
    let room : (k.room - length first) - length second ≡ k.room - length (first ++ second) = omega (arith, length-append first second) in
    rw (bytes, room) refl

appended_nothing : (bytes : Option (List ℕ)) → option_map (λ held. held ++ []) bytes ≡ bytes
appended_nothing None = refl
appended_nothing (Some held) = ap Some (append-nil held)

pub took_nothing : (k : SinkView) → took k [] ≡ k
took_nothing k =
    let bytes = appended_nothing k.bytes in
    let room : k.room - 0 ≡ k.room = omega arith in
    rw (bytes, room) refl

rest_all : (text : List ℕ) (done : ℕ) → take (length text - done) (drop done text) ≡ drop done text
rest_all text done =
    let h : length (drop done text) ≤ length text - done = omega (arith, length-drop {A = ℕ}) in take_all _ _ h

-- the first n bytes of what is left of a text, after its first `done` bytes
pub took_more : (k now next : SinkView) (text : List ℕ) (done n : ℕ) → now ≡ took k (take done text) →
    next ≡ took now (take n (take (length text - done) (drop done text))) → next ≡ took k (take (done + n) text)
took_more k now next text done n one two =
    two ∙ ap (λ (rest : List ℕ). took now (take n rest)) (rest_all text done) ∙ ap (λ (v : SinkView). took v (take n (drop done text))) one ∙
    took_both k (take done text) (take n (drop done text)) ∙ ap (λ (piece : List ℕ). took k piece) (sym (take-add done n text))

-- something is left before the end
pub rest_there : (text : List ℕ) (done : ℕ) → done < length text → 0 < length (take (length text - done) (drop done text))
rest_there text done below =
    let rest = ap length (rest_all text done) in omega (arith, length-drop {A = ℕ}, rest)
