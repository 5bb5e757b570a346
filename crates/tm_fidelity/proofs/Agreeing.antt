-- The outputs that the text of a run shows from a point on agree with those that the run's window has kept.
use Rattle.std.proofs.Common.{◌≡◌, ℕ, ◌+◌, ◌-◌, true, if◌then◌else◌, List, [], ◌∷◌, ◌++◌, length, drop, refl, ap, sym, ◌∙◌, arith, Some, None, length-append, length-drop}
use Rattle.std.proofs.lemmas.Bool.{eq-eqb}
use Rattle.std.proofs.lemmas.List.{drop-drop, drop-map, length-map}
use Rattle.std.proofs.Math.Seq.{drop-append_seam}
use Rattle.tm_ring.specs.Buffer.{keep_last}
use Rattle.tm_marker.specs.declared.entries.OutputEntry.{OutputEntry}
use Rattle.tm_system.specs.Controls.{outputs}
use Rattle.tm_system.specs.Telling.{upto, story}
use Rattle.tm_system.specs.Replaying.{Shown, shown_in, output_eq, other_at, first_other}
use Rattle.tm_fidelity.specs.Making.{OutputsAgree}
use Rattle.tm_fidelity.proofs.Outputs.{outputs_in, outputs_shown}

same_output : (a : OutputEntry) → output_eq a a ≡ true
same_output a = rw (eq-eqb a.task a.task refl, eq-eqb a.port a.port refl, eq-eqb a.value a.value refl) refl

-- none differs of outputs that are those that were logged
none_differs : (made : List Shown) (logged : List OutputEntry) → outputs_in made ≡ logged → first_other made logged ≡ None
unfolding first_other
none_differs [] logged same = refl
none_differs (made ∷ mades) [] same = refl
none_differs (made ∷ mades) (logged ∷ loggeds) same =
    let first : made.output ≡ logged = cc in
    let rest : outputs_in mades ≡ loggeds = cc in
    ap (λ o. if output_eq o made.output then first_other mades loggeds else Some (other_at made logged)) (sym first)
    ∙ rw (same_output made.output) (none_differs mades loggeds rest)

-- the last of a list's end, and the last of its last items, as many as there are of both
last_of_both : {X : Type 0} (front back all : List X) (cap : ℕ) → all ≡ front ++ back →
    keep_last (length (keep_last cap all)) back ≡ keep_last (length back) (keep_last cap all)
last_of_both front back all cap is =
    let whole : length all ≡ length front + length back = ap length is ∙ length-append front back in
    let logged : length (keep_last cap all) ≡ length all - (length all - cap) = length-drop (length all - cap) all in
    let end : back ≡ drop (length front) all = sym (ap (drop (length front)) is ∙ drop-append_seam front back) in
    ap (drop (length back - length (keep_last cap all))) end
    ∙ drop-drop (length back - length (keep_last cap all)) (length front) all
    ∙ ap (λ n. drop n all) (let e : length front + (length back - length (keep_last cap all))
    ≡ length all - cap + (length (keep_last cap all) - length back) = omega (arith, whole, logged) in e)
    ∙ sym (drop-drop (length (keep_last cap all) - length back) (length all - cap) all)

last_shown : (n : ℕ) (made : List Shown) → outputs_in (keep_last n made) ≡ keep_last n (outputs_in made)
last_shown n made =
    sym (ap (λ k. drop (k - n) (outputs_in made)) (length-map made _) ∙ drop-map (λ (s : Shown). s.output) (length made - n) made)

pub outputs_agree : OutputsAgree
outputs_agree image h point seq i r reached =
    let made : List Shown = shown_in seq (story image point h) in
    let logged : List OutputEntry = keep_last image.caps.outputs (outputs h) in
    none_differs (keep_last (length logged) made) (keep_last (length made) logged)
    (last_shown (length logged) made
    ∙ last_of_both (outputs (upto image point h)) (outputs_in made) (outputs h) image.caps.outputs (outputs_shown image point seq h i r reached)
    ∙ ap (λ n. keep_last n logged) (length-map made _))
