-- The words of a run beside devices are taken, and the parser tells what they ask for.
use Rattle.std.proofs.Common.{◌≡◌, ◌∙◌, ℕ, List, [], ◌∷◌, ◌++◌, Option, Some, None, sym, subst, ap, ap₂, drop}
use Rattle.std.specs.Prelude.{IfOk, IsSome, Result, codes, unwrap_or}
use Rattle.clap.specs.Words.{App, first_of, matches_of}
use Rattle.tm_words.specs.declared.kind.Kind.TheVariants as kind
use Rattle.tm_words.specs.declared.command.Command.{Command}
use Rattle.tm_words.specs.Command.{asked}
use Rattle.tm_words.specs.Parsers.{live_parser, live_words, live_text, live_asked, IsLive}
use Rattle.tm_words.proofs.Parsing.{there, live_taken, live_image, live_plant, live_dump, live_slices, live_len, live_tape}

-- what the parser tells of a text, where it is the parser that was meant
pub tells : {app : App} {found : Option (List ℕ)} (words : List (List ℕ)) (name : List ℕ) → app ≡ live_parser →
    found ≡ first_of name (matches_of app words) → found ≡ live_text words name
tells words name same is = is ∙ ap (λ (a : App). first_of name (matches_of a words)) same

pub is_there : {found told : Option (List ℕ)} → found ≡ told → IsSome told → IsSome found
is_there is known = subst (λ (o : Option (List ℕ)). IsSome o) (sym is) known

pub text_is : {text : List ℕ} {found : Option (List ℕ)} → Some text ≡ found → text ≡ unwrap_or found []
text_is is = ap (λ (o : Option (List ℕ)). unwrap_or o []) is

-- equal texts ask for the same
pub asked_same : {image plant dump slices len i p d : List ℕ} {tape s l t : Option (List ℕ)} →
    image ≡ i → plant ≡ p → dump ≡ d → Some slices ≡ s → Some len ≡ l → tape ≡ t →
    asked kind.Live (image ∷ plant ∷ dump ∷ []) (Some slices ∷ Some len ∷ tape ∷ []) ≡ asked kind.Live (i ∷ p ∷ d ∷ []) (s ∷ l ∷ t ∷ [])
asked_same i p d s l t =
    ap₂ (λ (names : List (List ℕ)) (values : List (Option (List ℕ))). asked kind.Live names values)
    (ap₂ (λ (x : List ℕ) (more : List (List ℕ)). x ∷ more) i (ap₂ (λ (y z : List ℕ). y ∷ z ∷ []) p d))
    (ap₂ (λ (x : Option (List ℕ)) (more : List (Option (List ℕ))). x ∷ more) s (ap₂ (λ (y z : Option (List ℕ)). y ∷ z ∷ []) l t))

is_live : (image plant dump slices len : List ℕ) (tape : Option (List ℕ)) → IsLive (live_words image plant dump slices len tape)
is_live image plant dump slices len tape = record {
  taken = live_taken image plant dump slices len tape;
  image = there (live_image image plant dump slices len tape);
  plant = there (live_plant image plant dump slices len tape);
  dump = there (live_dump image plant dump slices len tape);
  slices = there (live_slices image plant dump slices len tape);
  len = there (live_len image plant dump slices len tape);
}

is_asked : (image plant dump slices len : List ℕ) (tape : Option (List ℕ)) →
    live_asked (live_words image plant dump slices len tape) ≡ asked kind.Live (image ∷ plant ∷ dump ∷ []) (Some slices ∷ Some len ∷ tape ∷ [])
is_asked image plant dump slices len tape = sym (asked_same
    (text_is (sym (live_image image plant dump slices len tape))) (text_is (sym (live_plant image plant dump slices len tape)))
    (text_is (sym (live_dump image plant dump slices len tape))) (sym (live_slices image plant dump slices len tape))
    (sym (live_len image plant dump slices len tape)) (sym (live_tape image plant dump slices len tape)))

-- the words as they are handed over
pub untaped : (image plant dump slices len : List ℕ) → slices ≡ codes "--slices=" ++ drop 9 slices → len ≡ codes "--len=" ++ drop 6 len →
    codes "live" ∷ slices ∷ len ∷ codes "--" ∷ image ∷ plant ∷ dump ∷ [] ≡ live_words image plant dump (drop 9 slices) (drop 6 len) None
untaped image plant dump slices len s l = ap₂ (λ (x y : List ℕ). codes "live" ∷ x ∷ y ∷ codes "--" ∷ image ∷ plant ∷ dump ∷ []) s l

pub taped : (image plant dump slices len tape : List ℕ) → slices ≡ codes "--slices=" ++ drop 9 slices → len ≡ codes "--len=" ++ drop 6 len →
    tape ≡ codes "--tape=" ++ drop 7 tape →
    codes "live" ∷ slices ∷ len ∷ tape ∷ codes "--" ∷ image ∷ plant ∷ dump ∷ [] ≡ live_words image plant dump (drop 9 slices) (drop 6 len) (Some (drop 7 tape))
taped image plant dump slices len tape s l t =
    ap₂ (λ (x : List ℕ) (more : List (List ℕ)). codes "live" ∷ x ∷ more) s
    (ap₂ (λ (y z : List ℕ). y ∷ z ∷ codes "--" ∷ image ∷ plant ∷ dump ∷ []) l t)

pub taken : {words : List (List ℕ)} (image plant dump slices len : List ℕ) (tape : Option (List ℕ)) → words ≡ live_words image plant dump slices len tape → IsLive words
taken image plant dump slices len tape is = subst (λ (ws : List (List ℕ)). IsLive ws) (sym is) (is_live image plant dump slices len tape)

pub asked_by_words : {words : List (List ℕ)} (image plant dump slices len : List ℕ) (tape : Option (List ℕ)) → words ≡ live_words image plant dump slices len tape →
    live_asked words ≡ asked kind.Live (image ∷ plant ∷ dump ∷ []) (Some slices ∷ Some len ∷ tape ∷ [])
asked_by_words image plant dump slices len tape is = ap (λ (ws : List (List ℕ)). live_asked ws) is ∙ is_asked image plant dump slices len tape

pub answered : {E : Type 0} (result : Result (Option Command) E) {a b : Option Command} → a ≡ b →
    IfOk result (λ command. command ≡ a) → IfOk result (λ command. command ≡ b)
answered result same known = subst (λ (x : Option Command). IfOk result (λ command. command ≡ x)) same known
