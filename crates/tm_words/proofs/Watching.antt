-- The words of `watch` are taken, and the parser tells what they ask for.
use Rattle.std.proofs.Common.{◌≡◌, ◌∙◌, ℕ, true, List, [], ◌∷◌, ◌++◌, Option, Some, refl, sym, subst, ap, ap₂}
use Rattle.std.specs.Prelude.{IfOk, Result, codes}
use Rattle.clap.specs.Words.{App, first_of, matches_of, takes}
use Rattle.clap.proofs.OnLiterals.{clap_on_literals}
use Rattle.tm_words.specs.declared.command.WatchCommand.{WatchCommand}
use Rattle.tm_words.specs.Watch.{watch_asked}
use Rattle.tm_words.specs.Parsers.{watch_parser, watch_words, watch_text, watch_asked_in, IsWatch}
use Rattle.tm_words.proofs.Parsing.{there}
use Rattle.tm_words.proofs.Driving.{text_is}

-- what the parser tells of a text, where it is the parser that was meant
pub tells : {app : App} {found : Option (List ℕ)} (words : List (List ℕ)) (name : List ℕ) → app ≡ watch_parser →
    found ≡ first_of name (matches_of app words) → found ≡ watch_text words name
tells words name same is = is ∙ ap (λ (a : App). first_of name (matches_of a words)) same

watch_taken : (image plant prefix slices len observers looks : List ℕ) → takes watch_parser (watch_words image plant prefix slices len observers looks) ≡ true
unfolding clap_on_literals
watch_taken image plant prefix slices len observers looks = refl

watch_image : (image plant prefix slices len observers looks : List ℕ) → watch_text (watch_words image plant prefix slices len observers looks) (codes "image") ≡ Some image
unfolding clap_on_literals
watch_image image plant prefix slices len observers looks = refl

watch_plant : (image plant prefix slices len observers looks : List ℕ) → watch_text (watch_words image plant prefix slices len observers looks) (codes "plant") ≡ Some plant
unfolding clap_on_literals
watch_plant image plant prefix slices len observers looks = refl

watch_prefix : (image plant prefix slices len observers looks : List ℕ) → watch_text (watch_words image plant prefix slices len observers looks) (codes "prefix") ≡ Some prefix
unfolding clap_on_literals
watch_prefix image plant prefix slices len observers looks = refl

watch_slices : (image plant prefix slices len observers looks : List ℕ) → watch_text (watch_words image plant prefix slices len observers looks) (codes "slices") ≡ Some slices
unfolding clap_on_literals
watch_slices image plant prefix slices len observers looks = refl

watch_len : (image plant prefix slices len observers looks : List ℕ) → watch_text (watch_words image plant prefix slices len observers looks) (codes "len") ≡ Some len
unfolding clap_on_literals
watch_len image plant prefix slices len observers looks = refl

watch_observers : (image plant prefix slices len observers looks : List ℕ) → watch_text (watch_words image plant prefix slices len observers looks) (codes "observers") ≡ Some observers
unfolding clap_on_literals
watch_observers image plant prefix slices len observers looks = refl

watch_looks : (image plant prefix slices len observers looks : List ℕ) → watch_text (watch_words image plant prefix slices len observers looks) (codes "looks") ≡ Some looks
unfolding clap_on_literals
watch_looks image plant prefix slices len observers looks = refl

-- equal texts ask for the same
pub asked_same : {image plant prefix slices len observers looks i p f : List ℕ} {s l o k : Option (List ℕ)} →
    image ≡ i → plant ≡ p → prefix ≡ f → Some slices ≡ s → Some len ≡ l → Some observers ≡ o → Some looks ≡ k →
    watch_asked (image ∷ plant ∷ prefix ∷ []) (Some slices ∷ Some len ∷ Some observers ∷ Some looks ∷ []) ≡ watch_asked (i ∷ p ∷ f ∷ []) (s ∷ l ∷ o ∷ k ∷ [])
asked_same i p f s l o k =
    ap₂ (λ (names : List (List ℕ)) (values : List (Option (List ℕ))). watch_asked names values)
    (ap₂ (λ (x : List ℕ) (more : List (List ℕ)). x ∷ more) i (ap₂ (λ (y z : List ℕ). y ∷ z ∷ []) p f))
    (ap₂ (λ (x : Option (List ℕ)) (more : List (Option (List ℕ))). x ∷ more) s
    (ap₂ (λ (x : Option (List ℕ)) (more : List (Option (List ℕ))). x ∷ more) l (ap₂ (λ (y z : Option (List ℕ)). y ∷ z ∷ []) o k)))

is_watch : (image plant prefix slices len observers looks : List ℕ) → IsWatch (watch_words image plant prefix slices len observers looks)
is_watch image plant prefix slices len observers looks = record {
  taken = watch_taken image plant prefix slices len observers looks;
  image = there (watch_image image plant prefix slices len observers looks);
  plant = there (watch_plant image plant prefix slices len observers looks);
  prefix = there (watch_prefix image plant prefix slices len observers looks);
  slices = there (watch_slices image plant prefix slices len observers looks);
  len = there (watch_len image plant prefix slices len observers looks);
  observers = there (watch_observers image plant prefix slices len observers looks);
  looks = there (watch_looks image plant prefix slices len observers looks);
}

is_asked : (image plant prefix slices len observers looks : List ℕ) →
    watch_asked_in (watch_words image plant prefix slices len observers looks) ≡ watch_asked (image ∷ plant ∷ prefix ∷ []) (Some slices ∷ Some len ∷ Some observers ∷ Some looks ∷ [])
is_asked image plant prefix slices len observers looks = sym (asked_same
    (text_is (sym (watch_image image plant prefix slices len observers looks)))
    (text_is (sym (watch_plant image plant prefix slices len observers looks)))
    (text_is (sym (watch_prefix image plant prefix slices len observers looks)))
    (sym (watch_slices image plant prefix slices len observers looks))
    (sym (watch_len image plant prefix slices len observers looks))
    (sym (watch_observers image plant prefix slices len observers looks))
    (sym (watch_looks image plant prefix slices len observers looks)))

-- the words as they are handed over
pub written : {a b c d : List ℕ} (image plant prefix slices len observers looks : List ℕ) → a ≡ codes "--slices=" ++ slices → b ≡ codes "--len=" ++ len →
    c ≡ codes "--observers=" ++ observers → d ≡ codes "--looks=" ++ looks →
    codes "watch" ∷ a ∷ b ∷ c ∷ d ∷ codes "--" ∷ image ∷ plant ∷ prefix ∷ [] ≡ watch_words image plant prefix slices len observers looks
written image plant prefix slices len observers looks a b c d =
    ap₂ (λ (x more : List (List ℕ)). codes "watch" ∷ x ++ more)
    (ap₂ (λ (x y : List ℕ). x ∷ y ∷ []) a b) (ap₂ (λ (x y : List ℕ). x ∷ y ∷ codes "--" ∷ image ∷ plant ∷ prefix ∷ []) c d)

pub taken : {words : List (List ℕ)} (image plant prefix slices len observers looks : List ℕ) → words ≡ watch_words image plant prefix slices len observers looks → IsWatch words
taken image plant prefix slices len observers looks is = subst (λ (ws : List (List ℕ)). IsWatch ws) (sym is) (is_watch image plant prefix slices len observers looks)

pub asked_by_words : {words : List (List ℕ)} (image plant prefix slices len observers looks : List ℕ) → words ≡ watch_words image plant prefix slices len observers looks →
    watch_asked_in words ≡ watch_asked (image ∷ plant ∷ prefix ∷ []) (Some slices ∷ Some len ∷ Some observers ∷ Some looks ∷ [])
asked_by_words image plant prefix slices len observers looks is = ap (λ (ws : List (List ℕ)). watch_asked_in ws) is ∙ is_asked image plant prefix slices len observers looks

pub answered : {E : Type 0} (result : Result (Option WatchCommand) E) {a b : Option WatchCommand} → a ≡ b →
    IfOk result (λ command. command ≡ a) → IfOk result (λ command. command ≡ b)
answered result same known = subst (λ (x : Option WatchCommand). IfOk result (λ command. command ≡ x)) same known
