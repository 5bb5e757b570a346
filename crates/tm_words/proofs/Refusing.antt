-- Which words are of no form: those with more options or names than any form has, and to the commands those of `watch`.
use Rattle.std.proofs.Common.{◌≡◌, ◌<◌, ◌≤◌, ◌+◌, ℕ, suc, Bool, true, false, List, [], ◌∷◌, length, map, take, drop, Option, Some, None, refl, ap, inl, inr, arith}
use Rattle.std.specs.Prelude.{bytes_eq, codes, if◌then◌else◌, remove, IsSome, option_and_then, option_map}
use Rattle.std.proofs.lemmas.Bool.{cases_lt}
use Rattle.std.proofs.lemmas.List.{take_all}
use Rattle.std.proofs.lemmas.List.Edits.{length-remove}
use Rattle.std.proofs.lemmas.Slice.Eq.{bytes_eq-Decides}
use Rattle.std.proofs.Common.{length-append}
use Rattle.tm_words.specs.declared.kind.Kind.{Kind}
use Rattle.tm_words.specs.declared.kind.Kind.TheVariants as kind
use Rattle.tm_words.specs.declared.parts.Given.{Given}
use Rattle.tm_words.specs.Words.{Parts, word_of, parted, place_of, without, values_in, value_of}
use Rattle.tm_words.specs.Command.{asked, form_of, kind_of, command_of, options_of}
use Rattle.tm_words.specs.Watch.{watch_asked, watch_form, watch_of, watch_options}
use Rattle.tm_words.specs.Scans.{IsSurplus, IsRefused}

-- one item at most is removed
length-removed : {X : Type 0} (xs : List X) (i : ℕ) → length xs ≤ length (remove xs i) + 1
length-removed xs i = elim (cases_lt i (length xs)) [
  | inl under ↦ let h = length-remove xs i under in omega arith
  | inr over ↦
      let all = take_all i xs over in
      let h = length-append (take i xs) (drop (suc i) xs) in
      let e : length (take i xs) ≡ length xs = ap length all in omega (arith, h, e)
]

length-without : (option : List ℕ) (given : List Given) → length given ≤ length (without option given) + 1
length-without option given = go (place_of option given) refl
  where
    go : (place : Option ℕ) → place_of option given ≡ place → length given ≤ length (without option given) + 1
    go None e = rw e (omega arith)
    go (Some place) e = rw e (length-removed given place)

many_options : (options : List (List ℕ)) (given : List Given) → length options < length given → values_in options given ≡ None
many_options [] [] many = absurd (omega arith)
many_options [] (g ∷ more) many = refl
many_options (option ∷ options) given many =
    let h = length-without option given in
    ap (option_map (λ values. value_of option given ∷ values)) (many_options options (without option given) (omega (arith, h)))

few_options : (k : Kind) → length (options_of k) ≤ 4
few_options kind.Trace = omega arith
few_options kind.Record = omega arith
few_options kind.Live = omega arith
few_options kind.Points = omega arith
few_options kind.Replay = omega arith
few_options kind.Make = omega arith
few_options kind.Load = omega arith

many_names : (k : Kind) (names : List (List ℕ)) (values : List (Option (List ℕ))) → 4 < length names → asked k names values ≡ None
many_names k [] values many = absurd (omega arith)
many_names k (a ∷ []) values many = absurd (omega arith)
many_names k (a ∷ b ∷ []) values many = absurd (omega arith)
many_names k (a ∷ b ∷ c ∷ []) values many = absurd (omega arith)
many_names k (a ∷ b ∷ c ∷ d ∷ []) values many = absurd (omega arith)
many_names kind.Trace (a ∷ b ∷ c ∷ d ∷ e ∷ more) values many = refl
many_names kind.Record (a ∷ b ∷ c ∷ d ∷ e ∷ more) values many = refl
many_names kind.Live (a ∷ b ∷ c ∷ d ∷ e ∷ more) values many = refl
many_names kind.Points (a ∷ b ∷ c ∷ d ∷ e ∷ more) values many = refl
many_names kind.Replay (a ∷ b ∷ c ∷ d ∷ e ∷ more) values many = refl
many_names kind.Make (a ∷ b ∷ c ∷ d ∷ e ∷ more) values many = refl
many_names kind.Load (a ∷ b ∷ c ∷ d ∷ e ∷ more) values many = refl

asked_none : (k : Kind) (names : List (List ℕ)) (values : Option (List (Option (List ℕ)))) → 4 < length names → option_and_then (asked k names) values ≡ None
asked_none k names None many = refl
asked_none k names (Some values) many = many_names k names values many

pub surplus_refused : (k : Kind) (parts : Parts) → IsSurplus parts → form_of k parts ≡ None
surplus_refused k parts (inl many) =
    let few = few_options k in
    ap (option_and_then (asked k parts.names)) (many_options (options_of k) parts.given (omega (arith, few)))
surplus_refused k parts (inr many) = asked_none k parts.names (values_in (options_of k) parts.given) many

pub refused : (k : Kind) (parts : Option Parts) → IsRefused parts → option_and_then (form_of k) parts ≡ None
refused k None given = refl
refused k (Some parts) surplus = surplus_refused k parts surplus

-- the same of the words of `watch`
many_watch_names : (names : List (List ℕ)) (values : List (Option (List ℕ))) → 4 < length names → watch_asked names values ≡ None
many_watch_names [] values many = absurd (omega arith)
many_watch_names (a ∷ []) values many = absurd (omega arith)
many_watch_names (a ∷ b ∷ []) values many = absurd (omega arith)
many_watch_names (a ∷ b ∷ c ∷ []) values many = absurd (omega arith)
many_watch_names (a ∷ b ∷ c ∷ d ∷ more) values many = refl

watch_asked_none : (names : List (List ℕ)) (values : Option (List (Option (List ℕ)))) → 4 < length names → option_and_then (watch_asked names) values ≡ None
watch_asked_none names None many = refl
watch_asked_none names (Some values) many = many_watch_names names values many

watch_surplus_refused : (parts : Parts) → IsSurplus parts → watch_form parts ≡ None
watch_surplus_refused parts (inl many) = ap (option_and_then (watch_asked parts.names)) (many_options watch_options parts.given (omega arith))
watch_surplus_refused parts (inr many) = watch_asked_none parts.names (values_in watch_options parts.given) many

pub watch_refused : (parts : Option Parts) → IsRefused parts → option_and_then watch_form parts ≡ None
watch_refused None given = refl
watch_refused (Some parts) surplus = watch_surplus_refused parts surplus

watch_chooses_none : (first : List ℕ) → first ≡ codes "watch" → kind_of first ≡ None
unfolding kind_of
watch_chooses_none first is = rw is refl

-- the words of `watch` are of no command
pub watch_apart : (words : List (List ℕ)) → IsSome (watch_of words) → command_of words ≡ None
unfolding watch_of command_of
watch_apart [] some = refl
watch_apart (first ∷ words) some = go (bytes_eq first (codes "watch")) refl some
  where
    go : (watches : Bool) → bytes_eq first (codes "watch") ≡ watches →
        IsSome (if watches then option_and_then watch_form (parted (map word_of words)) else None) →
        option_and_then (λ kind. option_and_then (form_of kind) (parted (map word_of words))) (kind_of first) ≡ None
    go false e none = absurd (cc)
    go true e given = ap (option_and_then (λ kind. option_and_then (form_of kind) (parted (map word_of words)))) (watch_chooses_none first ((bytes_eq-Decides first (codes "watch")).0 e))
