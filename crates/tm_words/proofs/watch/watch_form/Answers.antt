use Rattle.std.proofs.Common.{◌≡◌, ◌∙◌, ℕ, List, [], ◌∷◌, Option, Some, None, false, refl, sym, ap, rules}
use Rattle.std.specs.Prelude.{IsTrue, codes, option_and_then, option_map}
use Rattle.tm_words.specs.declared.parts.Given.{Given}
use Rattle.tm_words.specs.declared.command.WatchCommand.{WatchCommand}
use Rattle.tm_words.specs.Words.{Parts, value_of, values_in, without}
use Rattle.tm_words.specs.Forms.{watch_asked_by}
use Rattle.tm_words.specs.Watch.{watch_asked, watch_form}
use Rattle.tm_words.proofs.watch.watch_form.Goals as goal

-- what is asked for, by the values of the options and what is given beside them
abbrev read_off : List (List ℕ) → Option (List ℕ) → Option (List ℕ) → Option (List ℕ) → Option (List ℕ) → List Given → Option WatchCommand
read_off names s l o k left =
    option_and_then (watch_asked names)
    (option_map (λ values. s ∷ values) (option_map (λ values. l ∷ values) (option_map (λ values. o ∷ values) (option_map (λ values. k ∷ values) (values_in [] left)))))

-- the options, taken out one after the other
record Taken (parts : Parts) (s l o k : Option (List ℕ)) (left : List Given) : Type 0 where
  a : List Given
  b : List Given
  c : List Given
  slices : s ≡ value_of (codes "--slices") parts.given
  first : a ≡ without (codes "--slices") parts.given
  len : l ≡ value_of (codes "--len") a
  second : b ≡ without (codes "--len") a
  observers : o ≡ value_of (codes "--observers") b
  third : c ≡ without (codes "--observers") b
  looks : k ≡ value_of (codes "--looks") c
  fourth : left ≡ without (codes "--looks") c

form_is : (parts : Parts) (s l o k : Option (List ℕ)) (left : List Given) → Taken parts s l o k left → watch_form parts ≡ read_off parts.names s l o k left
form_is parts s l o k left t = rw (t.fourth, t.looks, t.third, t.observers, t.second, t.len, t.first, t.slices) refl

unread : (names : List (List ℕ)) (s l o k : Option (List ℕ)) (left : List Given) → watch_asked names (s ∷ l ∷ o ∷ k ∷ []) ≡ None → read_off names s l o k left ≡ None
unread names s l o k [] nothing = nothing
unread names s l o k (g ∷ more) nothing = refl

surplus : (names : List (List ℕ)) (s l o k : Option (List ℕ)) (left : List Given) → (left ≡ [] → IsTrue false) → read_off names s l o k left ≡ None
surplus names s l o k [] more = let both = more refl in absurd (cc)
surplus names s l o k (g ∷ left) more = refl

without_observers : (names : List (List ℕ)) (s l k : Option (List ℕ)) → watch_asked names (s ∷ l ∷ None ∷ k ∷ []) ≡ None
without_observers [] s l k = refl
without_observers (i ∷ []) s l k = refl
without_observers (i ∷ p ∷ []) s l k = refl
without_observers (i ∷ p ∷ f ∷ []) None l k = refl
without_observers (i ∷ p ∷ f ∷ []) (Some s) None k = refl
without_observers (i ∷ p ∷ f ∷ []) (Some s) (Some l) k = refl
without_observers (i ∷ p ∷ f ∷ d ∷ more) s l k = refl

without_looks : (names : List (List ℕ)) (s l o : Option (List ℕ)) → watch_asked names (s ∷ l ∷ o ∷ None ∷ []) ≡ None
without_looks [] s l o = refl
without_looks (i ∷ []) s l o = refl
without_looks (i ∷ p ∷ []) s l o = refl
without_looks (i ∷ p ∷ f ∷ []) None l o = refl
without_looks (i ∷ p ∷ f ∷ []) (Some s) None o = refl
without_looks (i ∷ p ∷ f ∷ []) (Some s) (Some l) None = refl
without_looks (i ∷ p ∷ f ∷ []) (Some s) (Some l) (Some o) = refl
without_looks (i ∷ p ∷ f ∷ d ∷ more) s l o = refl

pub returns-in_err-observers-clause-same : goal.returns-in_err-observers-clause-same
returns-in_err-observers-clause-same c =
    let given = without (codes "--observers") c.take-2.new.self.given in
    let looks = value_of (codes "--looks") given in
    let t : Taken c.args.parts c.take.result c.take-2.result None looks (without (codes "--looks") given) = record {
      a = c.take.new.self.given;
      b = c.take-2.new.self.given;
      c = given;
      slices = c.take.ensures.value;
      first = c.take.ensures.given;
      len = c.take-2.ensures.value;
      second = c.take-2.ensures.given;
      observers = c.in_err-observers.ensures.value;
      third = refl;
      looks = refl;
      fourth = refl;
    } in
    ap (option_and_then watch_asked_by) c.from_residual-in_err-observers.ensures ∙ sym (form_is c.args.parts c.take.result c.take-2.result None looks (without (codes "--looks") given) t
    ∙ unread c.args.parts.names c.take.result c.take-2.result None looks (without (codes "--looks") given) (without_observers c.args.parts.names c.take.result c.take-2.result looks))

pub returns-in_err-looks-clause-same : goal.returns-in_err-looks-clause-same
returns-in_err-looks-clause-same c =
    let left = c.take-4.new.self.given in
    let t : Taken c.args.parts c.take.result c.take-2.result c.take-3.result None left = record {
      a = c.take.new.self.given;
      b = c.take-2.new.self.given;
      c = c.take-3.new.self.given;
      slices = c.take.ensures.value;
      first = c.take.ensures.given;
      len = c.take-2.ensures.value;
      second = c.take-2.ensures.given;
      observers = c.take-3.ensures.value;
      third = c.take-3.ensures.given;
      looks = c.in_err-looks.ensures.value;
      fourth = c.take-4.ensures.given;
    } in
    ap (option_and_then watch_asked_by) c.from_residual-in_err-looks.ensures ∙ sym (form_is c.args.parts c.take.result c.take-2.result c.take-3.result None left t
    ∙ unread c.args.parts.names c.take.result c.take-2.result c.take-3.result None left (without_looks c.args.parts.names c.take.result c.take-2.result c.take-3.result))

pub returns-then-not-has_no_options-clause-same : goal.returns-then-not-has_no_options-clause-same
returns-then-not-has_no_options-clause-same c =
    let left = c.take-4.new.self.given in
    let t : Taken c.args.parts c.take.result c.take-2.result c.take-3.result c.take-4.result left = record {
      a = c.take.new.self.given;
      b = c.take-2.new.self.given;
      c = c.take-3.new.self.given;
      slices = c.take.ensures.value;
      first = c.take.ensures.given;
      len = c.take-2.ensures.value;
      second = c.take-2.ensures.given;
      observers = c.take-3.ensures.value;
      third = c.take-3.ensures.given;
      looks = c.take-4.ensures.value;
      fourth = c.take-4.ensures.given;
    } in
    sym (form_is c.args.parts c.take.result c.take-2.result c.take-3.result c.take-4.result left t
    ∙ surplus c.args.parts.names c.take.result c.take-2.result c.take-3.result c.take-4.result left c.if-not-has_no_options.ensures.1)

pub returns-clause-same : goal.returns-clause-same
returns-clause-same c =
    let left = c.take-4.new.self.given in
    let s = Some c.in_ok-slices.slices in
    let l = Some c.in_ok-len.len in
    let o = Some c.in_ok-observers.observers in
    let k = Some c.in_ok-looks.looks in
    let t : Taken c.args.parts s l o k left = record {
      a = c.take.new.self.given;
      b = c.take-2.new.self.given;
      c = c.take-3.new.self.given;
      slices = c.in_ok-slices.ensures.value;
      first = c.take.ensures.given;
      len = c.in_ok-len.ensures.value;
      second = c.take-2.ensures.given;
      observers = c.in_ok-observers.ensures.value;
      third = c.take-3.ensures.given;
      looks = c.in_ok-looks.ensures.value;
      fourth = c.take-4.ensures.given;
    } in
    let none : left ≡ [] = c.has_no_options.ensures.0 (search rules) in
    let names : c.names.result.now ≡ c.args.parts.names = c.names.ensures ∙ c.take-4.ensures.names ∙ c.take-3.ensures.names ∙ c.take-2.ensures.names ∙ c.take.ensures.names in
    c.named_form.ensures.same
    ∙ rw (names, c.get.ensures, c.get-2.ensures, c.get-3.ensures, c.get-4.ensures) (ap (λ g. read_off c.args.parts.names s l o k g) (sym none) ∙ sym (form_is c.args.parts s l o k left t))
