-- With every device home the sums over all views are those over the kernel's own.
use Rattle.std.proofs.Common.{◌≡◌, ◌≢◌, ◌⊎◌, ℕ, zero, suc, ◌+◌, ◌%◌, ◌<◌, ◌≤◌, true, cond, List, [], ◌∷◌, length, get_or, sum_by, sym, refl, ap, ◌∙◌, subst, inl, inr, ⊎_elim, arith}
use Rattle.std.specs.Prelude.{nat_lt, ◌==◌}
use Rattle.std.proofs.lemmas.Bool.Decides.{nat_tests}
use Rattle.std.proofs.lemmas.List.Sums.{sum_by-cons}
use mathlib.Core.Option.{none, some, some-injective, some-ne-none}
use native.Mathlib.Decide.{dec_lt}
use lib.ListN.{get_elem?}
use Rattle.atomic_table.specs.Table.{step, keeps, Allows}
use Rattle.tm_irq.specs.declared.views.Deeds.{Deeds}
use Rattle.tm_irq.specs.declared.views.View.{View}
use Rattle.tm_irq.specs.Views.{fresh, joined, late, stored, seen, missed, of_device, in_view, in_all}
use Rattle.tm_irq.specs.Rule.{Board, IsSeated, Keeps, has_line}
use Rattle.tm_irq.specs.Audit.{AllHome, WasSet, IsSettled}
use Rattle.tm_irq.specs.Steps.{Settles}
use Rattle.tm_irq.specs.Laws.{HomeIsAll}
use Rattle.tm_irq.proofs.Sums.{sum_at}
use Rattle.tm_irq.proofs.Seating.{kernels_view}
use Rattle.tm_irq.proofs.Keeping.{Mine, unmoved}

module _ {A : Type 0} (f : A → ℕ) where
  -- two places of a list
  pub sum_two : (l : List A) (i j : ℕ) (a b : A) → i ≢ j → get_elem? l i ≡ some a → get_elem? l j ≡ some b → f a + f b ≤ sum_by f l
  sum_two [] i j a b ne p q = absurd (some-ne-none a (sym p))
  sum_two (x ∷ xs) zero zero a b ne p q = absurd (ne refl)
  sum_two (x ∷ xs) zero (suc j) a b ne p q = let is : f x ≡ f a = ap f (some-injective x a p) in omega (arith, sum_at f xs j b q, sum_by-cons f x xs)
  sum_two (x ∷ xs) (suc i) zero a b ne p q = let is : f x ≡ f b = ap f (some-injective x b q) in omega (arith, sum_at f xs i a p, sum_by-cons f x xs)
  sum_two (x ∷ xs) (suc i) (suc j) a b ne p q = omega (arith, sum_two xs i j a b (λ e. ne (ap suc e)) p q, sum_by-cons f x xs)

  sum_nothing : (l : List A) → ((j : ℕ) (b : A) → get_elem? l j ≡ some b → f b ≡ 0) → sum_by f l ≡ 0
  sum_nothing [] every = refl
  sum_nothing (x ∷ xs) every = let first : f x ≡ 0 = every 0 x refl in omega (arith, sum_by-cons f x xs, sum_nothing xs (λ j b q. every (suc j) b q))

  -- the one place that adds anything
  pub sum_only : (l : List A) (i : ℕ) (a : A) → get_elem? l i ≡ some a → ((j : ℕ) (b : A) → get_elem? l j ≡ some b → j ≢ i → f b ≡ 0) → sum_by f l ≡ f a
  sum_only [] i a p others = absurd (some-ne-none a (sym p))
  sum_only (x ∷ xs) zero a p others =
      let is : f x ≡ f a = ap f (some-injective x a p) in
      omega (arith, sum_by-cons f x xs, sum_nothing xs (λ j b q. others (suc j) b q (λ e. omega arith)))
  sum_only (x ∷ xs) (suc i) a p others =
      let first : f x ≡ 0 = others 0 x refl (λ e. omega arith) in
      omega (arith, sum_by-cons f x xs, sum_only xs i a p (λ j b q ne. others (suc j) b q (λ e. ne (omega arith))))

device_itself : (device : ℕ) → cond {A = ℕ} (device == device) 1 0 ≡ 1
device_itself device = grind (arith, nat_tests)

place_there : (d n : ℕ) → d < n → cond {A = ℕ} (nat_lt d n) 1 0 ≡ 1
place_there d n within = grind (arith, nat_tests)

place_none : (d n : ℕ) → ¬ (d < n) → cond {A = ℕ} (nat_lt d n) 1 0 ≡ 0
place_none d n beyond = grind (arith, nat_tests)

module _ (devices seat : ℕ) (kernel : View) (views : List View) (seated : IsSeated devices seat kernel views) (home : AllHome devices kernel.deeds) where
  stands_when : (d here there all : ℕ) → Dec (d < devices) → here ≡ 1 → here + there ≤ all → here ≤ all → all ≡ cond (nat_lt d devices) 1 0 → (d < devices → there ≡ 1) → ⊥
  stands_when d here there all (yes within) one two once place at_home = let t = at_home within in let p = place_there d devices within in omega arith
  stands_when d here there all (no beyond) one two once place at_home = let p = place_none d devices beyond in omega arith

  stands : (id : ℕ) (u : View) → get_elem? views id ≡ some u → id ≢ seat → (d : Deeds) → in_view (of_device d.device) u ≡ 1 → ⊥
  stands id u at ne d one =
      let two = sum_two (in_view (of_device d.device)) views id seat u kernel ne at seated.there in
      let once = sum_at (in_view (of_device d.device)) views id u at in
      let place = seated.places d.device in
      stands_when d.device (in_view (of_device d.device) u) (in_view (of_device d.device) kernel) (in_all (of_device d.device) views) (dec_lt d.device devices) one two once place (home d.device)

  no_deeds_when : (deeds : List Deeds) → length deeds ≤ 1 → ((d : Deeds) → deeds ≡ d ∷ [] → ⊥) → deeds ≡ []
  no_deeds_when [] short not = refl
  no_deeds_when (d ∷ []) short not = absurd (not d refl)
  no_deeds_when (d ∷ e ∷ ds) short not = absurd (omega arith)

  -- the other views have no deeds
  none_elsewhere : (id : ℕ) (u : View) → get_elem? views id ≡ some u → id ≢ seat → u.deeds ≡ []
  none_elsewhere id u at ne = no_deeds_when u.deeds (seated.others id u at ne).deeds (λ d is. stands id u at ne d (ap (sum_by (of_device d.device)) is ∙ omega (arith, device_itself d.device)))

  pub all_home : (f : Deeds → ℕ) → in_all f views ≡ in_view f kernel
  all_home f = sum_only (in_view f) views seat kernel seated.there (λ j u at ne. ap (sum_by f) (none_elsewhere j u at ne))

-- what the rule says then
module _ (devices : ℕ) (s : Board) (kept : Keeps devices s) (home : AllHome devices kept.kernel.deeds) where
  abbrev kernel : View
  kernel = kept.kernel

  whole : (f : Deeds → ℕ) → in_all f s.views ≡ sum_by f kernel.deeds
  whole = all_home devices kept.seat kernel s.views kept.seated home

  pending_is : get_or s.words 0 0 % 65536 ≡ kept.balanced.pending
  pending_is = let p = kept.balanced.parts in let l = kept.balanced.lines in omega arith

  was_set : (port word : ℕ) → (word ≡ 0) ⊎ (0 < in_all (stored port word) s.views) → WasSet kernel.deeds port word
  was_set port word was = ⊎_elim (λ z. inl z) (λ more. let w = whole (stored port word) in inr (omega arith)) was

  settled : IsSettled kernel.takes kernel.latches kernel.deeds (get_or s.words 0 0 % 65536)
  settled = record {
    one_fresh = λ l n. sym (whole (fresh l n)) ∙ kept.balanced.one_fresh l n ∙ ap (λ p. has_line kernel.takes p n l) (sym pending_is);
    beside = λ l n z. sym (whole (joined l n)) ∙ kept.balanced.beside l n (whole (fresh l n) ∙ z);
    numbers = sym (whole (late (length kernel.takes))) ∙ kept.balanced.numbers;
    words = λ k d within port inside. was_set port _ (kept.stored.latches k d within port inside).1;
    found = λ l n z. sym (whole (seen l n)) ∙ kept.glances.found l n (whole (fresh l n) ∙ z);
    own = sym (whole missed) ∙ kept.glances.own;
  }

-- the last glance
pub settles_at : (devices slots id : ℕ) (me : Mine) → me.0.kernel ≡ true → Allows (Keeps devices) slots id me 0 (λ n. n) (Settles (step slots 0 0 0 none) me)
settles_at devices slots id me is_kernel s kept wide at small =
    let kernel : me.0 ≡ kept.kernel = kernels_view devices kept.seat kept.kernel s.views kept.seated id me.0 at is_kernel in
    let P : View → Type 0 = λ v. AllHome v.devices v.deeds → IsSettled v.takes v.latches v.deeds (get_or s.words 0 0 % 65536) in
    let here : P kept.kernel = λ home. settled devices s kept (subst (λ n. AllHome n kept.kernel.deeds) kept.seated.knows home) in
    (me.0, keeps, tt, unmoved devices id 0 me s kept at, (refl, subst P (sym kernel) here))

-- with every device home all entries stand in the kernel's view
pub home_is_all : HomeIsAll
home_is_all devices s kept home = all_home devices kept.seat kept.kernel s.views kept.seated home
