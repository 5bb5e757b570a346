-- The lists of a bench at its closing.
use Rattle.std.proofs.Common.{List, ◌∷◌, ◌≡◌, ℕ, zero, suc, ◌<◌, ◌≤◌, ◌^◌, ◌++◌, [], cond, map, length, get_or, sum_by, refl, sym, ap, ◌∙◌, subst, arith, append-nil}
use Rattle.std.specs.Prelude.{Option, Some, IfSome, not, ◌&&◌, ◌==◌}
use Rattle.std.specs.Int.{bit_at}
use Rattle.std.proofs.lemmas.List.{get_or_append_left}
use Rattle.std.proofs.lemmas.List.Sums.{sum_by-cons}
use Rattle.std.proofs.lemmas.Nat.Bits.{bit_at-lt}
use Rattle.std.proofs.lemmas.Bool.Decides.{nat_tests}
use Rattle.tm_irq.specs.declared.views.Glance.{Glance}
use Rattle.tm_irq.specs.declared.views.Deeds.{Deeds}
use Rattle.tm_irq.specs.Views.{is_seen, is_missed, fresh, seen, missed, missed_by}
use Rattle.tm_irq.specs.declared.audit.Audit.{Audit}
use Rattle.tm_irq.specs.declared.bench.Bench.{Bench}
use Rattle.tm_irq.specs.Lists.{KernelLists, AreSeats, deeds_of}
use Rattle.tm_irq.specs.Audit.{IsAudit, IsSettled, TakesFit, LatchesFit, GlancesFit, Balances, raises_in}
use Rattle.tm_irq.specs.Bench.{BenchLists, lists_of, bench_lists}
use Rattle.tm_irq.proofs.Auditing.{none_home, audit_balances}

takes_fit : (takes : List ℕ) (latches : List (List ℕ)) (deeds : List Deeds) (pending : ℕ) → IsSettled takes latches deeds pending → TakesFit takes deeds
takes_fit takes latches deeds pending s number line within = ap (λ mask. bit_at mask line) (sym (get_or_append_left takes (pending ∷ []) 0 number within)) ∙ sym (s.one_fresh line number)

seen_counts : (number bit : ℕ) → bit ≡ 1 → cond {A = ℕ} ((number == number) && (bit == 1)) 1 0 ≡ 1
seen_counts number bit e = grind (arith, nat_tests)

missed_counts : (n number bit : ℕ) → bit < 2 → cond {A = ℕ} ((n == number) && not (bit == 1)) 1 0 ≡ 0 → n ≡ number → bit ≡ 1
missed_counts n number bit small none_missed same = grind (arith, nat_tests)

lines_when : (fresh_here seen_here : ℕ) → (fresh_here ≡ 0 → seen_here ≡ 0) → 0 < seen_here → 0 < fresh_here
lines_when zero seen_here found some_seen = absurd (let z = found refl in omega arith)
lines_when (suc n) seen_here found some_seen = omega arith

-- one of the terms of a sum
term_at : {A : Type 0} (f : A → ℕ) (l : List A) (k : ℕ) (a : A) → k < length l → f (get_or l k a) ≤ sum_by f l
term_at f [] k a below = absurd (omega arith)
term_at f (x ∷ xs) zero a below = omega (arith, sum_by-cons f x xs)
term_at f (x ∷ xs) (suc k) a below = omega (arith, sum_by-cons f x xs, term_at f xs k a (omega arith))

glances_fit : (takes : List ℕ) (latches : List (List ℕ)) (deeds : List Deeds) (pending : ℕ) → IsSettled takes latches deeds pending → GlancesFit deeds
glances_fit takes latches deeds pending s k d within j g inside =
    let device : Deeds = get_or deeds k d in
    let glance : Glance = get_or device.glances j g in record {
      lines = λ line set. lines_when (sum_by (fresh line glance.number) deeds) (sum_by (seen line glance.number) deeds) (s.found line glance.number)
          (omega (arith, seen_counts glance.number (bit_at glance.mask line) set, term_at (λ x. cond (is_seen line glance.number x) 1 0) device.glances j g inside, term_at (seen line glance.number) deeds k d within));
      own = λ i r below same.
          missed_counts (get_or glance.before i r).number glance.number (bit_at glance.mask (get_or glance.before i r).line) (bit_at-lt glance.mask (get_or glance.before i r).line)
          (omega (arith, s.own, term_at missed deeds k d within, term_at missed_by device.glances j g inside, term_at (λ x. cond (is_missed glance.mask glance.number x) 1 0) glance.before i r below)) same;
    }

module _ (b : Bench) (kernel : KernelLists) (is : b.kernel ≡ Some kernel) where
  pub bench_seats : AreSeats kernel b.devices.items
  bench_seats = subst (λ (o : Option KernelLists). IfSome o (λ k. AreSeats k b.devices.items)) is b.kept

  module _ (after : KernelLists) (home : after ≡ record kernel { home = map deeds_of b.devices.items ++ kernel.home }) where
    pub lists_are : bench_lists b ≡ record { takes = after.takes; latches = after.latches; deeds = after.home }
    lists_are =
        let none : kernel.home ≡ [] = none_home kernel.home bench_seats.away in
        ap (λ (o : Option KernelLists). lists_of o b.devices.items b.joined) is
        ∙ ap (λ ds. record { takes = kernel.takes; latches = kernel.latches; deeds = ds }) (sym (append-nil (map deeds_of b.devices.items)) ∙ ap (λ h. map deeds_of b.devices.items ++ h) (sym none))
        ∙ ap (λ (k : KernelLists). record { takes = k.takes; latches = k.latches; deeds = k.home }) (sym home)

    pub closing_counts : (a : Audit) → IsAudit a after.takes after.home → IsAudit a (bench_lists b).takes (bench_lists b).deeds
    closing_counts a counts = subst (λ (l : BenchLists). IsAudit a l.takes l.deeds) (sym lists_are) counts

    pub closing_settled : (pending : ℕ) × IsSettled after.takes after.latches after.home pending → (pending : ℕ) × IsSettled (bench_lists b).takes (bench_lists b).latches (bench_lists b).deeds pending
    closing_settled settled = subst (λ (l : BenchLists). (pending : ℕ) × IsSettled l.takes l.latches l.deeds pending) (sym lists_are) settled

    pub closing_balance : (a : Audit) → IsAudit a after.takes after.home → (pending : ℕ) × IsSettled after.takes after.latches after.home pending → raises_in (bench_lists b).deeds < 2 ^ 64 → (line : ℕ) → line < 16 → Balances a line
    closing_balance a counts settled few line within =
        audit_balances a after.takes after.latches after.home settled.0 counts settled.1 (subst (λ (l : BenchLists). raises_in l.deeds < 2 ^ 64) lists_are few) line within

    pub closing_takes : (pending : ℕ) × IsSettled after.takes after.latches after.home pending → TakesFit (bench_lists b).takes (bench_lists b).deeds
    closing_takes settled = subst (λ (l : BenchLists). TakesFit l.takes l.deeds) (sym lists_are) (takes_fit after.takes after.latches after.home settled.0 settled.1)

    pub closing_latches : (pending : ℕ) × IsSettled after.takes after.latches after.home pending → LatchesFit (bench_lists b).latches (bench_lists b).deeds
    closing_latches settled = subst (λ (l : BenchLists). LatchesFit l.latches l.deeds) (sym lists_are) settled.1.words

    pub closing_glances : (pending : ℕ) × IsSettled after.takes after.latches after.home pending → GlancesFit (bench_lists b).deeds
    closing_glances settled = subst (λ (l : BenchLists). GlancesFit l.deeds) (sym lists_are) (glances_fit after.takes after.latches after.home settled.0 settled.1)
