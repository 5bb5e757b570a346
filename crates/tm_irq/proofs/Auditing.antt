-- The audit's counts, and that they balance.
use Rattle.std.proofs.Common.{◌≡◌, ℕ, suc, ◌+◌, ◌<◌, ◌≤◌, ◌^◌, cond, List, [], ◌∷◌, map, length, get_or, replicate, sum_by, sym, refl, ap, ◌∙◌, subst, arith, ◌++◌, append-nil}
use Rattle.std.specs.Prelude.{nat_lt, ◌==◌}
use Rattle.std.specs.Int.{bit_at}
use Rattle.std.proofs.lemmas.Bool.Decides.{nat_tests}
use Rattle.std.proofs.lemmas.List.Sums.{sum_by-cons, count_by-le-length}
use Rattle.tm_irq.specs.declared.views.Raise.{Raise}
use Rattle.tm_irq.specs.declared.views.Deeds.{Deeds}
use Rattle.tm_irq.specs.declared.audit.Audit.{Audit}
use Rattle.tm_irq.specs.Views.{fresh, of_device}
use Rattle.tm_irq.specs.Lists.{KernelLists, DeviceLists, AreSeats, deeds_of}
use Rattle.tm_irq.specs.Tallies.{capped, IsTally, Gains, raises_on, joins_on, takes_on}
use Rattle.tm_irq.specs.Audit.{AllHome, IsSettled, IsAudit, Balances, raises_in}
use Rattle.tm_irq.proofs.Sums.{sum_below}
use Rattle.tm_irq.proofs.Bits.{line_here}
use Rattle.tm_irq.proofs.Seats.{tally_none, tally_gains}
use Rattle.tm_irq.proofs.Homing.{within_counts, none_counts}
use Rattle.tm_irq.proofs.Balance.{balances}

-- the lines that pend are the fresh raises that no take has
pub pending_counts : (takes : List ℕ) (latches : List (List ℕ)) (deeds : List Deeds) (mask : ℕ) (old new : List ℕ) → IsSettled takes latches deeds mask → old ≡ replicate 16 0 → Gains old new (λ line. bit_at mask line)
    → IsTally new (λ line. sum_by (fresh line (length takes)) deeds)
pending_counts takes latches deeds mask old new s is gains =
    tally_gains old new (λ line. 0) (λ line. bit_at mask line) (λ line. sum_by (fresh line (length takes)) deeds) (tally_none old (λ line. 0) is (λ line. refl)) gains
    (λ line. let e = s.one_fresh line (length takes) ∙ line_here takes mask line in omega (arith, e))

exact : (r j t p R J T P all : ℕ) → r ≡ capped R → j ≡ capped J → t ≡ capped T → p ≡ capped P → R ≡ J + T + P → R ≤ all → all < 2 ^ 64 → r ≡ j + t + p
exact r j t p R J T P all a b c d e within few = omega arith

-- with fewer than 2^64 raises no count stands still, and each line balances
pub audit_balances : (a : Audit) (takes : List ℕ) (latches : List (List ℕ)) (deeds : List Deeds) (pending : ℕ) → IsAudit a takes deeds → IsSettled takes latches deeds pending → raises_in deeds < 2 ^ 64 → (line : ℕ) → line < 16 → Balances a line
audit_balances a takes latches deeds pending counts s few line within =
    exact _ _ _ _ (sum_by (raises_on line) deeds) (sum_by (joins_on line) deeds) (takes_on takes line) (sum_by (fresh line (length takes)) deeds) (raises_in deeds)
    (counts.raised.each line within) (counts.joined.each line within) (counts.taken.each line within) (counts.pending.each line within)
    (balances takes latches deeds pending line s)
    (sum_below (raises_on line) (λ d. length d.raises) (λ d. count_by-le-length (λ (r : Raise). r.line == line) d.raises) deeds)
    few

-- seats by their numbers are every device once
names_places : (d a : ℕ) (ds : List DeviceLists) → ((i : ℕ) (x : DeviceLists) → i < length ds → (get_or ds i x).device ≡ a + i)
    → sum_by (of_device d) (map deeds_of ds) ≡ cond {A = ℕ} (nat_lt d a) 0 (cond (nat_lt d (a + length ds)) 1 0)
names_places d a [] names = none_counts d a
names_places d a (x ∷ xs) names =
    let first : x.device ≡ a = names 0 x (omega arith) ∙ omega arith in
    let rest = names_places d (a + 1) xs (λ i y h. names (suc i) y (omega arith) ∙ omega arith) in
    sum_by-cons (of_device d) (deeds_of x) (map deeds_of xs) ∙ ap (λ n. cond {A = ℕ} (n == d) 1 0 + sum_by (of_device d) (map deeds_of xs)) first ∙ within_counts d a (length xs) _ rest

pub none_home : (home : List Deeds) → length home ≡ 0 → home ≡ []
none_home [] size = refl
none_home (d ∷ ds) size = absurd (omega arith)

one_place : (d n m : ℕ) → d < n → m ≡ cond {A = ℕ} (nat_lt d 0) 0 (cond (nat_lt d (0 + n)) 1 0) → m ≡ 1
one_place d n m within e = grind (arith, nat_tests)

pub all_named : (devices : ℕ) (ds : List DeviceLists) → devices ≡ length ds → ((i : ℕ) (x : DeviceLists) → i < length ds → (get_or ds i x).device ≡ i) → AllHome devices (map deeds_of ds)
all_named devices ds size names d within = one_place d (length ds) _ (omega arith) (names_places d 0 ds (λ i x h. names i x h ∙ omega arith))

-- so it is with the seats of an open bench that came home
pub seats_home : (kernel after : KernelLists) (devices : List DeviceLists) → AreSeats kernel devices → after ≡ record kernel { home = map deeds_of devices ++ kernel.home } → AllHome after.devices after.home
seats_home kernel after devices seats is =
    let none : kernel.home ≡ [] = none_home kernel.home seats.away in
    let P : KernelLists → Type 0 = λ k. AllHome k.devices k.home in
    subst P (sym is) (subst (AllHome kernel.devices) (sym (append-nil (map deeds_of devices)) ∙ ap (λ h. map deeds_of devices ++ h) (sym none)) (all_named kernel.devices devices seats.count seats.names))
