-- The seats of a bench as they are made, and as they come home.
use Rattle.std.proofs.Common.{◌≡◌, ℕ, zero, suc, ◌+◌, ◌-◌, ◌<◌, ◌≤◌, List, [], ◌∷◌, ◌++◌, map, length, get_or, sym, refl, ap, ap₂, ◌∙◌, subst, arith}
use Rattle.std.specs.Prelude.{All}
use Rattle.std.specs.List.{range_with_len}
use Rattle.std.proofs.lemmas.List.FromFn.{length-map-range_with_len, get_or-map-range_with_len}
use Rattle.tm_irq.specs.declared.views.Deeds.{Deeds}
use Rattle.tm_irq.specs.Views.{no_deeds, homes, other_deeds}
use Rattle.tm_irq.specs.Lists.{KernelLists, DeviceLists, only, deeds_of, deeds_lists, AreSeats}
use Rattle.tm_irq.specs.Bench.{open_lists}

-- some devices are home already, and the others stand at the same table
pub record IsGathering (first : KernelLists) (all : List DeviceLists) (kernel : KernelLists) (left : List DeviceLists) : Type 0 where
  pub seat : kernel ≡ record first { home = kernel.home }
  pub lists : map deeds_of left ++ kernel.home ≡ map deeds_of all ++ first.home
  pub tables : All (λ d. d.table ≡ first.table) left

-- so many devices have a seat, and the others are home
pub record IsParting (first : KernelLists) (devices made : ℕ) (kernel : KernelLists) (seats : List DeviceLists) : Type 0 where
  pub kernel_is : kernel ≡ record first { home = map no_deeds (range_with_len made (devices - made)) }
  pub seats_are : seats ≡ map (λ n. deeds_lists first.table (no_deeds n)) (range_with_len 0 made)
  pub within : made ≤ devices

starts : (made n m : ℕ) → n ≡ suc m → range_with_len made n ≡ made ∷ range_with_len (made + 1) m
starts made n m e = ap (range_with_len made) e

ends : {A : Type 0} (f : ℕ → A) (a n : ℕ) → map f (range_with_len a n) ++ f (a + n) ∷ [] ≡ map f (range_with_len a (suc n))
ends f a zero = let e : a + 0 ≡ a = omega arith in ap (λ k. f k ∷ []) e
ends f a (suc n) = let e : a + suc n ≡ a + 1 + n = omega arith in ap (λ k. f a ∷ (map f (range_with_len (a + 1) n) ++ f k ∷ [])) e ∙ ap (λ l. f a ∷ l) (ends f (a + 1) n)

module _ (first : KernelLists) (devices made : ℕ) (kernel : KernelLists) (seats : List DeviceLists) (p : IsParting first devices made kernel seats) (more : made < devices) where
  abbrev rest : List Deeds
  rest = map no_deeds (range_with_len (made + 1) (devices - (made + 1)))

  pub home_next : kernel.home ≡ no_deeds made ∷ rest
  home_next = let size : devices - made ≡ suc (devices - (made + 1)) = omega arith in
      ap (λ (k : KernelLists). k.home) p.kernel_is ∙ ap (map no_deeds) (starts made (devices - made) (devices - (made + 1)) size)

  pub next_idle : kernel.home ≡ no_deeds (only kernel.home).device ∷ other_deeds kernel.home
  next_idle = subst (λ h. h ≡ no_deeds (only h).device ∷ other_deeds h) (sym home_next) refl

  pub parts_next : (kernel' : KernelLists) (d : DeviceLists) (seats' : List DeviceLists) → kernel' ≡ record kernel { home = other_deeds kernel.home } → d ≡ deeds_lists kernel.table (no_deeds (only kernel.home).device) → seats' ≡ seats ++ d ∷ []
      → IsParting first devices (made + 1) kernel' seats'
  parts_next kernel' d seats' k s l =
      let f : ℕ → DeviceLists = λ n. deeds_lists first.table (no_deeds n) in
      let d_is : d ≡ f made = s ∙ ap₂ (λ t h. deeds_lists t (no_deeds (only h).device)) (ap (λ (x : KernelLists). x.table) p.kernel_is) home_next in
      let next : suc made ≡ made + 1 = omega arith in
      let start : made ≡ 0 + made = omega arith in record {
        kernel_is = k ∙ ap₂ (λ (x : KernelLists) h. record x { home = other_deeds h }) p.kernel_is home_next;
        seats_are = l ∙ ap₂ (λ xs x. xs ++ x ∷ []) p.seats_are d_is ∙ ap (λ n. map f (range_with_len 0 made) ++ f n ∷ []) start ∙ ends f 0 made ∙ ap (λ n. map f (range_with_len 0 n)) next;
        within = omega arith;
      }

-- the seats of a new bench
module _ (kernel : KernelLists) (devices : ℕ) (seats : List DeviceLists) (is : seats ≡ map (λ n. deeds_lists kernel.table (no_deeds n)) (range_with_len 0 devices)) where
  abbrev seat_of : ℕ → DeviceLists
  seat_of n = deeds_lists kernel.table (no_deeds n)

  seats_count : length seats ≡ devices
  seats_count = ap length is ∙ length-map-range_with_len seat_of 0 devices

  seats_each : (i : ℕ) (d : DeviceLists) → i < length seats → get_or seats i d ≡ seat_of i
  seats_each i d within = let small : i < devices = omega (arith, seats_count) in
      ap (λ xs. get_or xs i d) is ∙ get_or-map-range_with_len seat_of 0 devices i i d small (omega arith)

  pub new_seats : (new : KernelLists) → new ≡ record kernel { home = [] } → kernel.devices ≡ devices → 0 < devices → devices ≤ 8 → AreSeats new seats
  new_seats new k count some few = record {
    some = omega (arith, seats_count);
    few = omega (arith, seats_count);
    count = ap (λ (x : KernelLists). x.devices) k ∙ count ∙ sym seats_count;
    away = ap (λ (x : KernelLists). length x.home) k;
    tables = λ i d within. ap (λ (x : DeviceLists). x.table) (seats_each i d within) ∙ ap (λ (x : KernelLists). x.table) (sym k);
    names = λ i d within. ap (λ (x : DeviceLists). x.device) (seats_each i d within);
  }

  pub new_idle : All (λ d. (d.raises ≡ []) × (d.stores ≡ [])) seats
  new_idle i d within = (ap (λ (x : DeviceLists). x.raises) (seats_each i d within), ap (λ (x : DeviceLists). x.stores) (seats_each i d within))

deeds_made : (kernel : KernelLists) (ns : List ℕ) → map deeds_of (map (λ n. deeds_lists kernel.table (no_deeds n)) ns) ≡ map no_deeds ns
deeds_made kernel [] = refl
deeds_made kernel (n ∷ ns) = ap (λ ds. no_deeds n ∷ ds) (deeds_made kernel ns)

-- its lists are empty
pub new_lists : (kernel new : KernelLists) (devices : ℕ) (seats : List DeviceLists) → seats ≡ map (λ n. deeds_lists kernel.table (no_deeds n)) (range_with_len 0 devices) → new ≡ record kernel { home = [] } → kernel.takes ≡ [] → kernel.latches ≡ []
    → open_lists new seats ≡ record { takes = []; latches = []; deeds = homes devices }
new_lists kernel new devices seats is k takes latches =
    ap₂ open_lists k is ∙ ap₂ (λ ts ls. record { takes = ts; latches = ls; deeds = map deeds_of (map (λ n. deeds_lists kernel.table (no_deeds n)) (range_with_len 0 devices)) }) takes latches
    ∙ ap (λ ds. record { takes = []; latches = []; deeds = ds }) (deeds_made kernel (range_with_len 0 devices))
