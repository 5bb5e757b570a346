-- What a drive leaves behind at the bench.
use Rattle.std.proofs.Common.{◌≡◌, ℕ, ◌+◌, ◌<◌, ◌≤◌, List, [], ◌∷◌, ◌++◌, map, length, take, drop, get_or, vec_len, refl, sym, ap, subst, ◌∙◌, arith}
use Rattle.std.specs.Prelude.{Option, Some}
use Rattle.std.proofs.lemmas.List.{get_or-map, take-append-le}
use Rattle.std.proofs.Math.Seq.{take-length}
use Rattle.tm_irq.specs.declared.views.Deeds.{Deeds}
use Rattle.tm_irq.specs.declared.bench.Bench.{Bench}
use Rattle.tm_irq.specs.Views.{no_deeds}
use Rattle.tm_irq.specs.Lists.{KernelLists, DeviceLists, deeds_of, deeds_lists}
use Rattle.tm_irq.specs.Bench.{open_lists, lists_of, bench_lists}
use Rattle.tm_plant.specs.declared.plant.Act.{Act}
use Rattle.tm_plant.specs.Plant.{acts_of}
use Rattle.tm_plant.specs.Plays.{raised_by, stored_by}
use Rattle.tm_record.specs.StandsFor.{RecorderView}
use Rattle.tm_live.specs.Kernel.{tape_between, GoesOnBy}
use Rattle.tm_live.specs.Devices.{GrewByRaises, GrewByStores, AllPlayed}
use Rattle.tm_live.specs.Drive.{deeds_at, tape_since}

-- what is written back to a list whole
pub whole : {X : Type 0} (n : ℕ) (xs ys : List X) → length xs ≡ length ys → n ≡ length xs → take n (xs ++ drop (length xs) ys) ≡ xs
whole n xs ys same all = take-append-le n xs (drop (length xs) ys) (omega (arith, all)) ∙ ap (λ k. take k xs) all ∙ take-length xs

-- a device's deeds are those of its seat
deeds_are : (kernel : KernelLists) (seats : List DeviceLists) (device : ℕ) → device < length seats
    → deeds_of (get_or seats device (deeds_lists kernel.table (no_deeds device))) ≡ deeds_at (open_lists kernel seats) device
deeds_are kernel seats device below = sym (get_or-map deeds_of seats device (deeds_lists kernel.table (no_deeds device)) (no_deeds device) below)

module _ (b : Bench) (kernel : KernelLists) (is : b.kernel ≡ Some kernel) (kernel' : KernelLists) where
  opened : bench_lists b ≡ open_lists kernel b.devices.items
  opened = ap (λ (o : Option KernelLists). lists_of o b.devices.items b.joined) is

  pub drive_stands : (seats : List DeviceLists) (len : ℕ) (recorder recorder' : RecorderView) → GoesOnBy (tape_between kernel kernel' len) recorder recorder'
      → GoesOnBy (tape_since (bench_lists b) (open_lists kernel' seats) len) recorder recorder'
  drive_stands seats len recorder recorder' stands =
      subst (λ (o : Option KernelLists). GoesOnBy (tape_since (lists_of o b.devices.items b.joined) (open_lists kernel' seats) len) recorder recorder') (sym is) stands

  module _ (plant : List (List Act)) (seats seats' written : List DeviceLists) (all : seats ≡ b.devices.items) (len : length seats ≡ vec_len b.devices) (same : length seats' ≡ length seats) (whole_is : written ≡ seats') (played : AllPlayed plant seats seats') where
    -- what holds of a device's seat before and after holds of its deeds
    deeds_change : (R : Deeds → Deeds → Type 0) (device : ℕ) → device < length seats
        → R (deeds_of (get_or seats device (deeds_lists kernel.table (no_deeds device)))) (deeds_of (get_or seats' device (deeds_lists kernel.table (no_deeds device))))
        → R (deeds_at (bench_lists b) device) (deeds_at (open_lists kernel' written) device)
    deeds_change R device below holds =
        let before : deeds_of (get_or seats device (deeds_lists kernel.table (no_deeds device))) ≡ deeds_at (bench_lists b) device =
        deeds_are kernel seats device below ∙ ap (λ ds. deeds_at (open_lists kernel ds) device) all ∙ ap (λ ls. deeds_at ls device) (sym opened) in
        let after : deeds_of (get_or seats' device (deeds_lists kernel.table (no_deeds device))) ≡ deeds_at (open_lists kernel' written) device =
        sym (get_or-map deeds_of seats' device (deeds_lists kernel.table (no_deeds device)) (no_deeds device) (omega (arith, below, same))) ∙ ap (λ ds. deeds_at (open_lists kernel' ds) device) (sym whole_is) in
        subst (λ d. R d (deeds_at (open_lists kernel' written) device)) before
        (subst (λ d. R (deeds_of (get_or seats device (deeds_lists kernel.table (no_deeds device)))) d) after holds)

    pub drive_raises : (device : ℕ) → device < vec_len b.devices → GrewByRaises (raised_by (acts_of plant device)) (deeds_at (bench_lists b) device).raises (deeds_at (open_lists kernel' written) device).raises
    drive_raises device below =
        let within : device < length seats = omega (arith, below, len) in
        deeds_change (λ a b. GrewByRaises (raised_by (acts_of plant device)) a.raises b.raises) device within (played device (deeds_lists kernel.table (no_deeds device)) within).raises

    pub drive_stores : (device : ℕ) → device < vec_len b.devices → GrewByStores (stored_by (acts_of plant device)) (deeds_at (bench_lists b) device).stores (deeds_at (open_lists kernel' written) device).stores
    drive_stores device below =
        let within : device < length seats = omega (arith, below, len) in
        deeds_change (λ a b. GrewByStores (stored_by (acts_of plant device)) a.stores b.stores) device within (played device (deeds_lists kernel.table (no_deeds device)) within).stores
