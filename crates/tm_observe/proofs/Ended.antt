-- What a run that is published leaves behind at the bench.
use Rattle.std.proofs.Common.{◌≡◌, ℕ, ◌<◌, List, map, length, vec_len, sym, ap, subst, arith}
use Rattle.std.specs.Prelude.{Option, Some}
use Rattle.std.proofs.lemmas.List.{length-map}
use mathlib.Core.List.{IsPrefix}
use Rattle.tm_irq.specs.declared.bench.Bench.{Bench}
use Rattle.tm_irq.specs.Lists.{KernelLists, DeviceLists, deeds_of}
use Rattle.tm_irq.specs.Bench.{BenchLists, open_lists, lists_of, bench_lists}
use Rattle.tm_live.specs.Devices.{GrewByRaises, GrewByStores, store_in}
use Rattle.tm_live.specs.Drive.{deeds_at}
use Rattle.tm_watch.specs.Views.{Watched}
use Rattle.tm_observe.specs.Published.{WentOn, OnlyGrew}

-- each list of the bench begins with what it was
pub only_grew : (b : Bench) (kernel : KernelLists) → b.kernel ≡ Some kernel → length b.devices.items ≡ vec_len b.devices
    → (most : ℕ) (kernel' : KernelLists) (watch watch' : Watched) → WentOn most kernel kernel' watch watch'
    → (written : List DeviceLists) (lines : ℕ → List ℕ) (values : ℕ → List (ℕ × ℕ))
    → ((device : ℕ) → device < vec_len b.devices → GrewByRaises (lines device) (deeds_at (bench_lists b) device).raises (deeds_at (open_lists kernel' written) device).raises)
    → ((device : ℕ) → device < vec_len b.devices → GrewByStores (values device) (deeds_at (bench_lists b) device).stores (deeds_at (open_lists kernel' written) device).stores)
    → OnlyGrew most (bench_lists b) (open_lists kernel' written)
only_grew b kernel is count most kernel' watch watch' on written lines values raised stored =
    let opened : bench_lists b ≡ open_lists kernel b.devices.items = ap (λ (o : Option KernelLists). lists_of o b.devices.items b.joined) is in
    let takes : length (bench_lists b).takes ≡ length kernel.takes = ap (λ (l : BenchLists). length l.takes) opened in
    let deeds : length (bench_lists b).deeds ≡ length (map deeds_of b.devices.items) = ap (λ (l : BenchLists). length l.deeds) opened in
    let number : length (bench_lists b).deeds ≡ vec_len b.devices = omega (arith, deeds, length-map b.devices.items deeds_of, count) in record {
      takes = subst (λ (l : BenchLists). IsPrefix l.takes kernel'.takes) (sym opened) on.takes;
      few = omega (arith, on.few, takes);
      latches = subst (λ (l : BenchLists). IsPrefix l.latches kernel'.latches) (sym opened) on.latches;
      raises = λ device below. let r = raised device (omega (arith, below, number)) in (r.more, sym r.kept);
      stores = λ device below. (map store_in (values device), sym (stored device (omega (arith, below, number))));
    }
