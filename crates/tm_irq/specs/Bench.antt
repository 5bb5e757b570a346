-- What contracts see of a bench: its lists, before and after the closing.
use Rattle.std.specs.Prelude.{ℕ, Option, Some, None, List, [], map}
use Rattle.tm_irq.specs.declared.views.Deeds.{Deeds}
use Rattle.tm_irq.specs.declared.bench.Bench.{Bench}
use Rattle.tm_irq.specs.Lists.{KernelLists, DeviceLists, deeds_of}

-- the takes, the latches, and the deeds of each device, by the device's number
pub record BenchLists : Type 0 where
  pub takes : List ℕ
  pub latches : List (List ℕ)
  pub deeds : List Deeds

-- of an open bench, by its seats
abbrev pub open_lists : KernelLists → List DeviceLists → BenchLists
open_lists k devices = record { takes = k.takes; latches = k.latches; deeds = map deeds_of devices }

-- of a closed bench, by the seat that all others joined
abbrev pub closed_lists : KernelLists → BenchLists
closed_lists k = record { takes = k.takes; latches = k.latches; deeds = k.home }

abbrev pub no_lists : BenchLists
no_lists = record { takes = []; latches = []; deeds = [] }

abbrev pub lists_of : Option KernelLists → List DeviceLists → Option KernelLists → BenchLists
lists_of (Some k) devices joined = open_lists k devices
lists_of None devices (Some k) = closed_lists k
lists_of None devices None = no_lists

abbrev pub bench_lists : Bench → BenchLists
bench_lists b = lists_of b.kernel b.devices.items b.joined
