use Rattle.std.proofs.Common.{◌≡◌, [], length, sym, ap, ◌∙◌, arith}
use Rattle.tm_plant.specs.Plant.{acts_of}
use Rattle.tm_plant.specs.Plays.{raised_by, stored_by}
use Rattle.tm_live.proofs.Afterwards.{whole, drive_raises, drive_stores}
use Rattle.tm_observe.proofs.Ended.{only_grew}
use Rattle.tm_observe.proofs.observing.observe.Goals as goal

pub returns-clause-raises : goal.returns-clause-raises
returns-clause-raises g c =
    let old = c.args.bench.now in
    let same : length c.run_beside-outcome.new.devices ≡ length c.as_mut_slice.result.now = omega (arith, c.run_beside-outcome.auto.devices) in
    let all : length c.as_mut_slice.result.now ≡ length old.devices.items = ap length c.as_mut_slice.ensures.value in
    drive_raises old c.in-Some.kernel (sym c.take.ensures.value ∙ c.in-Some.is) c.run_beside-outcome.new.kernel c.args.plant.now c.as_mut_slice.result.now c.run_beside-outcome.new.devices _
    c.as_mut_slice.ensures.value c.as_mut_slice.ensures.len same (whole old.devices.len c.run_beside-outcome.new.devices old.devices.items (same ∙ all) (omega (arith, c.as_mut_slice.ensures.len, same))) c.run_beside-outcome.ensures.devices

pub returns-clause-stores : goal.returns-clause-stores
returns-clause-stores g c =
    let old = c.args.bench.now in
    let same : length c.run_beside-outcome.new.devices ≡ length c.as_mut_slice.result.now = omega (arith, c.run_beside-outcome.auto.devices) in
    let all : length c.as_mut_slice.result.now ≡ length old.devices.items = ap length c.as_mut_slice.ensures.value in
    drive_stores old c.in-Some.kernel (sym c.take.ensures.value ∙ c.in-Some.is) c.run_beside-outcome.new.kernel c.args.plant.now c.as_mut_slice.result.now c.run_beside-outcome.new.devices _
    c.as_mut_slice.ensures.value c.as_mut_slice.ensures.len same (whole old.devices.len c.run_beside-outcome.new.devices old.devices.items (same ∙ all) (omega (arith, c.as_mut_slice.ensures.len, same))) c.run_beside-outcome.ensures.devices

pub returns-clause-grew : goal.returns-clause-grew
returns-clause-grew g c =
    let old = c.args.bench.now in
    let plant = c.args.plant.now in
    let count : length old.devices.items ≡ old.devices.len = sym (ap length c.as_mut_slice.ensures.value) ∙ c.as_mut_slice.ensures.len in
    only_grew old c.in-Some.kernel (sym c.take.ensures.value ∙ c.in-Some.is) count c.args.pace.now.slices c.run_beside-outcome.new.kernel c.args.watch.now c.run_beside-outcome.new.watch c.run_beside-outcome.ensures.some
    _ (λ device. raised_by (acts_of plant device)) (λ device. stored_by (acts_of plant device)) (returns-clause-raises g c) (returns-clause-stores g c)
