use Rattle.std.proofs.Common.{◌≡◌, [], length, sym, ap, ◌∙◌, arith}
use Rattle.tm_live.proofs.Afterwards.{whole, drive_raises, drive_stores, drive_stands}
use Rattle.tm_live.proofs.driving.drive.Goals as goal

pub returns-clause-raises : goal.returns-clause-raises
returns-clause-raises g c =
    let old = c.args.bench.now in
    let same : length c.run_beside.new.devices ≡ length c.as_mut_slice.result.now = omega (arith, c.run_beside.auto.devices) in
    let all : length c.as_mut_slice.result.now ≡ length old.devices.items = ap length c.as_mut_slice.ensures.value in
    drive_raises old c.in-Some.kernel (sym c.take.ensures.value ∙ c.in-Some.is) c.run_beside.new.kernel c.args.plant.now c.as_mut_slice.result.now c.run_beside.new.devices _
    c.as_mut_slice.ensures.value c.as_mut_slice.ensures.len same (whole old.devices.len c.run_beside.new.devices old.devices.items (same ∙ all) (omega (arith, c.as_mut_slice.ensures.len, same))) c.run_beside.ensures.devices

pub returns-clause-stores : goal.returns-clause-stores
returns-clause-stores g c =
    let old = c.args.bench.now in
    let same : length c.run_beside.new.devices ≡ length c.as_mut_slice.result.now = omega (arith, c.run_beside.auto.devices) in
    let all : length c.as_mut_slice.result.now ≡ length old.devices.items = ap length c.as_mut_slice.ensures.value in
    drive_stores old c.in-Some.kernel (sym c.take.ensures.value ∙ c.in-Some.is) c.run_beside.new.kernel c.args.plant.now c.as_mut_slice.result.now c.run_beside.new.devices _
    c.as_mut_slice.ensures.value c.as_mut_slice.ensures.len same (whole old.devices.len c.run_beside.new.devices old.devices.items (same ∙ all) (omega (arith, c.as_mut_slice.ensures.len, same))) c.run_beside.ensures.devices

pub returns-clause-stands : goal.returns-clause-stands
returns-clause-stands g c =
    drive_stands c.args.bench.now c.in-Some.kernel (sym c.take.ensures.value ∙ c.in-Some.is) c.run_beside.new.kernel [] c.args.len c.args.recorder.now c.run_beside.new.recorder c.run_beside.ensures.kernel.stands
