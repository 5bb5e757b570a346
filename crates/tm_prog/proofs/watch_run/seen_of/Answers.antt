use Rattle.std.proofs.Common.{◌≡◌, ◌++◌, length, All, ap, sym, subst, ◌∙◌, arith}
use Rattle.tm_irq.specs.Bench.{bench_lists}
use Rattle.tm_live.specs.Growth.{added}
use Rattle.tm_live.specs.Tape.{TapeView}
use Rattle.tm_live.specs.Drive.{tape_since}
use Rattle.tm_observe.specs.Lookers.{IsShown}
use Rattle.tm_live.proofs.Afterwards.{whole}
use Rattle.tm_prog.specs.WatchRun.{AreNewcomers}
use Rattle.tm_prog.proofs.Watching.{tape_short, shown_since}
use Rattle.tm_prog.proofs.watch_run.seen_of.Goals as goal

pub versions_of-requires-clause-few : goal.versions_of-requires-clause-few
versions_of-requires-clause-few g c =
    let before = bench_lists c.args.bench.now in
    let after = bench_lists c.observe.new.bench in
    let len = c.args.asked.now.len in
    let ran = c.in_ok-observe.ensures in
    let taped : c.observe.new.tape.slices ≡ tape_since before after len =
    ran.tape ∙ ap (λ (t : TapeView). t.slices ++ tape_since before after len) c.requires.tape in
    omega (
      arith,
      ap length taped,
      tape_short (added before.takes after.takes) (added before.latches after.latches) len,
      ran.takes.size,
      c.requires.range.slices,
    )

pub versions_of-requires-clause-shown : goal.versions_of-requires-clause-shown
versions_of-requires-clause-shown g c =
    let new = c.observe.new.lookers in
    let old = c.args.lookers in
    let number = c.in_ok-observe.ensures.lookers.number in
    let all : length c.as_mut_slice.result.now ≡ length old.items = ap length c.as_mut_slice.ensures.value in
    let same : c.as_mut_slice-2.result.now ≡ new =
    c.as_mut_slice-2.ensures.value ∙ whole old.len new old.items (number ∙ all) (omega (arith, c.as_mut_slice.ensures.len, number)) in
    let first : AreNewcomers c.args.watch.now c.as_mut_slice.result.now =
    subst (AreNewcomers c.args.watch.now) (sym c.as_mut_slice.ensures.value) c.requires.observers in
    subst (All (IsShown c.observe.new.watch)) (sym same)
    (shown_since c.args.watch.now c.observe.new.watch _ c.as_mut_slice.result.now new (omega (arith, c.from.ensures, c.requires.range.look))
    c.in_ok-observe.ensures.same first c.in_ok-observe.ensures.lookers)
