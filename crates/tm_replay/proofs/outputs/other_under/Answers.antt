use Rattle.std.proofs.Common.{◌≡◌, ◌+◌, ◌++◌, ap, sym, ◌∙◌, arith}
use Rattle.std.specs.Prelude.{option_copied}
use Rattle.tm_system.specs.Replaying.{shown_with}
use Rattle.tm_text.specs.Views.{view_of}
use Rattle.tm_replay.proofs.Showing.{shown_from, shown_past}
use Rattle.tm_replay.proofs.Passing.{under_stop, under_none, piece_many, piece_found, piece_left, all_passed}
use Rattle.tm_replay.proofs.outputs.other_under.Goals as goal
use Rattle.tm_replay.proofs.outputs.other_under.Goals.{in-Some-stop_of+in_default-other_with, in_default-stop_of}

pub other_with-requires : goal.other_with-requires
other_with-requires c =
    let item = sym c.get.ensures.item ∙ ap option_copied c.in-Some.is in
    let many = piece_many (c.loop-number.number + 1) (view_of c.in-Some-stop_of.stop.now.seen) c.as_slice-outputs.result.now _ _
    (under_stop c.args.tracks.now c.args.control.now c.loop-number.number c.in-Some.entry.now c.in-Some-stop_of.stop.now
    c.as_slice-outputs.result.now (omega arith) item c.in-Some-stop_of.ensures.stop c.as_slice-outputs.ensures) in
    omega (arith, many, c.loop-number.invariant.some)

pub returns-in-Some-other_with : goal.returns-in-Some-other_with
returns-in-Some-other_with c =
    let item = sym c.get.ensures.item ∙ ap option_copied c.in-Some.is in
    piece_found c.args.logged.now c.loop-number.left _ _ _ c.in-Some-other_with.other _
    (under_stop c.args.tracks.now c.args.control.now c.loop-number.number c.in-Some.entry.now c.in-Some-stop_of.stop.now
    c.as_slice-outputs.result.now (omega arith) item c.in-Some-stop_of.ensures.stop c.as_slice-outputs.ensures)
    (sym c.in-Some-other_with.ensures) c.loop-number.invariant.same

pub overflow_sub-left : goal.overflow_sub-left
overflow_sub-left c =
    let item = sym c.get.ensures.item ∙ ap option_copied c.in-Some.is in
    let many = piece_many (c.loop-number.number + 1) (view_of c.in-Some-stop_of.stop.now.seen) c.as_slice-outputs.result.now _ _
    (under_stop c.args.tracks.now c.args.control.now c.loop-number.number c.in-Some.entry.now c.in-Some-stop_of.stop.now
    c.as_slice-outputs.result.now (omega arith) item c.in-Some-stop_of.ensures.stop c.as_slice-outputs.ensures) in
    omega (arith, many, c.loop-number.invariant.some)

pub loop-number-preserved : goal.loop-number-preserved
loop-number-preserved c =
    let item = sym c.get.ensures.item ∙ ap option_copied c.in-Some.is in
    elim c.match-stop_of.branch [
      | in-Some-stop_of+in_default-other_with w ↦
          let outs = w.as_slice-outputs.result.now in
          let stop = w.in-Some-stop_of.stop.now in
          let is : shown_from c.args.tracks.now c.args.control.now c.loop-number.number
          ≡ shown_with (c.loop-number.number + 1) (view_of stop.seen) outs ++ shown_from c.args.tracks.now c.args.control.now (c.loop-number.number + 1) =
          under_stop c.args.tracks.now c.args.control.now c.loop-number.number c.in-Some.entry.now stop outs (omega arith) item
          w.in-Some-stop_of.ensures.stop w.as_slice-outputs.ensures in
          rw w.left-is (record {
            same = piece_left c.args.logged.now (c.loop-number.number + 1) c.loop-number.left (view_of stop.seen) outs _ _ _ is
                w.in_default-other_with.ensures c.loop-number.invariant.same;
            some = omega (arith, piece_many (c.loop-number.number + 1) (view_of stop.seen) outs _ _ is, c.loop-number.invariant.some);
            written = c.stop_of.ensures.written;
          })
      | in_default-stop_of w ↦
          let is = under_none c.args.tracks.now c.args.control.now c.loop-number.number c.in-Some.entry.now (omega arith) item
          w.in_default-stop_of.ensures.stop in
          rw w.left-is (record {
            same = rw is at c.loop-number.invariant.same;
            some = rw is at c.loop-number.invariant.some;
            written = c.stop_of.ensures.written;
          })
    ]

pub returns : goal.returns
returns c =
    all_passed c.args.logged.now c.loop-number.left _ _ (shown_past c.args.tracks.now c.args.control.now c.loop-number.number (omega arith) (omega arith))
    c.loop-number.invariant.same
