use Rattle.std.proofs.Common.{◌+◌, ap, refl, sym, ◌∙◌, arith, length}
use Rattle.std.specs.Prelude.{option_copied}
use Rattle.tm_text.specs.Views.{view_of}
use Rattle.tm_replay.proofs.Showing.{shown_past}
use Rattle.tm_replay.proofs.Passing.{under_stop, under_none, piece_many}
use Rattle.tm_replay.proofs.outputs.made_under.Goals as goal
use Rattle.tm_replay.proofs.outputs.made_under.Goals.{in-Some-stop_of, in_default-stop_of}

pub loop-number-preserved : goal.loop-number-preserved
loop-number-preserved c =
    let item = sym c.get.ensures.item ∙ ap option_copied c.in-Some.is in
    elim c.match-stop_of.branch [
      | in-Some-stop_of w ↦
          let many = piece_many (c.loop-number.number + 1) (view_of w.in-Some-stop_of.stop.now.seen) w.in-Some-stop_of.stop.now.outputs _ _
          (under_stop c.args.tracks.now c.args.control.now c.loop-number.number c.in-Some.entry.now w.in-Some-stop_of.stop.now
          w.in-Some-stop_of.stop.now.outputs (omega arith) item w.in-Some-stop_of.ensures.stop refl) in
          record {
            made = omega (arith, many, w.made-is, w.len.ensures, c.loop-number.invariant.made);
            within = omega arith;
            few = omega arith;
            written = c.stop_of.ensures.written;
          }
      | in_default-stop_of w ↦
          let same = ap length (under_none c.args.tracks.now c.args.control.now c.loop-number.number c.in-Some.entry.now (omega arith) item
          w.in_default-stop_of.ensures.stop) in
          record {
            made = omega (arith, same, w.made-is, c.loop-number.invariant.made);
            within = omega arith;
            few = omega arith;
            written = c.stop_of.ensures.written;
          }
    ]

pub returns-clause-made : goal.returns-clause-made
returns-clause-made c =
    let none = shown_past c.args.tracks.now c.args.control.now c.loop-number.number (omega arith) (omega arith) in
    omega (arith, ap length none, c.loop-number.invariant.made)

pub returns-clause-few : goal.returns-clause-few
returns-clause-few c = omega arith
