use Rattle.std.proofs.Common.{◌≡◌, ◌+◌, ◌++◌, List, drop, ap, sym, arith}
use Rattle.std.proofs.lemmas.List.{drop_all}
use Rattle.tm_system.specs.Replaying.{Shown, shown_with}
use Rattle.tm_text.specs.Views.{view_of}
use Rattle.tm_replay.specs.Comparing.{shown_ends}
use Rattle.tm_replay.proofs.Passing.{ends_runs, ends_rests, piece_found, piece_left, piece_many, all_passed}
use Rattle.tm_replay.proofs.outputs.other_last.Goals as goal
use Rattle.tm_replay.proofs.outputs.other_last.Goals.{then-track-running+in_default, else-track-running}

pub returns-in-Some : goal.returns-in-Some
returns-in-Some c =
    piece_found c.args.logged.now c.loop-track.left _ _ _ c.in-Some.other _
    (ends_runs c.args.seq c.args.running c.loop-track.track-index c.args.tracks.now c.track-item.result c.as_slice-outputs.result.now
    c.track-item.is (omega arith) c.as_slice-outputs.ensures c.if-track-running.true)
    (sym c.in-Some.ensures) c.loop-track.invariant.same

pub loop-track-preserved : goal.loop-track-preserved
loop-track-preserved c = elim c.if-track-running.branch [
  | then-track-running+in_default w ↦
      let rest : List Shown = shown_ends c.args.seq c.args.running (drop (c.loop-track.track-index + 1) c.args.tracks.now) in
      let is : shown_ends c.args.seq c.args.running (drop c.loop-track.track-index c.args.tracks.now)
      ≡ shown_with c.args.seq (view_of c.track-item.result.last) w.as_slice-outputs.result.now ++ rest =
      ends_runs c.args.seq c.args.running c.loop-track.track-index c.args.tracks.now c.track-item.result w.as_slice-outputs.result.now
      c.track-item.is (omega arith) w.as_slice-outputs.ensures w.if-track-running.true in
      rw w.left-is (record {
        same = piece_left c.args.logged.now c.args.seq c.loop-track.left (view_of c.track-item.result.last) w.as_slice-outputs.result.now rest _ _ is
            w.in_default.ensures c.loop-track.invariant.same;
        some = omega (arith, piece_many c.args.seq (view_of c.track-item.result.last) w.as_slice-outputs.result.now rest _ is, c.loop-track.invariant.some);
      })
  | else-track-running w ↦
      let is = ends_rests c.args.seq c.args.running c.loop-track.track-index c.args.tracks.now c.track-item.result c.track-item.is (omega arith)
      w.if-track-running.false in
      rw w.left-is (record { same = rw is at c.loop-track.invariant.same; some = rw is at c.loop-track.invariant.some })
]

pub returns : goal.returns
returns c =
    all_passed c.args.logged.now c.loop-track.left _ _
    (ap (shown_ends c.args.seq c.args.running) (drop_all c.loop-track.track-index c.args.tracks.now c.loop-track-test.false)) c.loop-track.invariant.same
