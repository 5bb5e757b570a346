use Rattle.tm_text.proofs.Stops.{whole_text}
use Rattle.tm_text.proofs.replay.put_replay.Goals as goal

pub returns-clause-ok : goal.returns-clause-ok
returns-clause-ok c =
    let starts = rw c.as_slice-tracks.ensures at c.in_ok-put_starts.ensures.ok in
    let blocks = rw (c.as_slice-tracks.ensures, c.control.ensures) at c.in_ok-put_blocks.ensures.ok in
    let lasts = rw (c.as_slice-tracks.ensures, c.tail.ensures) at c.in_ok-put_end.ensures.ok in
    whole_text c.args.replay.now c.args.window.now _ _ _ _ _ c.in_ok-put_start_line.ensures.ok starts blocks lasts
