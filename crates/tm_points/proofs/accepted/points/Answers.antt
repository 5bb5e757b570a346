use Rattle.std.proofs.Common.{◌+◌}
use Rattle.tm_points.specs.Points.{is_accepted}
use Rattle.tm_points.proofs.Candidates.{finds_all}
use Rattle.tm_points.proofs.accepted.points.Goals as goal

pub returns : goal.returns
returns g c =
    let found = c.candidates.ensures in
    finds_all (is_accepted c.args.window.now) c.candidates.result.start c.candidates.result.end (c.args.window.now.control.total + 1)
    c.in_ok-accepted.accepted.items c.from.result c.from.ensures c.in_ok-accepted.ensures found.end found.known found.others
