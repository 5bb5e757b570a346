use Rattle.std.proofs.Common.{◌^◌, sym, subst, arith}
use Rattle.tm_marker.specs.declared.marker.Marker.{Marker}
use Rattle.tm_task.specs.Standing.{marker_of}
use Rattle.tm_system.specs.Alone.{Alone}
use Rattle.tm_system.specs.ReplayLaws.{IsWalker}
use Rattle.tm_replay.specs.Walking.{alone_of, place_of, IsSafe}
use Rattle.tm_replay.proofs.Running.{has_run, same_alone, safe_epoch}
use Rattle.tm_replay.proofs.walker.Walker.run_on.Goals as goal

pub advance-requires-clause-epoch : goal.advance-requires-clause-epoch
advance-requires-clause-epoch c =
    let safe = subst (λ (m : Marker). IsSafe m c.args.wanted c.surely_before-most.result) c.marker.ensures c.surely_before-most.ensures in
    safe_epoch (marker_of c.args.self.now.task.standing) c.args.wanted c.surely_before-most.result (2 ^ 53) safe (λ e. absurd (omega arith))
    c.requires.epoch

pub returns : goal.returns
returns c =
    let safe = subst (λ (m : Marker). IsSafe m c.args.wanted c.surely_before-most.result) c.marker.ensures c.surely_before-most.ensures in
    let h = has_run (alone_of c.args.self.now) c.args.self.now.used c.args.self.now.made c.args.wanted c.surely_before-most.result c.advance.result
    c.args.self.now.task c.advance.new.self c.requires.sound.walker safe c.advance.ensures.within c.advance.ensures.ran in
    let same = same_alone c.args.self.now c.advance.new.self h.entry in
    record {
      ran = record {
        same = same;
        words = c.advance.ensures.words;
        walks = h.walks;
        nearer = omega (arith, h.higher);
        epoch = h.epoch;
      };
      sound = record {
        walker = subst (λ (a : Alone). IsWalker a (place_of (record c.args.self.now { task = c.advance.new.self }))) (sym same) h.walker;
        some = c.requires.sound.some;
        kept = c.requires.sound.kept;
        used = c.requires.sound.used;
      };
    }
