use Rattle.std.proofs.Common.{◌∙◌, ◌++◌, ap, arith, List, ℕ}
use Rattle.tm_spelling.specs.Story.{spelled}
use Rattle.tm_text.specs.Views.{replay_story}
use Rattle.tm_image.specs.Image.{shape_of}
use Rattle.tm_replay.proofs.Wholes.{entries_kept}
use Rattle.tm_prog.proofs.Told.{ended_small, states_small, text_is}
use Rattle.tm_prog.proofs.commands.replay.text_of.Goals as goal

pub write_replay-requires-clause-kept : goal.write_replay-requires-clause-kept
write_replay-requires-clause-kept c =
    let kept = entries_kept c.args.window.now c.args._from c.requires.replay.accepted in
    omega (arith, kept, c.requires.replay.from)

pub write_replay-requires-clause-ending : goal.write_replay-requires-clause-ending
write_replay-requires-clause-ending c = ended_small c.args.window.now (shape_of c.args._image.now) c.requires.formed

pub write_replay-requires-clause-named : goal.write_replay-requires-clause-named
write_replay-requires-clause-named c = states_small c.args.window.now (shape_of c.args._image.now) c.attest.ensures c.requires.formed

pub returns : goal.returns
returns c =
    c.in_ok-write_replay.ensures.ok ∙
    ap (λ (text : List ℕ). text ++ spelled (replay_story c.args.replay.now c.args.window.now)) c.new-text.ensures.items ∙
    text_is c.args._image.now c.args.window.now c.args._from c.args.replay.now c.requires.replay
