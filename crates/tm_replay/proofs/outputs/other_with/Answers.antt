use Rattle.std.proofs.Common.{ap, sym, ◌∙◌, arith, get_or}
use Rattle.std.proofs.lemmas.List.{drop_more, drop_all}
use Rattle.tm_marker.specs.declared.entries.OutputEntry.{OutputEntry}
use Rattle.tm_system.specs.Replaying.{shown_with}
use Rattle.tm_text.specs.Views.{view_of}
use Rattle.tm_replay.proofs.Passing.{shown_one, one_passed, one_found, none_logged, same_logged, other_logged, all_passed}
use Rattle.tm_replay.proofs.outputs.other_with.Goals as goal
use Rattle.tm_replay.proofs.outputs.other_with.Goals.{in-Some+else-not-output_eq, in_default}

abbrev no_output : OutputEntry
no_output = record { task = 0; port = 0; value = 0 }

pub returns-then-not-output_eq : goal.returns-then-not-output_eq
returns-then-not-output_eq c =
    let made : OutputEntry = get_or c.args.outputs.now c.loop-index.index no_output in
    one_found c.args.logged.now c.args.seq (view_of c.args.seen.now) c.args.left c.loop-index.index made c.args.outputs.now _ _
    (drop_more c.args.outputs.now c.loop-index.index no_output (omega arith))
    (other_logged (shown_one c.args.seq (view_of c.args.seen.now) made) _ c.in-Some.kept.now (sym c.in-Some.ensures) (sym c.output_eq.ensures ∙ c.if-not-output_eq.true))
    c.loop-index.invariant

pub loop-index-preserved : goal.loop-index-preserved
loop-index-preserved c =
    let made : OutputEntry = get_or c.args.outputs.now c.loop-index.index no_output in
    one_passed c.args.logged.now c.args.seq (view_of c.args.seen.now) c.args.left c.loop-index.index made c.args.outputs.now _
    (drop_more c.args.outputs.now c.loop-index.index no_output (omega arith))
    (elim c.match-logged_at.branch [
      | in-Some+else-not-output_eq w ↦
          same_logged (shown_one c.args.seq (view_of c.args.seen.now) made) _ w.in-Some.kept.now (sym w.in-Some.ensures) (sym w.output_eq.ensures ∙ w.if-not-output_eq.false)
      | in_default w ↦ none_logged (shown_one c.args.seq (view_of c.args.seen.now) made) _ (sym w.in_default.ensures)
    ])
    c.loop-index.invariant

pub returns : goal.returns
returns c =
    all_passed c.args.logged.now _ (shown_with c.args.seq (view_of c.args.seen.now) _) _
    (ap (shown_with c.args.seq (view_of c.args.seen.now)) (drop_all c.loop-index.index c.args.outputs.now c.loop-index-test.false)) c.loop-index.invariant
