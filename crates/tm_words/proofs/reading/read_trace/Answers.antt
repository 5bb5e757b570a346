use Rattle.std.proofs.Common.{◌∙◌, ap, ap₂, Some}
use Rattle.std.specs.Prelude.{codes}
use Rattle.clap.specs.Words.{App, takes}
use Rattle.tm_words.specs.declared.command.Command.TheVariants.{Trace}
use Rattle.tm_words.specs.Parsers.{trace_words}
use Rattle.tm_words.proofs.Parsing.{told, there, same_text, trace_taken, trace_image, trace_plan}
use Rattle.tm_words.proofs.reading.read_trace.Goals as goal

pub matches_of-requires-clause-taken : goal.matches_of-requires-clause-taken
matches_of-requires-clause-taken c = ap (λ (a : App). takes a (trace_words c.args.image.now c.args.plan.now)) c.in_ok-trace_parser.ensures ∙ trace_taken c.args.image.now c.args.plan.now

pub name_in-requires : goal.name_in-requires
name_in-requires c = there (told (trace_words c.args.image.now c.args.plan.now) (codes "image") c.in_ok-trace_parser.ensures (c.in_ok-matches.ensures (codes "image")) (trace_image c.args.image.now c.args.plan.now))

pub name_in-requires-2 : goal.name_in-requires-2
name_in-requires-2 c = there (told (trace_words c.args.image.now c.args.plan.now) (codes "plan") c.in_ok-trace_parser.ensures (c.in_ok-matches.ensures (codes "plan")) (trace_plan c.args.image.now c.args.plan.now))

pub returns : goal.returns
returns c =
    ap₂ (λ image plan. Some (Trace image plan))
    (same_text c.in_ok-image.ensures (told (trace_words c.args.image.now c.args.plan.now) (codes "image") c.in_ok-trace_parser.ensures (c.in_ok-matches.ensures (codes "image")) (trace_image c.args.image.now c.args.plan.now)))
    (same_text c.in_ok-plan.ensures (told (trace_words c.args.image.now c.args.plan.now) (codes "plan") c.in_ok-trace_parser.ensures (c.in_ok-matches.ensures (codes "plan")) (trace_plan c.args.image.now c.args.plan.now)))
