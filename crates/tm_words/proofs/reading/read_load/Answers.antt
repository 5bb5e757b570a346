use Rattle.std.proofs.Common.{◌∙◌, ap}
use Rattle.std.specs.Prelude.{codes, option_map}
use Rattle.clap.specs.Words.{App, takes}
use Rattle.tm_words.specs.declared.command.Command.TheVariants.{Load}
use Rattle.tm_words.specs.Numbers.{task_in}
use Rattle.tm_words.specs.Parsers.{load_words}
use Rattle.tm_words.proofs.Parsing.{told, there, same_text, load_taken, load_image, load_task, load_executable, load_new}
use Rattle.tm_words.proofs.reading.read_load.Goals as goal

pub matches_of-requires-clause-taken : goal.matches_of-requires-clause-taken
matches_of-requires-clause-taken c = ap (λ (a : App). takes a (load_words c.args.image.now c.args.task.now c.args.executable.now c.args.new.now)) c.in_ok-load_parser.ensures ∙ load_taken c.args.image.now c.args.task.now c.args.executable.now c.args.new.now

pub name_in-requires : goal.name_in-requires
name_in-requires c = there (told (load_words c.args.image.now c.args.task.now c.args.executable.now c.args.new.now) (codes "image") c.in_ok-load_parser.ensures (c.in_ok-matches.ensures (codes "image")) (load_image c.args.image.now c.args.task.now c.args.executable.now c.args.new.now))

pub name_in-requires-2 : goal.name_in-requires-2
name_in-requires-2 c = there (told (load_words c.args.image.now c.args.task.now c.args.executable.now c.args.new.now) (codes "executable") c.in_ok-load_parser.ensures (c.in_ok-matches.ensures (codes "executable")) (load_executable c.args.image.now c.args.task.now c.args.executable.now c.args.new.now))

pub name_in-requires-3 : goal.name_in-requires-3
name_in-requires-3 c = there (told (load_words c.args.image.now c.args.task.now c.args.executable.now c.args.new.now) (codes "new") c.in_ok-load_parser.ensures (c.in_ok-matches.ensures (codes "new")) (load_new c.args.image.now c.args.task.now c.args.executable.now c.args.new.now))

pub text_in-requires : goal.text_in-requires
text_in-requires c = there (told (load_words c.args.image.now c.args.task.now c.args.executable.now c.args.new.now) (codes "task") c.in_ok-load_parser.ensures (c.in_ok-matches.ensures (codes "task")) (load_task c.args.image.now c.args.task.now c.args.executable.now c.args.new.now))

pub returns-in-Some : goal.returns-in-Some
returns-in-Some c =
    let image = same_text c.in_ok-image.ensures (told (load_words c.args.image.now c.args.task.now c.args.executable.now c.args.new.now) (codes "image") c.in_ok-load_parser.ensures (c.in_ok-matches.ensures (codes "image")) (load_image c.args.image.now c.args.task.now c.args.executable.now c.args.new.now)) in
    let executable = same_text c.in_ok-executable.ensures (told (load_words c.args.image.now c.args.task.now c.args.executable.now c.args.new.now) (codes "executable") c.in_ok-load_parser.ensures (c.in_ok-matches.ensures (codes "executable")) (load_executable c.args.image.now c.args.task.now c.args.executable.now c.args.new.now)) in
    let new = same_text c.in_ok-new.ensures (told (load_words c.args.image.now c.args.task.now c.args.executable.now c.args.new.now) (codes "new") c.in_ok-load_parser.ensures (c.in_ok-matches.ensures (codes "new")) (load_new c.args.image.now c.args.task.now c.args.executable.now c.args.new.now)) in
    let task = same_text c.text_in.ensures (told (load_words c.args.image.now c.args.task.now c.args.executable.now c.args.new.now) (codes "task") c.in_ok-load_parser.ensures (c.in_ok-matches.ensures (codes "task")) (load_task c.args.image.now c.args.task.now c.args.executable.now c.args.new.now)) in
    let number = c.in-Some.ensures ∙ ap task_in task in
    rw (image, executable, new) (ap (option_map (λ number. Load c.args.image.now number c.args.executable.now c.args.new.now)) number)

pub returns : goal.returns
returns c =
    let task = same_text c.text_in.ensures (told (load_words c.args.image.now c.args.task.now c.args.executable.now c.args.new.now) (codes "task") c.in_ok-load_parser.ensures (c.in_ok-matches.ensures (codes "task")) (load_task c.args.image.now c.args.task.now c.args.executable.now c.args.new.now)) in
    ap (option_map (λ number. Load c.args.image.now number c.args.executable.now c.args.new.now)) (c.in-None.ensures ∙ ap task_in task)
