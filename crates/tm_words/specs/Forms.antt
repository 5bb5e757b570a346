-- What the texts of a form ask for.
use Rattle.std.specs.Prelude.{[], ◌∷◌, Option, Some}
use Rattle.tm_words.specs.declared.kind.Kind.TheVariants as kind
use Rattle.tm_words.specs.declared.form.Form.{Form}
use Rattle.tm_words.specs.declared.form.Form.TheVariants as form
use Rattle.tm_words.specs.declared.command.Command.{Command}
use Rattle.tm_words.specs.Command.{asked}
use Rattle.tm_words.specs.declared.watch.WatchForm.{WatchForm}
use Rattle.tm_words.specs.declared.command.WatchCommand.{WatchCommand}
use Rattle.tm_words.specs.Watch.{watch_asked}

abbrev pub asked_by : Form → Option Command
asked_by (form.Trace image plan) = asked kind.Trace (image.now ∷ plan.now ∷ []) []
asked_by (form.Record image plan dump) = asked kind.Record (image.now ∷ plan.now ∷ dump.now ∷ []) []
asked_by (form.Live image plant dump slices len tape) =
    asked kind.Live (image.now ∷ plant.now ∷ dump.now ∷ []) (Some slices.now ∷ Some len.now ∷ tape ∷ [])
asked_by (form.Points image dump) = asked kind.Points (image.now ∷ dump.now ∷ []) []
asked_by (form.Replay image dump from workers) = asked kind.Replay (image.now ∷ dump.now ∷ []) (Some from.now ∷ Some workers.now ∷ [])
asked_by (form.Make number) = asked kind.Make (number.now ∷ []) []
asked_by (form.Load image task executable new) = asked kind.Load (image.now ∷ task.now ∷ executable.now ∷ new.now ∷ []) []

abbrev pub watch_asked_by : WatchForm → Option WatchCommand
watch_asked_by form =
    watch_asked (form.image.now ∷ form.plant.now ∷ form.prefix.now ∷ [])
    (Some form.slices.now ∷ Some form.len.now ∷ Some form.observers.now ∷ Some form.looks.now ∷ [])
