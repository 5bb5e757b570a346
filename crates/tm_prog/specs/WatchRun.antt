-- What is ready for a run that observers look at.
use Rattle.std.specs.Prelude.{◌≡◌, List, [], length, map, All}
use Rattle.tm_watch.specs.Views.{Watched, newcomer}
use Rattle.tm_observe.specs.Lookers.{LookerView}
use Rattle.tm_words.specs.declared.command.WatchCommand.{WatchCommand}
use Rattle.tm_prog.specs.declared.watch_run.WatchRun.{WatchRun}
use Rattle.tm_prog.specs.LiveRoom.{IsRoom}

-- each observer has seen no slice of the watch and was told nothing
abbrev pub AreNewcomers : Watched → List LookerView → Type 0
AreNewcomers watch lookers = All (λ observer. observer ≡ newcomer watch.book watch.image) (map (λ looker. looker.observer) lookers)

-- a run of which nothing was run: a watch of its image that published nothing, an observer for each that is asked
-- for, and room for the tape and for the text of the audit
pub record IsWatchOpen (asked : WatchCommand) (run : WatchRun) : Type 0 where
  pub image : run.watch.image ≡ run.image
  pub list : run.watch.list ≡ []
  pub count : length run.lookers.items ≡ asked.observers
  pub observers : AreNewcomers run.watch run.lookers.items
  pub tape : run.tape ≡ record { slices = []; room = asked.slices }
  pub text : IsRoom 2048 run.text
