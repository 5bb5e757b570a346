-- How a call ends, by what its reading, its puts and its writes gave.
use Rattle.std.proofs.Common.{◌≡◌, Option, Some, None, Result, Ok, IsTrue, refl, subst}
use Rattle.tm_irq.specs.declared.bench.Bench.{Bench}
use Rattle.tm_io.specs.Shelf.{ShelfView}
use Rattle.tm_io.specs.Sink.{SinkView}
use Rattle.tm_prog.specs.declared.status.Status.{Status}
use Rattle.tm_words.specs.declared.command.Command.{Command}
use Rattle.tm_prog.specs.Class.{Class, Done, HalfDone, Unasked, Unread, Starved, Refusal}
use Rattle.tm_prog.specs.Made.{MadeView}
use Rattle.tm_prog.specs.Gained.{Gained}
use Rattle.tm_prog.specs.Reads.{IsUnmade}
use Rattle.tm_prog.specs.MadeFor.{IsMadeFor}
use Rattle.tm_prog.specs.Answer.{made_of, answer_of}
use Rattle.tm_prog.specs.World.{World, world}
use Rattle.tm_prog.specs.Outcome.{Ends, EndsAs, IsAnswer}
use Rattle.tm_prog.specs.BenchEnds.{BenchEnds}

-- nothing was made, and the sink was not touched
pub unmade_as : {A : Type 0} (unasked : Type 0) (answers : MadeView → Type 0) (plain : Option (Result A Status)) (class : Class) (status : Status)
    (before after : ShelfView) (sink : SinkView) → IsUnmade class status plain before after →
    EndsAs unasked answers plain class status (world before sink) (world after sink)
unmade_as unasked answers plain Done status before after sink none = absurd none
unmade_as unasked answers plain HalfDone status before after sink none = absurd none
unmade_as unasked answers plain Unasked status before after sink none = absurd none
unmade_as unasked answers plain Unread status before after sink u = (u, refl)
unmade_as unasked answers plain Starved status before after sink u = (u, refl)
unmade_as unasked answers plain Refusal status before after sink u = (u, refl)

pub unmade : (class : Class) (status : Status) (asked : Option Command) (command : Command) (gained : Gained) (before after : ShelfView) (sink : SinkView) →
    Some command ≡ asked → IsUnmade class status (made_of command gained before.content) before after →
    Ends class status asked gained (world before sink) (world after sink)
unmade class status asked command gained before after sink is u =
    unmade_as (asked ≡ None) (λ made. IsAnswer asked gained made (world before sink)) (answer_of asked gained before.content) class status before after sink
    (subst (λ (q : Option Command). IsUnmade class status (answer_of q gained before.content) before after) is u)

-- what was made is the plain answer, after gets that left the shelf as it was
pub made_is : (asked : Option Command) (command : Command) (gained : Gained) (made : MadeView) (before : World) →
    Some command ≡ asked → IsMadeFor command made →
    (IsTrue before.shelf.tells → made_of command gained before.shelf.content ≡ Some (Ok made)) → IsAnswer asked gained made before
made_is asked command gained made before is for told = subst (λ (q : Option Command). IsAnswer q gained made before) is (for, told)

-- where nothing was made, the bench is as it was
pub bench_rests : {A : Type 0} (class : Class) (status : Status) (plain : Option (Result A Status)) (command : Option Command)
    (shelf before after : ShelfView) (bench bench' : Bench) → IsUnmade class status plain before after → bench' ≡ bench → BenchEnds class command shelf bench bench'
bench_rests Done status plain command shelf before after bench bench' none same = absurd none
bench_rests HalfDone status plain command shelf before after bench bench' none same = absurd none
bench_rests Unasked status plain command shelf before after bench bench' none same = absurd none
bench_rests Unread status plain command shelf before after bench bench' u same = same
bench_rests Starved status plain command shelf before after bench bench' u same = same
bench_rests Refusal status plain command shelf before after bench bench' u same = same
