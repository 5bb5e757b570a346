-- How a status, the plain answer and the world before and after a call belong together.
use Rattle.std.specs.Prelude.{◌≡◌, ◌≢◌, ℕ, ◌⊎◌, List, Option, Some, None, Result, Ok, IsTrue, All}
use Rattle.tm_io.specs.Counts.{Rose, counted}
use Rattle.tm_prog.specs.declared.status.Status.{Status}
use Rattle.tm_prog.specs.declared.status.Status.TheVariants.{Ok as OkStatus, Words, Memory}
use Rattle.tm_words.specs.declared.command.Command.{Command}
use Rattle.tm_prog.specs.Class.{Class, Done, HalfDone, Unasked, Unread}
use Rattle.tm_prog.specs.Made.{MadeView}
use Rattle.tm_prog.specs.Gained.{Gained}
use Rattle.tm_prog.specs.Reads.{IsUnmade}
use Rattle.tm_prog.specs.MadeFor.{names_put, prints_text, IsMadeFor}
use Rattle.tm_prog.specs.Answer.{answer_of}
use Rattle.tm_prog.specs.World.{World, all_done, IsHalfDone}

-- this was made for the command, and is the plain answer where the shelf tells its contents
abbrev pub IsAnswer : Option Command → Gained → MadeView → World → Type 0
IsAnswer None gained made before = ⊥
IsAnswer (Some command) gained made before =
    IsMadeFor command made × (IsTrue before.shelf.tells → answer_of (Some command) gained before.shelf.content ≡ Some (Ok made))

-- all of what answers was done; or a part of it, up to a put or a write that failed; the words ask for
-- nothing, and nothing changed; or nothing was made, by what the files say, and at most a failed get was counted
abbrev pub EndsAs : {A : Type 0} → Type 0 → (MadeView → Type 0) → Option (Result A Status) → Class → Status → World → World → Type 0
EndsAs unasked answers plain Done status before after = (made : MadeView) × answers made × (after ≡ all_done made before)
EndsAs unasked answers plain HalfDone status before after = (made : MadeView) × answers made × IsHalfDone made before after
EndsAs unasked answers plain Unasked status before after = (after ≡ before) × unasked × (status ≡ Words)
EndsAs unasked answers plain class status before after =
    IsUnmade class status plain before.shelf after.shelf × (after.sink ≡ before.sink)

-- so does a call that was asked for a command
abbrev pub Ends : Class → Status → Option Command → Gained → World → World → Type 0
Ends class status command gained before after =
    EndsAs (command ≡ None) (λ made. IsAnswer command gained made before) (answer_of command gained before.shelf.content) class status before after

-- the counts of the shelf's gets and puts and of the sink's faults are as before
pub record CountsStay (before after : World) : Type 0 where
  pub gets : after.shelf.gets ≡ before.shelf.gets
  pub puts : after.shelf.puts ≡ before.shelf.puts
  pub faults : after.sink.faults ≡ before.sink.faults

-- one failed get, put or write was counted, once
pub record GetCounted (before after : World) : Type 0 where
  pub gets : after.shelf.gets ≡ counted before.shelf.gets
  pub puts : after.shelf.puts ≡ before.shelf.puts
  pub faults : after.sink.faults ≡ before.sink.faults

pub record PutCounted (before after : World) : Type 0 where
  pub gets : after.shelf.gets ≡ before.shelf.gets
  pub puts : after.shelf.puts ≡ counted before.shelf.puts
  pub faults : after.sink.faults ≡ before.sink.faults

pub record WriteCounted (before after : World) : Type 0 where
  pub gets : after.shelf.gets ≡ before.shelf.gets
  pub puts : after.shelf.puts ≡ before.shelf.puts
  pub faults : after.sink.faults ≡ counted before.sink.faults

-- only the two faults count anything: a fault of reading one get, a fault of writing one put or one write
abbrev pub Counts : Class → World → World → Type 0
Counts Unread before after = GetCounted before after
Counts HalfDone before after = PutCounted before after ⊎ WriteCounted before after
Counts _ before after = CountsStay before after

-- what no call changes
pub record Stays (before after : World) : Type 0 where
  pub tells : after.shelf.tells ≡ before.shelf.tells
  pub calm : after.shelf.calm ≡ before.shelf.calm
  pub rooms : after.shelf.room ≡ before.shelf.room
  pub sink_calm : after.sink.calm ≡ before.sink.calm

-- the contents under all names stay, but for these
abbrev pub OnlyThese : List (List ℕ) → World → World → Type 0
OnlyThese names before after = (name : List ℕ) → All (λ put. name ≢ put) names → after.shelf.content name ≡ before.shelf.content name

-- but for those that the command puts
abbrev pub OthersStay : Option Command → World → World → Type 0
OthersStay None before after = after.shelf.content ≡ before.shelf.content
OthersStay (Some command) before after = OnlyThese (names_put command) before after

-- the words ask for no text
abbrev pub IsSilent : Option Command → Type 0
IsSilent None = Unit {0}
IsSilent (Some command) = ¬ IsTrue (prints_text command)

-- no count of the shelf or of the sink rose in the call
pub record NoneRose (before after : World) : Type 0 where
  pub gets : ¬ Rose before.shelf.gets after.shelf.gets
  pub puts : ¬ Rose before.shelf.puts after.shelf.puts
  pub faults : ¬ Rose before.sink.faults after.sink.faults

-- what was asked for was done, or there was no memory for it
abbrev pub IsDone : Status → Type 0
IsDone status = (status ≡ OkStatus) ⊎ (status ≡ Memory)
