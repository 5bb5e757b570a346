-- How a call of `watch` ends, and what it leaves of the bench.
use Rattle.std.specs.Prelude.{◌≡◌, ℕ, List, [], map, Option, Some, None, Result, Ok, Err, IsTrue, IsSome}
use Rattle.tm_irq.specs.declared.bench.Bench.{Bench}
use Rattle.tm_irq.specs.Bench.{bench_lists}
use Rattle.tm_io.specs.Shelf.{ShelfView}
use Rattle.tm_plant.specs.declared.plant.Act.{Act}
use Rattle.tm_image.specs.Image.{ImageView}
use Rattle.tm_live.specs.Tape.{tape_of}
use Rattle.tm_observe.specs.Published.{OnlyGrew}
use Rattle.tm_words.specs.declared.command.WatchCommand.{WatchCommand}
use Rattle.tm_prog.specs.declared.status.Status.{Status}
use Rattle.tm_prog.specs.declared.status.Status.TheVariants.{Words}
use Rattle.tm_prog.specs.Class.{Class, Done, HalfDone, Starved}
use Rattle.tm_prog.specs.Made.{MadeView}
use Rattle.tm_prog.specs.Gained.{Gained}
use Rattle.tm_prog.specs.Reads.{◌>>=◌}
use Rattle.tm_prog.specs.Files.{image_in, plant_in}
use Rattle.tm_prog.specs.World.{World}
use Rattle.tm_prog.specs.Outcome.{EndsAs}
use Rattle.tm_prog.specs.BenchEnds.{RanPlant}
use Rattle.tm_prog.specs.WatchCommand.{IsWatchMade, watch_names}

-- what is run: the image and the plant of the files, or the first refusal
abbrev pub files_said : (List ℕ → Option (List ℕ)) → WatchCommand → Option (Result (ImageView × List (List Act)) Status)
files_said content asked =
    image_in (content asked.image) >>= λ image. plant_in (content asked.plant) >>= λ plant. Some (Ok (image, plant))

-- the same for the words of a call; words of no form are refused
abbrev pub watched_said : (List ℕ → Option (List ℕ)) → Option WatchCommand → Option (Result (ImageView × List (List Act)) Status)
watched_said content None = Some (Err Words)
watched_said content (Some asked) = files_said content asked

-- this may be made: of the run of the first file's image on the tape of the takes and the latches that came
pub record IsWatchOf (asked : WatchCommand) (gained : Gained) (made : MadeView) (shelf : ShelfView) : Type 0 where
  pub image : ImageView
  pub told : IsTrue shelf.tells → image_in (shelf.content asked.image) ≡ Some (Ok image)
  pub names : map (λ p. p.name) made.puts ≡ watch_names asked.prefix asked.observers
  pub is : IsWatchMade asked image (tape_of gained.takes gained.latches asked.len) gained.audit made

abbrev pub IsWatch : Option WatchCommand → Gained → MadeView → ShelfView → Type 0
IsWatch None gained made shelf = ⊥
IsWatch (Some asked) gained made shelf = IsWatchOf asked gained made shelf

-- so ends a call that was asked to watch
abbrev pub WatchEnds : Class → Status → Option WatchCommand → Gained → World → World → Type 0
WatchEnds class status asked gained before after =
    EndsAs (asked ≡ None) (λ made. IsWatch asked gained made before.shelf) (watched_said before.shelf.content asked) class status before after

-- the bench is open as before, and its lists only grew, by at most so many takes
pub record IsPartlyRun (slices : ℕ) (before after : Bench) : Type 0 where
  pub still_open : IsSome after.kernel
  pub closed : after.closed ≡ before.closed
  pub grew : OnlyGrew slices (bench_lists before) (bench_lists after)

-- with all done, or a put or a write that failed, the bench was driven by the plant of the second file and then closed;
-- with want of memory it is open, and its lists only grew; else it is as before
abbrev pub WatchBench : Class → Option WatchCommand → ShelfView → Bench → Bench → Type 0
WatchBench Done (Some asked) shelf before after = RanPlant asked.slices (plant_in (shelf.content asked.plant)) shelf.tells before after
WatchBench HalfDone (Some asked) shelf before after = RanPlant asked.slices (plant_in (shelf.content asked.plant)) shelf.tells before after
WatchBench Starved (Some asked) shelf before after = IsPartlyRun asked.slices before after
WatchBench _ _ shelf before after = after ≡ before

-- the names that the words ask to put
abbrev pub names_watched : Option WatchCommand → List (List ℕ)
names_watched None = []
names_watched (Some asked) = watch_names asked.prefix asked.observers
