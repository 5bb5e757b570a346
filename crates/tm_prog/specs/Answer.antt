-- The plain answer to a command: what the contents of the named files decide, and for `live` what the bench
-- gained in the call.
use Rattle.std.specs.Prelude.{ℕ, List, Option, Some, None, Result, Err}
use Rattle.tm_prog.specs.declared.status.Status.{Status}
use Rattle.tm_prog.specs.declared.status.Status.TheVariants.{Words}
use Rattle.tm_words.specs.declared.command.Command.{Command}
use Rattle.tm_words.specs.declared.command.Command.TheVariants.{Trace, Record, Live, Points, Replay, Make, Load}
use Rattle.tm_prog.specs.Made.{MadeView}
use Rattle.tm_prog.specs.Gained.{Gained}
use Rattle.tm_prog.specs.TraceCommand.{trace_made}
use Rattle.tm_prog.specs.RecordCommand.{record_made}
use Rattle.tm_prog.specs.LiveCommand.{live_made}
use Rattle.tm_prog.specs.PointsCommand.{points_made}
use Rattle.tm_prog.specs.ReplayCommand.{replay_made}
use Rattle.tm_prog.specs.MakeCommand.{make_made}
use Rattle.tm_prog.specs.LoadCommand.{load_made}

-- the answer to a command over the contents of files by name, where the files that it needs are there
abbrev pub made_of : Command → Gained → (List ℕ → Option (List ℕ)) → Option (Result MadeView Status)
made_of (Trace image plan) gained content = trace_made content image plan
made_of (Record image plan dump) gained content = record_made content image plan dump
made_of (Live image plant dump slices len tape) gained content = live_made content image plant dump slices len tape gained
made_of (Points image dump) gained content = points_made content image dump
made_of (Replay image dump point workers) gained content = replay_made content image dump point
made_of (Make number) gained content = make_made number
made_of (Load image task executable new) gained content = load_made content image task executable new

-- the answer to the words of a call; words of no form are refused
abbrev pub answer_of : Option Command → Gained → (List ℕ → Option (List ℕ)) → Option (Result MadeView Status)
answer_of None gained content = Some (Err Words)
answer_of (Some command) gained content = made_of command gained content
