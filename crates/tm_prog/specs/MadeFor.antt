-- Under which names a command puts, and whether it prints.
use Rattle.std.specs.Prelude.{◌≡◌, ℕ, Bool, true, false, List, [], ◌∷◌, map, Option, Some, None}
use Rattle.tm_words.specs.declared.command.Command.{Command}
use Rattle.tm_words.specs.declared.command.Command.TheVariants.{Trace, Record, Live, Points, Replay, Make, Load}
use Rattle.tm_prog.specs.Made.{MadeView}

-- the name of a tape, where one is put
abbrev pub tape_name : Option (List ℕ) → List (List ℕ)
tape_name None = []
tape_name (Some tape) = tape ∷ []

-- the names that a command puts, in this order
abbrev pub names_put : Command → List (List ℕ)
names_put (Trace image plan) = []
names_put (Record image plan dump) = dump ∷ []
names_put (Live image plant dump slices len tape) = dump ∷ tape_name tape
names_put (Points image dump) = []
names_put (Replay image dump point workers) = []
names_put (Make number) = []
names_put (Load image task executable new) = new ∷ []

-- whether a command prints a text
abbrev pub prints_text : Command → Bool
prints_text (Trace image plan) = true
prints_text (Record image plan dump) = false
prints_text (Live image plant dump slices len tape) = true
prints_text (Points image dump) = true
prints_text (Replay image dump point workers) = true
prints_text (Make number) = true
prints_text (Load image task executable new) = false

-- what was made is put under the names of the command, and has a text only where the command prints one
pub record IsMadeFor (command : Command) (made : MadeView) : Type 0 where
  pub names : map (λ p. p.name) made.puts ≡ names_put command
  pub silent : prints_text command ≡ false → made.text ≡ []
