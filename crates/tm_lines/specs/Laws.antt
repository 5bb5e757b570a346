-- What a fault says of the lines of a file, apart from the order in which they are read.
use Rattle.std.specs.Prelude.{◌≡◌, ℕ, ◌+◌, List, ◌∷◌, ◌++◌, length, Result, Ok, Err}
use Rattle.tm_lines.specs.declared.fault.Reason.{Reason}
use Rattle.tm_lines.specs.declared.fault.Reason.TheVariants.{Memory}
use Rattle.tm_lines.specs.declared.fault.Fault.{Fault}
use Rattle.tm_lines.specs.Lines.{step, lines_on}

-- the fault is that of the first refused line: all lines before it are taken, and it is not; its
-- number is that of the first line and as many more as there are lines before it
pub record IsFirstFault
    {S : Type 0}
    (next : S → List (List ℕ) → Result S Reason)
    (number : ℕ)
    (start : S)
    (lines : List (List ℕ))
    (fault : Fault)
    : Type 0
  where
    pub before : List (List ℕ)
    pub line : List ℕ
    pub rest : List (List ℕ)
    pub state : S
    pub whole : lines ≡ before ++ line ∷ rest
    pub number_is : fault.line ≡ number + length before
    pub passed : lines_on next number start before ≡ Ok (fault.line, state)
    pub refused : step next state line ≡ Err fault.reason

-- an answer that is never want of memory
pub record NeverMemory {A : Type 0} (answer : Result A Fault) : Type 0 where
  pub never : (line : ℕ) → answer ≡ Err (record { line = line; reason = Memory }) → ⊥
