-- Steps that may refuse, one after another, and when code answers as they do.
use Rattle.std.specs.Prelude.{◌≡◌, ℕ, Bool, if◌then◌else◌, Result, Ok, Err}
use Rattle.tm_lines.specs.declared.fault.Reason.{Reason}
use Rattle.tm_lines.specs.declared.fault.Reason.TheVariants.{Range, Repeated, Limit, Memory}
use Rattle.tm_lines.specs.declared.fault.Fault.{Fault}

infixl 10 ◌>>=◌
-- the second step goes on with what the first gave
abbrev pub ◌>>=◌ : {A B E : Type 0} → Result A E → (A → Result B E) → Result B E
(Ok x) >>= next = next x
(Err e) >>= next = Err e

-- what a line of this number gave, or its fault
abbrev pub on_line : {A : Type 0} → ℕ → Result A Reason → Result A Fault
on_line number (Ok x) = Ok x
on_line number (Err reason) = Err (record { line = number; reason = reason })

-- what a line makes, whose last three tests are these
abbrev pub tested : {A : Type 0} → Bool → Bool → Bool → A → Result A Reason
tested out_of_range repeated over made =
    if out_of_range then Err Range
    else (if repeated then Err Repeated
    else (if over then Err Limit else Ok made))

-- the fact holds, unless the reason is want of memory, of which nothing is said
abbrev pub UnlessMemory : Reason → Type 0 → Type 0
UnlessMemory Memory fact = Unit {0}
UnlessMemory _ fact = fact

-- the result of a line, seen through `view`, is what the definition gives; want of memory may come in its place
abbrev pub Answers : {A B : Type 0} → (A → B) → Result A Reason → Result B Reason → Type 0
Answers view (Ok x) given = given ≡ Ok (view x)
Answers view (Err reason) given = UnlessMemory reason (given ≡ Err reason)

-- the result of a file, seen through `view`, is what the definition gives; want of memory may come in its place
abbrev pub Gives : {A B : Type 0} → (A → B) → Result A Fault → Result B Fault → Type 0
Gives view (Ok x) given = given ≡ Ok (view x)
Gives view (Err fault) given = UnlessMemory fault.reason (given ≡ Err fault)
