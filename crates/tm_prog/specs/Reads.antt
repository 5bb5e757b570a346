-- What a reading of files gives, and what it leaves of the shelf.
use Rattle.std.specs.Prelude.{◌≡◌, ◌≢◌, ℕ, ◌⊎◌, List, length, nat_le, if◌then◌else◌, Option, Some, None, Result, Ok, Err, IsTrue}
use Rattle.tm_lines.specs.declared.fault.Reason.TheVariants as reason
use Rattle.tm_dump.specs.declared.fault.DumpFault.TheVariants as dump
use Rattle.tm_elf.specs.declared.fault.ElfFault.TheVariants as elf
use Rattle.tm_io.specs.Shelf.{ShelfView, get_failed}
use Rattle.tm_prog.specs.declared.status.Status.{Status}
use Rattle.tm_prog.specs.declared.status.Status.TheVariants as status
use Rattle.tm_prog.specs.Class.{Class, class_of, Done, HalfDone, Unasked, Unread, Starved, Refusal}

infixl 10 ◌>>=◌
-- what files say, one after another: none where a file isn't there, and the first refusal
abbrev pub ◌>>=◌ : {A B : Type 0} → Option (Result A Status) → (A → Option (Result B Status)) → Option (Result B Status)
None >>= next = None
(Some (Err status)) >>= next = Some (Err status)
(Some (Ok value)) >>= next = next value

-- what the file with this number says, or the refusal of its length
abbrev pub file_in : {A : Type 0} → ℕ → ℕ → (List ℕ → Result A Status) → Option (List ℕ) → Option (Result A Status)
file_in limit number reading None = None
file_in limit number reading (Some bytes) = Some (if nat_le (length bytes) limit then reading bytes else Err (status.TooLong number))

-- what a refusal may carry, whatever the files are: the number of one of the files, and never the reason
-- that memory was wanting
abbrev pub CanRefuse : Status → Type 0
CanRefuse (status.TooLong file) = (file ≡ 1) ⊎ (file ≡ 2)
CanRefuse (status.Image fault) = fault.reason ≢ reason.Memory
CanRefuse (status.Plan fault) = fault.reason ≢ reason.Memory
CanRefuse (status.Dump fault) = fault ≢ dump.Memory
CanRefuse (status.Elf fault) = fault ≢ elf.Memory
CanRefuse _ = Unit {0}

-- nothing is made, and why: a get failed, though not of a file that was there on a calm shelf; memory was
-- wanting; or what the files say is refused so
abbrev pub IsUnmade : {A : Type 0} → Class → Status → Option (Result A Status) → ShelfView → ShelfView → Type 0
IsUnmade Done status plain before after = ⊥
IsUnmade HalfDone status plain before after = ⊥
IsUnmade Unasked status plain before after = ⊥
IsUnmade Unread status plain before after = (after ≡ get_failed before) × (IsTrue before.tells → IsTrue before.calm → plain ≡ None)
IsUnmade Starved status plain before after = after ≡ before
IsUnmade Refusal status plain before after = (after ≡ before) × CanRefuse status × (IsTrue before.tells → plain ≡ Some (Err status))

-- what was read is what the files say, with what became of the shelf
abbrev pub Reads : {A : Type 0} → Option (Result A Status) → ShelfView → ShelfView → Result A Status → Type 0
Reads plain before after (Ok value) = (after ≡ before) × (IsTrue before.tells → plain ≡ Some (Ok value))
Reads plain before after (Err status) = IsUnmade (class_of status) status plain before after

-- bytes are refused so
abbrev pub RefusesBy : {A : Type 0} → Class → Status → Result A Status → Type 0
RefusesBy Starved status said = Unit {0}
RefusesBy Refusal status said = CanRefuse status × (said ≡ Err status)
RefusesBy _ status said = ⊥

-- what was read of bytes is what they say; want of memory may come in its place
abbrev pub Says : {A : Type 0} → Result A Status → Result A Status → Type 0
Says said (Ok value) = said ≡ Ok value
Says said (Err status) = RefusesBy (class_of status) status said
