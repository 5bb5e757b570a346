-- The numbers and the lines of the statuses.
use Rattle.std.specs.Prelude.{ℕ, Bool, true, false, List, [], ◌∷◌, ◌++◌, codes, decimal}
use Rattle.tm_lines.specs.declared.fault.Fault.{Fault}
use Rattle.tm_lines.specs.declared.fault.Reason.{Reason}
use Rattle.tm_lines.specs.declared.fault.Reason.TheVariants as reason
use Rattle.tm_spelling.specs.Lines.{marker_text}
use Rattle.tm_dump.specs.declared.fault.DumpFault.{DumpFault}
use Rattle.tm_dump.specs.declared.fault.DumpFault.TheVariants as dump
use Rattle.tm_elf.specs.declared.fault.ElfFault.{ElfFault}
use Rattle.tm_elf.specs.declared.fault.ElfFault.TheVariants as elf
use Rattle.tm_elf.specs.Faults.{why_number}
use Rattle.tm_points.specs.declared.finder.Lost.{Lost}
use Rattle.tm_points.specs.declared.finder.Lost.TheVariants as lost
use Rattle.tm_system.specs.declared.diverged.Diverged.{Diverged}
use Rattle.tm_system.specs.declared.diverged.Why.{Why}
use Rattle.tm_system.specs.declared.diverged.Why.TheVariants as why
use Rattle.tm_prog.specs.declared.status.Status.{Status}
use Rattle.tm_prog.specs.declared.status.Status.TheVariants as status

-- the exit status
abbrev pub code_of : Status → ℕ
code_of status.Ok = 0
code_of status.Words = 2
code_of status.ReadFault = 3
code_of (status.Image fault) = 4
code_of (status.Plan fault) = 5
code_of (status.Dump fault) = 6
code_of (status.Point missing) = 7
code_of (status.Diverged found) = 8
code_of status.WriteFault = 9
code_of (status.TooLong file) = 10
code_of status.Memory = 11
code_of (status.Elf fault) = 13
code_of (status.NoTask task) = 14

-- the name of a reason
abbrev pub reason_name : Reason → List ℕ
reason_name reason.Form = codes "form"
reason_name reason.Number = codes "number"
reason_name reason.Range = codes "range"
reason_name reason.Repeated = codes "repeated"
reason_name reason.Missing = codes "missing"
reason_name reason.Limit = codes "limit"
reason_name reason.Memory = codes "memory"

-- the line of a refused text: what it was to be, the line's number, and the reason
abbrev pub refusal_line : List ℕ → Fault → List ℕ
refusal_line kind fault =
    codes "tm: " ++ kind ++ codes " line " ++ decimal fault.line ++ codes " " ++ reason_name fault.reason ++ 10 ∷ []

-- what is wrong with a dump
abbrev pub dump_text : DumpFault → List ℕ
dump_text dump.Magic = codes "magic"
dump_text (dump.Version version) = codes "version " ++ decimal version
dump_text (dump.Digest found computed) = codes "digest"
dump_text (dump.OtherImage found wanted) = codes "other image"
dump_text (dump.Field place) = codes "field " ++ decimal place
dump_text (dump.Extra place) = codes "extra " ++ decimal place
dump_text dump.Memory = codes "memory"

-- what is wrong with an executable
abbrev pub elf_text : ElfFault → List ℕ
elf_text (elf.Short needed length) = codes "short " ++ decimal needed ++ codes " " ++ decimal length
elf_text (elf.Field place) = codes "field " ++ decimal place
elf_text (elf.Segment index why) = codes "segment " ++ decimal index ++ codes " " ++ decimal (why_number why)
elf_text elf.NoText = codes "no text"
elf_text (elf.Entry value) = codes "entry " ++ decimal value
elf_text elf.Memory = codes "memory"

-- what is lost of a point
abbrev pub lost_text : Lost → List ℕ
lost_text (lost.Unknown total) = codes "unknown " ++ decimal total
lost_text (lost.Control first) = codes "control " ++ decimal first
lost_text (lost.Check task epoch) = codes "check " ++ decimal task ++ codes " " ++ decimal epoch
lost_text (lost.Data task needed first) =
    codes "data " ++ decimal task ++ codes " " ++ decimal needed ++ codes " " ++ decimal first

-- why a task does not do what the window says
abbrev pub why_name : Why → List ℕ
why_name why.Passed = codes "passed"
why_name why.Moved = codes "moved"
why_name (why.Faulted cause) = codes "faulted"
why_name why.NoFault = codes "no fault"
why_name (why.NoEntry total) = codes "no entry"
why_name (why.OtherService logged called) = codes "other service"
why_name (why.Left used total) = codes "left"
why_name (why.OtherOutput logged made) = codes "other output"

-- the line of a replay that diverged, up to the marker that was reached
abbrev pub diverged_begun : Diverged → List ℕ
diverged_begun found = codes "tm: diverged at " ++ decimal found.seq ++ codes " task " ++ decimal found.task ++ codes " reached "

-- its end, with the reason
abbrev pub why_end : List ℕ → List ℕ
why_end why = codes " " ++ why ++ 10 ∷ []

-- where a replay diverged, and why
abbrev pub diverged_line : Diverged → List ℕ
diverged_line found =
    diverged_begun found ++ marker_text found.reached ++ codes " wanted " ++ marker_text found.wanted ++ why_end (why_name found.why)

-- the line on standard error; Ok has none
abbrev pub line_of : Status → List ℕ
line_of status.Ok = []
line_of status.Words = codes "tm: words" ++ 10 ∷ []
line_of status.ReadFault = codes "tm: read fault" ++ 10 ∷ []
line_of (status.Image fault) = refusal_line (codes "image") fault
line_of (status.Plan fault) = refusal_line (codes "plan") fault
line_of (status.Dump fault) = codes "tm: dump " ++ dump_text fault ++ 10 ∷ []
line_of (status.Point missing) = codes "tm: point " ++ lost_text missing ++ 10 ∷ []
line_of (status.Diverged found) = diverged_line found
line_of (status.TooLong file) = codes "tm: too long " ++ decimal file ++ 10 ∷ []
line_of (status.Elf fault) = codes "tm: elf " ++ elf_text fault ++ 10 ∷ []
line_of (status.NoTask task) = codes "tm: no task " ++ decimal task ++ 10 ∷ []
line_of status.WriteFault = codes "tm: write fault" ++ 10 ∷ []
line_of status.Memory = codes "tm: memory" ++ 10 ∷ []

-- the line has a number in it, or may have one
abbrev pub is_numbered : Status → Bool
is_numbered (status.Image fault) = true
is_numbered (status.Plan fault) = true
is_numbered (status.Dump fault) = true
is_numbered (status.Point missing) = true
is_numbered (status.Diverged found) = true
is_numbered (status.TooLong file) = true
is_numbered (status.Elf fault) = true
is_numbered (status.NoTask task) = true
is_numbered status.Ok = false
is_numbered status.Words = false
is_numbered status.ReadFault = false
is_numbered status.WriteFault = false
is_numbered status.Memory = false
