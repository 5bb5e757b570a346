-- How an audit is printed.
use Rattle.std.specs.Prelude.{ℕ, List, [], ◌++◌, nat_lt, if◌then◌else◌, slice_index, codes, decimal, flat_map}
use Rattle.std.specs.List.{range_with_len}
use Rattle.tm_irq.specs.declared.audit.Audit.{Audit}

-- what became of the raises of a line
unfoldable pub line_text : Audit → ℕ → List ℕ
line_text audit line =
    codes "line " ++ decimal line
    ++ codes " raised " ++ decimal (slice_index audit.raised line)
    ++ codes " joined " ++ decimal (slice_index audit.joined line)
    ++ codes " taken " ++ decimal (slice_index audit.taken line)
    ++ codes " pending " ++ decimal (slice_index audit.pending line)
    ++ codes "\n"

-- the same of a line that was raised; nothing is printed of another
abbrev pub audit_line : Audit → ℕ → List ℕ
audit_line audit line = if nat_lt 0 (slice_index audit.raised line) then line_text audit line else []

-- the lines that were raised, rising
unfoldable pub lines_text : Audit → List ℕ
lines_text audit = flat_map (audit_line audit) (range_with_len 0 16)

-- how many slices were run, and the lines
unfoldable pub audit_text : ℕ → Audit → List ℕ
audit_text slices audit = codes "slices " ++ decimal slices ++ codes "\n" ++ lines_text audit
