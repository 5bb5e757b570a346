-- The control entries read one after another.
use Rattle.std.proofs.Common.{◌≡◌, ◌≢◌, ℕ, ◌+◌, ◌-◌, ◌≤◌, List, ◌∷◌, drop, Some, slice_get, ap, sym, ◌∙◌, arith}
use Rattle.std.proofs.lemmas.Grind.{common_steps}
use Rattle.tm_marker.specs.declared.entries.Switch.{Switch}
use Rattle.tm_ring.specs.Kept.{Kept, first_of, item_of}
use Rattle.tm_log.proofs.Reading.{items_at}
use Rattle.tm_points.specs.Finder.{entries_from, resumed_in}

-- what the first entry of a list says of a task
resumed_first : (entry : Switch) (entries : List Switch) (task : ℕ) → entry.to ≡ task →
    resumed_in (entry ∷ entries) task ≡ Some entry.to_at
resumed_first entry entries task same = grind (arith, common_steps)

resumed_after : (entry : Switch) (entries : List Switch) (task : ℕ) → entry.to ≢ task →
    resumed_in (entry ∷ entries) task ≡ resumed_in entries task
resumed_after entry entries task differs = grind (arith, common_steps)

-- an entry that switches to the task resumes it
pub reads_here : (control : Kept Switch) (number : ℕ) (entry : Switch) (task : ℕ) → first_of control ≤ number →
    item_of control number ≡ Some entry → entry.to ≡ task →
    resumed_in (entries_from control number) task ≡ Some entry.to_at
reads_here control number entry task reached is same =
    ap (λ entries. resumed_in entries task) (items_at control number entry reached is)
    ∙ resumed_first entry (entries_from control (number + 1)) task same

-- another entry leaves it to the later ones
pub reads_later : (control : Kept Switch) (number : ℕ) (entry : Switch) (task : ℕ) → first_of control ≤ number →
    item_of control number ≡ Some entry → entry.to ≢ task →
    resumed_in (entries_from control (number + 1)) task ≡ resumed_in (entries_from control number) task
reads_later control number entry task reached is differs =
    sym (ap (λ entries. resumed_in entries task) (items_at control number entry reached is)
    ∙ resumed_after entry (entries_from control (number + 1)) task differs)
