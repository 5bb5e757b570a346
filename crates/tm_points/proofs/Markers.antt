-- Where the markers at a point stand.
use Rattle.std.proofs.Common.{◌≡◌, ◌≢◌, ℕ, ◌+◌, ◌-◌, ◌≤◌, Some, ap, sym, ◌∙◌, arith, refl}
use Rattle.std.specs.Prelude.{unwrap_or}
use Rattle.std.proofs.lemmas.Grind.{common_steps}
use Rattle.tm_marker.specs.declared.entries.Switch.{Switch}
use Rattle.tm_ring.specs.Kept.{Kept, first_of, item_of}
use Rattle.tm_log.specs.Window.{WindowView}
use Rattle.tm_points.specs.Finder.{entries_from, resumed_in, tail_marker, marker_at_point}
use Rattle.tm_points.specs.Laws.{marker_after}
use Rattle.tm_points.proofs.Scanning.{reads_here, reads_later}

-- an item that is there is not below the first
reached_by : (control : Kept Switch) (number : ℕ) (entry : Switch) → item_of control number ≡ Some entry → first_of control ≤ number
reached_by control number entry is = grind (arith, common_steps)

-- the marker at a point, by the entries from the point's own on
from_own : (w : WindowView) (number task : ℕ) →
    marker_at_point w (number + 1) task ≡ unwrap_or (resumed_in (entries_from w.control number) task) (tail_marker w task)
from_own w number task =
    let own : number + 1 - 1 ≡ number = omega arith in
    ap (λ n. unwrap_or (resumed_in (entries_from w.control n) task) (tail_marker w task)) own

pub own_marker : (w : WindowView) (number : ℕ) (entry : Switch) → item_of w.control number ≡ Some entry →
    marker_at_point w (number + 1) entry.to ≡ entry.to_at
own_marker w number entry is =
    from_own w number entry.to
    ∙ ap (λ o. unwrap_or o (tail_marker w entry.to))
    (reads_here w.control number entry entry.to (reached_by w.control number entry is) is refl)

pub other_marker : (w : WindowView) (number : ℕ) (entry : Switch) (task : ℕ) → item_of w.control number ≡ Some entry →
    entry.to ≢ task → marker_at_point w (number + 1) task ≡ marker_after w (number + 1) task
other_marker w number entry task is differs =
    from_own w number task
    ∙ ap (λ o. unwrap_or o (tail_marker w task))
    (sym (reads_later w.control number entry task (reached_by w.control number entry is) is differs))
