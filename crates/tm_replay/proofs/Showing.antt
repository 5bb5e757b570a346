-- What is shown under the control entries and at the end, one item after another.
use Rattle.std.proofs.Common.{◌≡◌, ℕ, ◌+◌, ◌≤◌, Bool, true, false, ◌==◌, List, [], ◌∷◌, ◌++◌, length, map, refl, ap, sym, ◌∙◌, arith, Option, Some, None, if◌then◌else◌}
use Rattle.std.specs.Prelude.{option_map}
use Rattle.tm_marker.specs.declared.entries.Switch.{Switch}
use Rattle.tm_ring.specs.Kept.{Kept, first_of, item_of}
use Rattle.tm_log.specs.Points.{entries_from}
use Rattle.tm_log.proofs.Reading.{items_at, items_past}
use Rattle.tm_spelling.specs.Tracks.{leave_by, blocks_by, lasts_by}
use Rattle.tm_system.specs.Replaying.{Shown, shown_with, shown_left, shown_under, shown_last}
use Rattle.tm_text.specs.declared.seen.Stop.{Stop}
use Rattle.tm_text.specs.declared.seen.Track.{Track}
use Rattle.tm_text.specs.Views.{view_of, leave_of, track_view}
use Rattle.tm_text.proofs.Stops.{blocks_none, blocks_one}
use Rattle.tm_replay.specs.Comparing.{shown_end, shown_ends}

-- what is shown under the entries from a number on
abbrev pub shown_from : List Track → Kept Switch → ℕ → List Shown
shown_from tracks control number = shown_under (blocks_by (map track_view tracks) (number + 1) (entries_from control number))

-- what is shown with a stop, where there is one
abbrev pub shown_stop : ℕ → Option Stop → List Shown
shown_stop seq None = []
shown_stop seq (Some s) = shown_with seq (view_of s.seen) s.outputs

left_is : (seq : ℕ) (stop : Option Stop) → shown_left seq (option_map leave_of stop) ≡ shown_stop seq stop
left_is seq None = refl
left_is seq (Some s) = refl

-- the first entry's stop, and the others
pub shown_next : (tracks : List Track) (control : Kept Switch) (number : ℕ) (entry : Switch) (stop : Option Stop) →
    first_of control ≤ number → item_of control number ≡ Some entry →
    option_map leave_of stop ≡ leave_by (map track_view tracks) (number + 1) entry →
    shown_from tracks control number ≡ shown_stop (number + 1) stop ++ shown_from tracks control (number + 1)
shown_next tracks control number entry stop reached is left =
    let told = map track_view tracks in
    ap (λ entries. shown_under (blocks_by told (number + 1) entries)) (items_at control number entry reached is)
    ∙ ap shown_under (blocks_one told (number + 1) entry (entries_from control (number + 1)))
    ∙ ap (λ l. l ++ shown_from tracks control (number + 1)) (ap (shown_left (number + 1)) (sym left) ∙ left_is (number + 1) stop)

pub shown_past : (tracks : List Track) (control : Kept Switch) (number : ℕ) → length control.items ≤ control.total → control.total ≤ number →
    shown_from tracks control number ≡ []
shown_past tracks control number among past =
    ap (λ entries. shown_under (blocks_by (map track_view tracks) (number + 1) entries)) (items_past control number among past)
    ∙ ap shown_under (blocks_none (map track_view tracks) (number + 1))

-- as many are shown as there are outputs
pub shown_many : {X : Type 0} (f : X → Shown) (xs : List X) → length (map f xs) ≡ length xs
shown_many f [] = refl
shown_many f (x ∷ xs) = omega (arith, shown_many f xs)

-- the tasks at the end
ends_by : (b : Bool) (seq running : ℕ) (track : Track) → b ≡ (track.last.task == running) →
    shown_with seq (view_of track.last) (if b then track.outputs else []) ≡ (if b then shown_with seq (view_of track.last) track.outputs else [])
ends_by true seq running track e = refl
ends_by false seq running track e = refl

pub ends_shown : (seq running : ℕ) (tracks : List Track) (states : List ℕ) → length tracks ≡ length states →
    shown_last seq (lasts_by running (map track_view tracks) states) ≡ shown_ends seq running tracks
unfolding lasts_by
ends_shown seq running [] states same = refl
ends_shown seq running (t ∷ tracks) [] same = absurd (omega (arith, same))
ends_shown seq running (t ∷ tracks) (s ∷ states) same =
    ap (λ l. l ++ shown_last seq (lasts_by running (map track_view tracks) states)) (ends_by (t.last.task == running) seq running t refl)
    ∙ ap (λ l. shown_end seq running t ++ l) (ends_shown seq running tracks states (omega (arith, same)))
