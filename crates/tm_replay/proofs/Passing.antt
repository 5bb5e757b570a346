-- The loops over outputs, one step on.
use Rattle.std.proofs.Common.{◌≡◌, ◌≢◌, ℕ, ◌+◌, ◌-◌, ◌<◌, ◌≤◌, true, false, ◌==◌, List, [], ◌∷◌, ◌++◌, length, map, drop, refl, ap, sym, ◌∙◌, arith, Option, Some, None, get_or, length-append}
use Rattle.std.specs.Option.{option_or}
use Rattle.std.proofs.lemmas.Bool.{eq-eqb, ne_eqb}
use Rattle.std.proofs.lemmas.List.{drop_more}
use Rattle.tm_marker.specs.declared.entries.OutputEntry.{OutputEntry}
use Rattle.tm_marker.specs.declared.entries.Switch.{Switch}
use Rattle.tm_ring.specs.Kept.{Kept, first_of, item_of}
use Rattle.tm_spelling.specs.Tracks.{leave_by}
use Rattle.tm_spelling.specs.Story.{View}
use Rattle.tm_system.specs.declared.diverged.Diverged.{Diverged}
use Rattle.tm_system.specs.Replaying.{Shown, shown_with, shown_in, output_eq, other_at, other_output}
use Rattle.tm_log.specs.Window.{WindowView}
use Rattle.tm_text.specs.declared.seen.Replay.{Replay}
use Rattle.tm_text.specs.declared.seen.Stop.{Stop}
use Rattle.tm_text.specs.declared.seen.Track.{Track}
use Rattle.tm_text.specs.Views.{view_of, leave_of, track_view, replay_story}
use Rattle.tm_replay.specs.Comparing.{logged_at, other_by, others_from, shown_end, shown_ends}
use Rattle.tm_replay.proofs.Comparing.{others_none, others_one, others_more, compared}
use Rattle.tm_replay.proofs.Showing.{shown_from, shown_next, shown_many, ends_shown}

-- an output that is shown
abbrev pub shown_one : ℕ → View → OutputEntry → Shown
shown_one seq view output = record { seq = seq; task = view.task; at = view.at; output = output }

-- one that has no other in its place is passed, and another is the answer
pub one_passed : (logged : Kept OutputEntry) (seq : ℕ) (view : View) (left index : ℕ) (x : OutputEntry) (outputs : List OutputEntry) (whole : Option Diverged) →
    drop index outputs ≡ x ∷ drop (index + 1) outputs → other_by (shown_one seq view x) (logged_at logged (left - index)) ≡ None →
    others_from logged (left - index) (shown_with seq view (drop index outputs)) ≡ whole →
    others_from logged (left - (index + 1)) (shown_with seq view (drop (index + 1) outputs)) ≡ whole
one_passed logged seq view left index x outputs whole first none all =
    let rest : List Shown = shown_with seq view (drop (index + 1) outputs) in
    ap (λ n. others_from logged n rest) (let e : left - (index + 1) ≡ left - index - 1 = omega arith in e)
    ∙ ap (λ o. option_or o (others_from logged (left - index - 1) rest)) (sym none)
    ∙ sym (others_one logged (left - index) (shown_one seq view x) rest)
    ∙ ap (λ l. others_from logged (left - index) (shown_with seq view l)) (sym first)
    ∙ all

pub one_found : (logged : Kept OutputEntry) (seq : ℕ) (view : View) (left index : ℕ) (x : OutputEntry) (outputs : List OutputEntry)
    (other : Diverged) (whole : Option Diverged) → drop index outputs ≡ x ∷ drop (index + 1) outputs →
    other_by (shown_one seq view x) (logged_at logged (left - index)) ≡ Some other →
    others_from logged (left - index) (shown_with seq view (drop index outputs)) ≡ whole → Some other ≡ whole
one_found logged seq view left index x outputs other whole first found all =
    let rest : List Shown = shown_with seq view (drop (index + 1) outputs) in
    ap (λ o. option_or o (others_from logged (left - index - 1) rest)) (sym found)
    ∙ sym (others_one logged (left - index) (shown_one seq view x) rest)
    ∙ ap (λ l. others_from logged (left - index) (shown_with seq view l)) (sym first)
    ∙ all

-- what an output and its logged one come to
pub none_logged : (made : Shown) (o : Option OutputEntry) → o ≡ None → other_by made o ≡ None
none_logged made o e = ap (other_by made) e

pub same_logged : (made : Shown) (o : Option OutputEntry) (logged : OutputEntry) → o ≡ Some logged → output_eq logged made.output ≡ true →
    other_by made o ≡ None
same_logged made o logged e same = ap (other_by made) e ∙ rw same refl

pub other_logged : (made : Shown) (o : Option OutputEntry) (logged : OutputEntry) → o ≡ Some logged → output_eq logged made.output ≡ false →
    other_by made o ≡ Some (other_at made logged)
other_logged made o logged e other = ap (other_by made) e ∙ rw other refl

-- a piece of what is shown is passed, or it has the answer
pub piece_passed : (logged : Kept OutputEntry) (left : ℕ) (piece rest all : List Shown) (whole : Option Diverged) → all ≡ piece ++ rest →
    others_from logged left piece ≡ None → others_from logged left all ≡ whole → others_from logged (left - length piece) rest ≡ whole
piece_passed logged left piece rest all whole is none same =
    ap (λ o. option_or o (others_from logged (left - length piece) rest)) (sym none)
    ∙ sym (others_more logged left piece rest) ∙ ap (others_from logged left) (sym is) ∙ same

pub piece_found : (logged : Kept OutputEntry) (left : ℕ) (piece rest all : List Shown) (other : Diverged) (whole : Option Diverged) → all ≡ piece ++ rest →
    others_from logged left piece ≡ Some other → others_from logged left all ≡ whole → Some other ≡ whole
piece_found logged left piece rest all other whole is found same =
    ap (λ o. option_or o (others_from logged (left - length piece) rest)) (sym found)
    ∙ sym (others_more logged left piece rest) ∙ ap (others_from logged left) (sym is) ∙ same

-- all were passed
pub all_passed : (logged : Kept OutputEntry) (left : ℕ) (all : List Shown) (whole : Option Diverged) → all ≡ [] → others_from logged left all ≡ whole → None ≡ whole
all_passed logged left all whole none same = sym (others_none logged left) ∙ ap (others_from logged left) (sym none) ∙ same

-- the tasks at the end, one after another
pub ends_next : (seq running index : ℕ) (tracks : List Track) (t : Track) → drop index tracks ≡ t ∷ drop (index + 1) tracks →
    shown_ends seq running (drop index tracks) ≡ shown_end seq running t ++ shown_ends seq running (drop (index + 1) tracks)
ends_next seq running index tracks t first = ap (shown_ends seq running) first

pub end_runs : (seq running : ℕ) (t : Track) → (t.last.task == running) ≡ true → shown_end seq running t ≡ shown_with seq (view_of t.last) t.outputs
end_runs seq running t e = rw e refl

pub end_rests : (seq running : ℕ) (t : Track) → (t.last.task == running) ≡ false → shown_end seq running t ≡ []
end_rests seq running t e = rw e refl

-- a list from an index on begins with the item there
begins : {X : Type 0} (xs : List X) (index : ℕ) (x : X) → x ≡ get_or xs index x → index < length xs → drop index xs ≡ x ∷ drop (index + 1) xs
begins xs index x is there = drop_more xs index x there ∙ ap (λ y. y ∷ drop (index + 1) xs) (sym is)

-- the running task at the end is shown with its outputs, and another one isn't
pub ends_runs : (seq running index : ℕ) (tracks : List Track) (t : Track) (outs : List OutputEntry) → t ≡ get_or tracks index t →
    index < length tracks → outs ≡ t.outputs → t.last.task ≡ running →
    shown_ends seq running (drop index tracks) ≡ shown_with seq (view_of t.last) outs ++ shown_ends seq running (drop (index + 1) tracks)
ends_runs seq running index tracks t outs is there same runs =
    ap (shown_ends seq running) (begins tracks index t is there)
    ∙ ap (λ l. l ++ shown_ends seq running (drop (index + 1) tracks))
    (end_runs seq running t (eq-eqb t.last.task running runs) ∙ ap (shown_with seq (view_of t.last)) (sym same))

pub ends_rests : (seq running index : ℕ) (tracks : List Track) (t : Track) → t ≡ get_or tracks index t →
    index < length tracks → t.last.task ≢ running → shown_ends seq running (drop index tracks) ≡ shown_ends seq running (drop (index + 1) tracks)
ends_rests seq running index tracks t is there rests =
    ap (shown_ends seq running) (begins tracks index t is there)
    ∙ ap (λ l. l ++ shown_ends seq running (drop (index + 1) tracks)) (end_rests seq running t (ne_eqb t.last.task running rests))

-- a stop is shown with its outputs, and an entry without a stop with none
pub under_stop : (tracks : List Track) (control : Kept Switch) (number : ℕ) (entry : Switch) (stop : Stop) (outs : List OutputEntry) →
    first_of control ≤ number → item_of control number ≡ Some entry →
    Some (leave_of stop) ≡ leave_by (map track_view tracks) (number + 1) entry → outs ≡ stop.outputs →
    shown_from tracks control number ≡ shown_with (number + 1) (view_of stop.seen) outs ++ shown_from tracks control (number + 1)
under_stop tracks control number entry stop outs reached is left same =
    shown_next tracks control number entry (Some stop) reached is left
    ∙ ap (λ l. shown_with (number + 1) (view_of stop.seen) l ++ shown_from tracks control (number + 1)) (sym same)

pub under_none : (tracks : List Track) (control : Kept Switch) (number : ℕ) (entry : Switch) →
    first_of control ≤ number → item_of control number ≡ Some entry → None ≡ leave_by (map track_view tracks) (number + 1) entry →
    shown_from tracks control number ≡ shown_from tracks control (number + 1)
under_none tracks control number entry reached is left = shown_next tracks control number entry None reached is left

-- how many are shown
pub piece_many : (seq : ℕ) (view : View) (outs : List OutputEntry) (rest all : List Shown) → all ≡ shown_with seq view outs ++ rest →
    length all ≡ length outs + length rest
piece_many seq view outs rest all is = ap length is ∙ length-append (shown_with seq view outs) rest ∙ ap (λ n. n + length rest) (shown_many (shown_one seq view) outs)

pub piece_left : (logged : Kept OutputEntry) (seq left : ℕ) (view : View) (outs : List OutputEntry) (rest all : List Shown) (whole : Option Diverged) →
    all ≡ shown_with seq view outs ++ rest → None ≡ others_from logged left (shown_with seq view outs) → others_from logged left all ≡ whole →
    others_from logged (left - length outs) rest ≡ whole
piece_left logged seq left view outs rest all whole is none same =
    ap (λ n. others_from logged (left - n) rest) (sym (shown_many (shown_one seq view) outs))
    ∙ piece_passed logged left (shown_with seq view outs) rest all whole is (sym none) same

-- what is shown under the entries, and at the end
pub together : (logged : Kept OutputEntry) (under last ends : List Shown) (u e : ℕ) → last ≡ ends → u ≡ length under → e ≡ length ends →
    length logged.items ≤ logged.total →
    option_or (others_from logged (u + e) under) (others_from logged e ends) ≡ other_output (under ++ last) logged.items
together logged under last ends u e is many rest among =
    let all : u + e ≡ length (under ++ ends) = omega (arith, length-append under ends, many, rest) in
    let left : u + e - length under ≡ e = omega (arith, many) in
    ap (λ n. option_or (others_from logged (u + e) under) (others_from logged n ends)) (sym left)
    ∙ sym (others_more logged (u + e) under ends)
    ∙ ap (λ n. others_from logged n (under ++ ends)) all
    ∙ compared logged (under ++ ends) among
    ∙ ap (λ l. other_output (under ++ l) logged.items) (sym is)

-- the answer is the first of two, or the second
pub answer_first : (a b : Option Diverged) (other : Diverged) (whole : Option Diverged) → a ≡ Some other → option_or a b ≡ whole → Some other ≡ whole
answer_first a b other whole is all = ap (λ o. option_or o b) (sym is) ∙ all

pub answer_second : (a b result whole : Option Diverged) → a ≡ None → result ≡ b → option_or a b ≡ whole → result ≡ whole
answer_second a b result whole none is all = is ∙ ap (λ o. option_or o b) (sym none) ∙ all

-- of a replay and a window
pub of_window : (r : Replay) (w : WindowView) (tracks : List Track) (control : Kept Switch) (logged : Kept OutputEntry) (total running u e : ℕ) →
    tracks ≡ r.tracks → control ≡ w.control → logged ≡ w.outputs → total ≡ w.control.total → running ≡ w.tail.running →
    u ≡ length (shown_from tracks control r.from) → e ≡ length (shown_ends (total + 1) running tracks) →
    length logged.items ≤ logged.total → length r.tracks ≡ length w.tail.state →
    option_or (others_from logged (u + e) (shown_from tracks control r.from)) (others_from logged e (shown_ends (total + 1) running tracks))
    ≡ other_output (shown_in (w.control.total + 1) (replay_story r w)) w.outputs.items
of_window r w tracks control logged total running u e t c l n k many rest among same =
    together logged (shown_from tracks control r.from) (shown_ends (total + 1) running tracks) (shown_ends (total + 1) running tracks) u e refl many rest among
    ∙ ap (λ x. other_output (shown_from x control r.from ++ shown_ends (total + 1) running x) logged.items) t
    ∙ ap (λ x. other_output (shown_from r.tracks x r.from ++ shown_ends (total + 1) running r.tracks) logged.items) c
    ∙ ap (λ x. other_output (shown_from r.tracks w.control r.from ++ shown_ends (x + 1) running r.tracks) logged.items) n
    ∙ ap (λ x. other_output (shown_from r.tracks w.control r.from ++ shown_ends (w.control.total + 1) x r.tracks) logged.items) k
    ∙ ap (λ (x : Kept OutputEntry). other_output (shown_from r.tracks w.control r.from ++ shown_ends (w.control.total + 1) w.tail.running r.tracks) x.items) l
    ∙ ap (λ x. other_output (shown_from r.tracks w.control r.from ++ x) w.outputs.items)
    (sym (ends_shown (w.control.total + 1) w.tail.running r.tracks w.tail.state same))
