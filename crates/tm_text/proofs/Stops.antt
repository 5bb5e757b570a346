-- The stops of tasks, looked up by their numbers.
use Rattle.std.proofs.Common.{◌≡◌, ℕ, zero, suc, ◌+◌, ◌<◌, ◌≤◌, true, false, ◌==◌, List, [], ◌∷◌, ◌++◌, length, map, flat_map, slice_get, find, Option, Some, None, refl, ap, sym, ◌∙◌, append_assoc, arith, inl, inr, get_or-set_other, get_or-set_same}
use Rattle.std.specs.Prelude.{option_map, option_and_then, slice_index, slice_set}
use Rattle.std.proofs.lemmas.Bool.{cases_Bool, cases_lt, cases_eq, ne_eqb, eq-eqb}
use Rattle.std.proofs.lemmas.List.{append-nil}
use Rattle.tm_marker.specs.declared.entries.Switch.{Switch}
use Rattle.tm_ring.specs.Kept.{Kept, first_of, item_of}
use Rattle.tm_log.specs.Points.{entries_from}
use Rattle.tm_log.proofs.Reading.{items_at, items_past}
use Rattle.tm_log.specs.Window.{WindowView}
use Rattle.tm_spelling.specs.Lines.{start_line}
use Rattle.tm_spelling.specs.Story.{start_view_text, block_text, end_text, spelled}
use Rattle.tm_spelling.specs.Tracks.{Track as ToldTrack, leave_in, leave_by, blocks_by, last_by, lasts_by}
use Rattle.tm_text.specs.declared.seen.Replay.{Replay}
use Rattle.tm_text.specs.declared.seen.Stop.{Stop}
use Rattle.tm_text.specs.declared.seen.Track.{Track}
use Rattle.tm_text.specs.Views.{view_of, leave_of, replay_story, stop_view, track_view, block_of, lasts_of}
use Rattle.tm_text.specs.Written.{AreBefore, AreWritten}

-- the stop of a number, as it is
abbrev pub stop_in : ℕ → List Stop → Option Stop
stop_in seq stops = find (λ stop. stop.seq == seq) stops

-- as it is told
pub told_stop : (seq : ℕ) (stops : List Stop) → leave_in seq (map stop_view stops) ≡ option_map leave_of (stop_in seq stops)
told_stop seq [] = refl
told_stop seq (s ∷ stops) = elim (cases_Bool (s.seq == seq)) [
  | inl same ↦ rw same refl
  | inr other ↦ rw other (told_stop seq stops)
]

-- the track of a task, as it is told
track_there : (tracks : List Track) (task : ℕ) → slice_get (map track_view tracks) task ≡ option_map track_view (slice_get tracks task)
track_there [] task = refl
track_there (t ∷ tracks) zero = refl
track_there (t ∷ tracks) (suc task) = track_there tracks task

left_by : (o : Option Track) (seq : ℕ) →
    option_and_then (λ (t : ToldTrack). leave_in seq t.stops) (option_map track_view o) ≡
    option_map leave_of (option_and_then (λ (t : Track). stop_in seq t.stops) o)
left_by None seq = refl
left_by (Some t) seq = told_stop seq t.stops

-- the stop of the task that an entry comes from
pub told_left : (tracks : List Track) (seq : ℕ) (entry : Switch) →
    leave_by (map track_view tracks) seq entry ≡
    option_map leave_of (option_and_then (λ (t : Track). stop_in seq t.stops) (slice_get tracks entry.from))
told_left tracks seq entry =
    ap (option_and_then (λ (t : ToldTrack). leave_in seq t.stops)) (track_there tracks entry.from)
    ∙ left_by (slice_get tracks entry.from) seq

-- where the first stops are of lesser numbers, the one after them is the first of its number
pub stop_at : (seq place : ℕ) (stops : List Stop) (stop : Stop) → AreBefore stops place seq →
    slice_get stops place ≡ Some stop → stop.seq ≡ seq → stop_in seq stops ≡ Some stop
stop_at seq place [] stop before there is = absurd (cc)
stop_at seq zero (s ∷ stops) stop before there is =
    let same : s ≡ stop = cc in
    let here : (s.seq == seq) ≡ true = eq-eqb s.seq seq (ap (λ x. x.seq) same ∙ is) in
    rw here (ap Some same)
stop_at seq (suc place) (s ∷ stops) stop before there is =
    let less : s.seq < seq = before zero s (omega arith) refl in
    let other : (s.seq == seq) ≡ false = ne_eqb s.seq seq (λ e. absurd (omega arith)) in
    rw other (stop_at seq place stops stop (λ k x within at. before (suc k) x (omega arith) at) there is)

-- one more of them
pub before_more : (seq place : ℕ) (stops : List Stop) (stop : Stop) → AreBefore stops place seq →
    slice_get stops place ≡ Some stop → stop.seq ≡ seq → AreBefore stops (place + 1) (seq + 1)
before_more seq place stops stop before there is k s within at = elim (cases_lt k place) [
  | inl earlier ↦ omega (arith, before k s earlier at)
  | inr last ↦
      let same : k ≡ place = omega arith in
      let one : Some s ≡ Some stop = sym at ∙ ap (slice_get stops) same ∙ there in
      let number : s.seq ≡ stop.seq = ap (λ x. x.seq) (some_is s stop one) in
      omega arith
]
  where
    some_is : (s t : Stop) → Some s ≡ Some t → s ≡ t
    some_is s t e = cc

-- the stop at a task's place is written
pub written_more : (tracks : List Track) (places : List ℕ) (seq from place : ℕ) (track : Track) (stop : Stop) →
    AreWritten tracks places seq → slice_get tracks from ≡ Some track → from < length places → place ≡ slice_index places from →
    slice_get track.stops place ≡ Some stop → stop.seq ≡ seq → AreWritten tracks (slice_set places from (place + 1)) (seq + 1)
written_more tracks places seq from place track stop written own within reads there is task other at = elim (cases_eq task from) [
  | inl same ↦
      let one : Some other ≡ Some track = sym at ∙ ap (slice_get tracks) same ∙ own in
      let it : other ≡ track = cc in
      let index : slice_index (slice_set places from (place + 1)) task ≡ place + 1 =
      ap (slice_index (slice_set places from (place + 1))) same ∙ get_or-set_same places from (place + 1) 0 within in
      let before : AreBefore track.stops place seq = rw reads (written from track own) in
      rw (it, index) (before_more seq place track.stops stop before there is)
  | inr different ↦
      let index : slice_index (slice_set places from (place + 1)) task ≡ slice_index places task =
      get_or-set_other places from task (place + 1) 0 different in
      rw index (λ k s early here. omega (arith, written task other at k s early here))
]

-- the blocks of entries, one after another
pub blocks_none : (tracks : List ToldTrack) (seq : ℕ) → blocks_by tracks seq [] ≡ []
unfolding blocks_by
blocks_none tracks seq = refl

pub blocks_one : (tracks : List ToldTrack) (seq : ℕ) (entry : Switch) (entries : List Switch) →
    blocks_by tracks seq (entry ∷ entries) ≡
    (record { seq = seq; switch = entry; leave = leave_by tracks seq entry }) ∷ blocks_by tracks (seq + 1) entries
unfolding blocks_by
blocks_one tracks seq entry entries = refl

-- the text with one more block
pub block_more : (text new whole : List ℕ) (tracks : List Track) (control : Kept Switch) (number : ℕ) (entry : Switch) (stop : Option Stop) →
    first_of control ≤ number → item_of control number ≡ Some entry →
    option_map leave_of stop ≡ leave_by (map track_view tracks) (number + 1) entry →
    new ≡ text ++ block_text (block_of (number + 1) entry stop) →
    text ++ flat_map block_text (blocks_by (map track_view tracks) (number + 1) (entries_from control number)) ≡ whole →
    new ++ flat_map block_text (blocks_by (map track_view tracks) (number + 1 + 1) (entries_from control (number + 1))) ≡ whole
block_more text new whole tracks control number entry stop reached is left wrote all =
    let told = map track_view tracks in
    let rest = flat_map block_text (blocks_by told (number + 1 + 1) (entries_from control (number + 1))) in
    ap (λ x. x ++ rest) wrote
    ∙ append_assoc text (block_text (block_of (number + 1) entry stop)) rest
    ∙ ap (λ leave. text ++ (block_text (record { seq = number + 1; switch = entry; leave = leave }) ++ rest)) left
    ∙ ap (λ blocks. text ++ flat_map block_text blocks) (sym (blocks_one told (number + 1) entry (entries_from control (number + 1))))
    ∙ ap (λ entries. text ++ flat_map block_text (blocks_by told (number + 1) entries)) (sym (items_at control number entry reached is))
    ∙ all

-- all blocks are written
pub blocks_end : (text whole : List ℕ) (tracks : List Track) (control : Kept Switch) (number : ℕ) → length control.items ≤ control.total →
    control.total ≤ number →
    text ++ flat_map block_text (blocks_by (map track_view tracks) (number + 1) (entries_from control number)) ≡ whole → text ≡ whole
blocks_end text whole tracks control number among past all =
    let told = map track_view tracks in
    sym (append-nil text)
    ∙ ap (λ blocks. text ++ flat_map block_text blocks) (sym (blocks_none told (number + 1)))
    ∙ ap (λ entries. text ++ flat_map block_text (blocks_by told (number + 1) entries)) (sym (items_past control number among past))
    ∙ all

-- the tasks at the end, as they are told
pub lasts_same : (running : ℕ) (tracks : List Track) (states : List ℕ) → lasts_of running tracks states ≡ lasts_by running (map track_view tracks) states
unfolding lasts_by
lasts_same running [] states = refl
lasts_same running (t ∷ tracks) [] = refl
lasts_same running (t ∷ tracks) (s ∷ states) = ap (λ ls. last_by running (track_view t) s ∷ ls) (lasts_same running tracks states)

starts_same : (tracks : List Track) → map (λ track. view_of track.start) tracks ≡ map (λ track. track.start) (map track_view tracks)
starts_same [] = refl
starts_same (t ∷ tracks) = ap (λ views. view_of t.start ∷ views) (starts_same tracks)

-- the parts of the text together
pub whole_text : (r : Replay) (w : WindowView) (old first second third last : List ℕ) →
    first ≡ old ++ start_line r.from r.running →
    second ≡ first ++ flat_map start_view_text (map (λ track. view_of track.start) r.tracks) →
    third ≡ second ++ flat_map block_text (blocks_by (map track_view r.tracks) (r.from + 1) (entries_from w.control r.from)) →
    last ≡ third ++ end_text w.tail.running w.tail.ended (lasts_of w.tail.running r.tracks w.tail.state) →
    last ≡ old ++ spelled (replay_story r w)
whole_text r w old first second third last one two three four =
    let starts = flat_map start_view_text (map (λ track. track.start) (map track_view r.tracks)) in
    let blocks = flat_map block_text (blocks_by (map track_view r.tracks) (r.from + 1) (entries_from w.control r.from)) in
    let end = end_text w.tail.running w.tail.ended (lasts_by w.tail.running (map track_view r.tracks) w.tail.state) in
    let views : second ≡ first ++ starts = two ∙ ap (λ views. first ++ flat_map start_view_text views) (starts_same r.tracks) in
    let lasts : last ≡ third ++ end =
    four ∙ ap (λ ls. third ++ end_text w.tail.running w.tail.ended ls) (lasts_same w.tail.running r.tracks w.tail.state) in
    lasts
    ∙ ap (λ x. x ++ end) three
    ∙ ap (λ x. (x ++ blocks) ++ end) views
    ∙ ap (λ x. ((x ++ starts) ++ blocks) ++ end) one
    ∙ regroup old (start_line r.from r.running) starts blocks end
  where
    regroup : (a b c d e : List ℕ) → (((a ++ b) ++ c) ++ d) ++ e ≡ a ++ (((b ++ c) ++ d) ++ e)
    regroup a b c d e = simp append_assoc
