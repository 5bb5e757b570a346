-- What each task does by itself from a point of a run on: its stops, and its outputs since the last one.
use Rattle.std.proofs.Common.{◌≡◌, ◌≢◌, ℕ, ◌<◌, ◌≤◌, true, false, ◌&&◌, ◌==◌, ◌⊎◌, if◌then◌else◌, nat_le, List, [], ◌∷◌, ◌++◌, length, refl, ap, sym, ◌∙◌, arith, inl, inr, Option, Some, None}
use Rattle.std.specs.Option.{option_or}
use Rattle.std.proofs.lemmas.Bool.{cases_Bool, eq-eqb, ne_eqb, le-leb}
use Rattle.tm_spelling.specs.Story.{Leave}
use Rattle.tm_spelling.specs.Tracks.{Stop, Track, leave_in}
use Rattle.tm_image.specs.Image.{ImageView}
use Rattle.tm_system.specs.History.{Moment, History}
use Rattle.tm_system.specs.Run.{running_at}
use Rattle.tm_system.specs.Controls.{controls}
use Rattle.tm_system.specs.Telling.{upto, is_stop, printed, made, pending, cause_of, view_at, start_at}
use Rattle.tm_fidelity.proofs.Blocks.{controls_rise}

-- how the running task leaves at a moment, in the text from point p
abbrev pub left_of : ImageView → ℕ → Moment → History → Leave
left_of image p m h = record {
  cause = cause_of m.deed;
  view = view_at image (m ∷ h) (running_at image h) (printed image p (running_at image h) h);
  outputs = pending image (running_at image h) h ++ made (running_at image h) m.deed;
}

-- the stop of a moment
abbrev pub stop_at : ImageView → ℕ → Moment → History → Stop
stop_at image p m h = record { seq = length (controls image (m ∷ h)); leave = left_of image p m h }

-- a task's stops after point p, oldest first
unfoldable pub run_stops : ImageView → ℕ → ℕ → History → List Stop
run_stops image p t [] = []
run_stops image p t (m ∷ h) =
    if is_stop image t m h && nat_le p (length (controls image h))
    then run_stops image p t h ++ stop_at image p m h ∷ []
    else run_stops image p t h

-- a task from point p on
abbrev pub run_track : ImageView → ℕ → History → ℕ → Track
run_track image p h t = record {
  start = start_at image (upto image p h) t;
  stops = run_stops image p t h;
  last = view_at image h t (printed image p t h);
  outputs = pending image t h;
}

pub stops_boot : (image : ImageView) (p t : ℕ) → run_stops image p t [] ≡ []
unfolding run_stops
stops_boot image p t = refl

pub stops_stay : (image : ImageView) (p t : ℕ) (m : Moment) (h : History) → is_stop image t m h ≡ false →
    run_stops image p t (m ∷ h) ≡ run_stops image p t h
unfolding run_stops
stops_stay image p t m h e = rw e refl

pub stops_more : (image : ImageView) (p t : ℕ) (m : Moment) (h : History) → is_stop image t m h ≡ true → p ≤ length (controls image h) →
    run_stops image p t (m ∷ h) ≡ run_stops image p t h ++ stop_at image p m h ∷ []
unfolding run_stops
stops_more image p t m h e before = rw (e, le-leb p (length (controls image h)) before) refl

-- one more stop, or none
pub stops_next : (image : ImageView) (p t : ℕ) (m : Moment) (h : History) →
    (run_stops image p t (m ∷ h) ≡ run_stops image p t h) ⊎ (run_stops image p t (m ∷ h) ≡ run_stops image p t h ++ stop_at image p m h ∷ [])
unfolding run_stops
stops_next image p t m h = elim (cases_Bool (is_stop image t m h && nat_le p (length (controls image h)))) [
  | inl e ↦ inr (rw e refl)
  | inr e ↦ inl (rw e refl)
]

-- one more stop at the end, of another number or of this one
leave_more : (k : ℕ) (stops : List Stop) (s : Stop) → leave_in k (stops ++ s ∷ []) ≡ option_or (leave_in k stops) (leave_in k (s ∷ []))
leave_more k [] s = refl
leave_more k (first ∷ rest) s = elim (cases_Bool (first.seq == k)) [
  | inl e ↦ rw e refl
  | inr e ↦ rw e (leave_more k rest s)
]

leave_other : (k : ℕ) (s : Stop) → s.seq ≢ k → leave_in k (s ∷ []) ≡ None
leave_other k s other = rw (ne_eqb s.seq k other) refl

leave_this : (k : ℕ) (s : Stop) → s.seq ≡ k → leave_in k (s ∷ []) ≡ Some s.leave
leave_this k s this = rw (eq-eqb s.seq k this) refl

or_none : {X : Type 0} (o : Option X) → option_or o None ≡ o
or_none None = refl
or_none (Some x) = refl

-- a later stop has another number
pub leave_stays : (image : ImageView) (p t k : ℕ) (m : Moment) (h : History) → k ≢ length (controls image (m ∷ h)) →
    leave_in k (run_stops image p t (m ∷ h)) ≡ leave_in k (run_stops image p t h)
leave_stays image p t k m h other = elim (stops_next image p t m h) [
  | inl same ↦ ap (leave_in k) same
  | inr more ↦
      ap (leave_in k) more ∙ leave_more k (run_stops image p t h) (stop_at image p m h)
      ∙ ap (option_or (leave_in k (run_stops image p t h))) (leave_other k (stop_at image p m h) (λ e. other (sym e)))
      ∙ or_none (leave_in k (run_stops image p t h))
]

-- no stop has a number that was not reached
pub leave_later : (image : ImageView) (p t k : ℕ) (h : History) → length (controls image h) < k → leave_in k (run_stops image p t h) ≡ None
leave_later image p t k [] later = ap (leave_in k) (stops_boot image p t)
leave_later image p t k (m ∷ h) later =
    leave_stays image p t k m h (λ e. (let bad : k < k = omega (arith, later, e) in absurd (omega arith)))
    ∙ leave_later image p t k h (omega (arith, later, controls_rise image m h))

-- the stop of a moment is found by its number
pub leave_here : (image : ImageView) (p t : ℕ) (m : Moment) (h : History) → is_stop image t m h ≡ true → p ≤ length (controls image h) →
    length (controls image h) < length (controls image (m ∷ h)) →
    leave_in (length (controls image (m ∷ h))) (run_stops image p t (m ∷ h)) ≡ Some (left_of image p m h)
leave_here image p t m h e before one =
    let k = length (controls image (m ∷ h)) in
    ap (leave_in k) (stops_more image p t m h e before) ∙ leave_more k (run_stops image p t h) (stop_at image p m h)
    ∙ ap (λ o. option_or o (leave_in k (stop_at image p m h ∷ []))) (leave_later image p t k h one)
    ∙ leave_this k (stop_at image p m h) refl
