-- What a window keeps where one part of it changes.
use Rattle.std.proofs.Common.{◌≡◌, ◌≢◌, ℕ, ◌<◌, List, [], ◌∷◌, ◌++◌, length, map, get_or, slice_set, ap, sym, ◌∙◌, subst, refl, arith}
use Rattle.std.specs.Prelude.{All}
use Rattle.std.proofs.lemmas.List.{get_or-replicate, get_or-map, length-replicate, length-map, get_or-set_same, get_or-set_other, get_or_default, length-set}
use Rattle.std.proofs.lemmas.Option.{unwrap_or-slice_get}
use Rattle.std.proofs.Math.Seq.{map-set_same}
use Rattle.std.proofs.lemmas.Grind.{common_steps}
use Rattle.tm_marker.specs.declared.shape.Shape.{Shape}
use Rattle.tm_marker.specs.Shape.{IsShape}
use Rattle.tm_ring.specs.Kept.{kept}
use Rattle.tm_check.specs.Checkpoint.{Checkpoint, KeptChecks, kept_checks, pushed_check, HoldsChecks}
use Rattle.tm_check.proofs.Shifts.{holds_pushed}
use Rattle.tm_log.specs.Window.{WindowView, IsWindow, empty_window, checks_of, with_check, zero_marker}

-- the numbers of data words of the empty checkpoints are those that they were made with
pub sizes_of_empty : (cap : ℕ) (words : List ℕ) → map (λ (c : KeptChecks). c.words) (map (λ size. kept_checks [] 0 cap size) words) ≡ words
sizes_of_empty cap [] = refl
sizes_of_empty cap (w ∷ words) = ap (λ l. w ∷ l) (sizes_of_empty cap words)

-- an empty window of a shape within the limits is a window
pub empty_is_window : (shape : Shape) → IsShape shape → IsWindow (empty_window shape)
empty_is_window shape s = record {
  shape = s;
  control = refl;
  outputs = refl;
  logs = length-replicate (length shape.words) (kept [] 0 shape.caps.logs);
  log_caps = λ k d below. ap (λ r. r.cap) (get_or-replicate (length shape.words) k (kept [] 0 shape.caps.logs) d
      (subst (λ n. k < n) (length-replicate (length shape.words) (kept [] 0 shape.caps.logs)) below));
  checks = length-map shape.words (λ words. kept_checks [] 0 shape.caps.checks words);
  check_caps = λ k d below. ap (λ (c : KeptChecks). c.cap) (get_or-map (λ words. kept_checks [] 0 shape.caps.checks words) shape.words k 0 d
      (subst (λ n. k < n) (length-map shape.words (λ words. kept_checks [] 0 shape.caps.checks words)) below));
  check_words = sizes_of_empty shape.caps.checks shape.words;
  at = length-replicate (length shape.words) zero_marker;
  state = length-replicate (length shape.words) 0;
}

-- the checkpoints of a task, read by their place in the list
pub checks_there : (w : WindowView) (task : ℕ) (here : KeptChecks) → task < length w.checks →
    here ≡ get_or w.checks task here → checks_of w task ≡ here
checks_there w task here below is =
    unwrap_or-slice_get w.checks task (kept_checks [] 0 0 0)
    ∙ get_or_default w.checks task (kept_checks [] 0 0 0) here below
    ∙ sym is

-- one more item of the capacity, in the place of another
set_caps : (xs : List KeptChecks) (i : ℕ) (y : KeptChecks) (cap : ℕ) → i < length xs → All (λ (c : KeptChecks). c.cap ≡ cap) xs → y.cap ≡ cap →
    (k : ℕ) (d : KeptChecks) → k < length (slice_set xs i y) → (get_or (slice_set xs i y) k d).cap ≡ cap
set_caps xs i y cap below all is k d inside = grind (arith, common_steps)

-- other checkpoints of one task at the same capacity and size leave a window
pub keeps_window : (w : WindowView) (task : ℕ) (here next : KeptChecks) → IsWindow w → task < length w.checks →
    here ≡ get_or w.checks task here → next.cap ≡ here.cap → next.words ≡ here.words →
    IsWindow (record w { checks = slice_set w.checks task next })
keeps_window w task here next i below is cap words = record {
  shape = i.shape;
  control = i.control;
  outputs = i.outputs;
  logs = i.logs;
  log_caps = i.log_caps;
  checks = length-set w.checks task next ∙ i.checks;
  check_caps = set_caps w.checks task next w.shape.caps.checks below i.check_caps (cap ∙ ap (λ c. c.cap) is ∙ i.check_caps task here below);
  check_words = map-set_same (λ (c : KeptChecks). c.words) w.checks task next here (words ∙ ap (λ c. c.words) is) ∙ i.check_words;
  at = i.at;
  state = i.state;
}

-- a pushed checkpoint in the task's place is one more checkpoint of the task
pub puts_check : (w : WindowView) (task at : ℕ) (here next : KeptChecks) (c : Checkpoint) → at ≡ task → task < length w.checks →
    here ≡ get_or w.checks at here → next ≡ pushed_check here c →
    record w { checks = slice_set w.checks at next } ≡ with_check w task c
puts_check w task at here next c same below is pushed =
    ap (λ k. record w { checks = slice_set w.checks k next }) same
    ∙ ap (λ (n : KeptChecks). record w { checks = slice_set w.checks task n }) (
    pushed ∙ ap (λ k. pushed_check k c) (sym (checks_there w task here below (is ∙ ap (λ k. get_or w.checks k here) same))))

-- the task's checkpoints after one more, and those of the others
pub checks_pushed : (w : WindowView) (task : ℕ) (c : Checkpoint) → task < length w.checks →
    checks_of (with_check w task c) task ≡ pushed_check (checks_of w task) c
checks_pushed w task c below =
    unwrap_or-slice_get (slice_set w.checks task (pushed_check (checks_of w task) c)) task (kept_checks [] 0 0 0)
    ∙ get_or-set_same w.checks task (pushed_check (checks_of w task) c) (kept_checks [] 0 0 0) below

pub checks_others : (w : WindowView) (task : ℕ) (c : Checkpoint) (other : ℕ) → other ≢ task →
    checks_of (with_check w task c) other ≡ checks_of w other
checks_others w task c other differs =
    unwrap_or-slice_get (slice_set w.checks task (pushed_check (checks_of w task) c)) other (kept_checks [] 0 0 0)
    ∙ get_or-set_other w.checks task other (pushed_check (checks_of w task) c) (kept_checks [] 0 0 0) differs
    ∙ sym (unwrap_or-slice_get w.checks other (kept_checks [] 0 0 0))

-- the clauses of one more checkpoint of a task
pub holds_more : (w next : WindowView) (task : ℕ) (c : Checkpoint) → next ≡ with_check w task c → task < length w.checks →
    (all : List Checkpoint) → HoldsChecks (checks_of w task) all → HoldsChecks (checks_of next task) (all ++ c ∷ [])
holds_more w next task c is below all h =
    holds_pushed (checks_of w task) (checks_of next task) c (ap (λ (x : WindowView). checks_of x task) is ∙ checks_pushed w task c below) all h

-- as many checkpoints, of equal sizes
pub same_lengths : (one other : List KeptChecks) → map (λ (c : KeptChecks). c.words) one ≡ map (λ (c : KeptChecks). c.words) other →
    length one ≡ length other
same_lengths one other same =
    sym (length-map one (λ (c : KeptChecks). c.words)) ∙ ap length same ∙ length-map other (λ (c : KeptChecks). c.words)

pub same_sizes : (one other : List KeptChecks) → map (λ (c : KeptChecks). c.words) one ≡ map (λ (c : KeptChecks). c.words) other →
    (k : ℕ) (d e : KeptChecks) → k < length other → (get_or one k d).words ≡ (get_or other k e).words
same_sizes one other same k d e below =
    let long : length one ≡ length other = same_lengths one other same in
    sym (get_or-map (λ (c : KeptChecks). c.words) one k d 0 (omega arith))
    ∙ ap (λ l. get_or l k 0) same
    ∙ get_or-map (λ (c : KeptChecks). c.words) other k e 0 below
