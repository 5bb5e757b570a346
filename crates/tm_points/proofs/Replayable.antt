-- What is kept where nothing is lost.
use Rattle.std.proofs.Common.{◌≡◌, ℕ, ◌≤◌, length, Bool, true, false, cond, Option, Some, None, arith, refl}
use Rattle.std.specs.Prelude.{nat_lt, ◌&&◌, IsSomeAnd}
use Rattle.std.proofs.lemmas.Grind.{common_steps}
use Rattle.tm_ring.specs.Kept.{first_of}
use Rattle.tm_check.specs.Checkpoint.{Checkpoint}
use Rattle.tm_log.specs.Window.{WindowView}
use Rattle.tm_points.specs.declared.finder.Lost.{Lost}
use Rattle.tm_points.specs.Finder.{least_point, lost_of_check, lost_of_task, least_answer, lost_of}
use Rattle.tm_points.specs.Laws.{IsReplayable}
use Rattle.tm_points.proofs.Least.{least_none, none_least}

-- a task lacks nothing exactly where its checkpoint is kept, and its data entries from there on
nothing_lost : (task epoch first : ℕ) (o : Option Checkpoint) → lost_of_check task epoch first o ≡ None →
    IsSomeAnd o (λ c. first ≤ c.data_number)
nothing_lost task epoch first None none = absurd (cc)
nothing_lost task epoch first (Some c) none = grind (arith, common_steps)

all_kept : (task epoch first : ℕ) (o : Option Checkpoint) → IsSomeAnd o (λ c. first ≤ c.data_number) →
    lost_of_check task epoch first o ≡ None
all_kept task epoch first None kept = absurd kept
all_kept task epoch first (Some c) kept = grind (arith, common_steps)

-- neither of two refusals applies, and there is no third
record IsPassed (one two : Bool) (o : Option Lost) : Type 0 where
  first : one ≡ false
  second : two ≡ false
  third : o ≡ None

passed : (one two : Bool) (x y : Lost) (o : Option Lost) → cond one (Some x) (cond two (Some y) o) ≡ None → IsPassed one two o
passed true two x y o none = absurd (cc)
passed false true x y o none = absurd (cc)
passed false false x y o none = record { first = refl; second = refl; third = none }

passes : (one two : Bool) (x y : Lost) (o : Option Lost) → IsPassed one two o → cond one (Some x) (cond two (Some y) o) ≡ None
passes one two x y o p = grind (arith, common_steps)

pub needed : (w : WindowView) (point : ℕ) → lost_of w point ≡ None → IsReplayable w point
unfolding lost_of
needed w point none =
    let p : IsPassed (nat_lt w.control.total point) (nat_lt 0 (first_of w.control) && nat_lt point (least_point w))
    (least_answer (lost_of_task w point) (length w.shape.words)) = passed _ _ _ _ _ none in
    record {
      reached = grind (arith, common_steps, p.first);
      entries = λ dropped. grind (arith, common_steps, p.second);
      tasks = λ task below. nothing_lost _ _ _ _ (least_none (lost_of_task w point) (length w.shape.words) p.third task below);
    }

pub enough : (w : WindowView) (point : ℕ) → IsReplayable w point → lost_of w point ≡ None
unfolding lost_of
enough w point r =
    let p : IsPassed (nat_lt w.control.total point) (nat_lt 0 (first_of w.control) && nat_lt point (least_point w))
    (least_answer (lost_of_task w point) (length w.shape.words)) = record {
      first = grind (arith, common_steps, r.reached);
      second = grind (arith, common_steps, r.entries);
      third = none_least (lost_of_task w point) (length w.shape.words) (λ task below. all_kept _ _ _ _ (r.tasks task below));
    } in
    passes _ _ _ _ _ p
