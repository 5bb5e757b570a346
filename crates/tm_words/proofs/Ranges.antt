-- The numbers of a command are in their ranges.
use Rattle.std.proofs.Common.{◌≡◌, ◌≢◌, ◌≤◌, ◌-◌, ◌^◌, ℕ, Bool, true, false, List, length, Option, Some, None, refl, arith, ◌&&◌, nat_le}
use Rattle.std.specs.Prelude.{bytes_eq, IfSome, option_map, option_and_then, if◌then◌else◌}
use Rattle.std.specs.List.{list_all}
use Rattle.std.proofs.lemmas.Bool.Decides.{nat_tests}
use Rattle.std.proofs.lemmas.Slice.Eq.{bytes_eq-Decides}
use Rattle.tm_words.specs.declared.form.Form.{Form}
use Rattle.tm_words.specs.declared.form.Form.TheVariants as form
use Rattle.tm_words.specs.declared.command.Command.TheVariants.{Live, Replay, Make, Load}
use Rattle.tm_words.specs.Numbers.{number_in, task_in, digits_value, is_digit}
use Rattle.tm_words.specs.Forms.{asked_by}
use Rattle.tm_words.specs.Command.{is_named, IsInRange}

within : (least most number : ℕ) (digits : Bool) → IfSome (if digits && nat_le least number && nat_le number most then Some number else None) (λ n. (least ≤ n) × (n ≤ most))
within least most number digits = go (digits && nat_le least number && nat_le number most) refl
  where
    go : (test : Bool) → (digits && nat_le least number && nat_le number most) ≡ test →
        IfSome (if test then Some number else None) (λ n. (least ≤ n) × (n ≤ most))
    go false e = tt
    go true e = (grind (arith, nat_tests), grind (arith, nat_tests))

pub number_in-range : (least most : ℕ) (text : List ℕ) → IfSome (number_in least most text) (λ n. (least ≤ n) × (n ≤ most))
unfolding number_in
number_in-range least most text =
    within least most (digits_value text) (nat_le 1 (length text) && nat_le (length text) 20 && list_all is_digit text)

made : (number : Option ℕ) → IfSome (option_map Make number) IsInRange
made None = tt
made (Some number) = tt

-- a task is one of 0 to 15
pub task_in-range : (text : List ℕ) → IfSome (task_in text) (λ n. n ≤ 15)
unfolding task_in
task_in-range text = go (nat_le (length text) 2) (number_in 0 15 text) (number_in-range 0 15 text)
  where
    go : (short : Bool) (number : Option ℕ) → IfSome number (λ n. (0 ≤ n) × (n ≤ 15)) → IfSome (if short then number else None) (λ n. n ≤ 15)
    go false number range = tt
    go true None range = tt
    go true (Some number) range = range.1

loaded : (image executable new : List ℕ) (task : Option ℕ) → IfSome task (λ n. n ≤ 15) →
    IfSome (option_map (λ number. Load image number executable new) task) IsInRange
loaded image executable new None range = tt
loaded image executable new (Some task) range = range

replayed : (image dump : List ℕ) (point workers : Option ℕ) → IfSome workers (λ n. (1 ≤ n) × (n ≤ 16)) →
    IfSome (option_and_then (λ p. option_map (Replay image dump p) workers) point) IsInRange
replayed image dump None workers range = tt
replayed image dump (Some point) None range = tt
replayed image dump (Some point) (Some workers) range = range

another : (dump tape : List ℕ) → bytes_eq tape dump ≡ false → tape ≢ dump
another dump tape differ same = let is = (bytes_eq-Decides tape dump).1 same in cc

driven_apart : (image plant dump : List ℕ) (slices len : Option ℕ) (tape : Option (List ℕ)) → IfSome slices (λ n. (0 ≤ n) × (n ≤ 1048576)) →
    IfSome len (λ n. (0 ≤ n) × (n ≤ 1048576)) → IfSome tape (λ name. name ≢ dump) →
    IfSome (option_and_then (λ count. option_map (λ size. Live image plant dump count size tape) len) slices) IsInRange
driven_apart image plant dump None len tape many long apart = tt
driven_apart image plant dump (Some count) None tape many long apart = tt
driven_apart image plant dump (Some count) (Some size) tape many long apart = (many.1, long.1, apart)

driven : (image plant dump : List ℕ) (slices len : Option ℕ) (tape : Option (List ℕ)) → IfSome slices (λ n. (0 ≤ n) × (n ≤ 1048576)) →
    IfSome len (λ n. (0 ≤ n) × (n ≤ 1048576)) →
    IfSome (if is_named dump tape then None else option_and_then (λ count. option_map (λ size. Live image plant dump count size tape) len) slices) IsInRange
driven image plant dump slices len None many long = driven_apart image plant dump slices len None many long tt
driven image plant dump slices len (Some tape) many long = go (bytes_eq tape dump) refl
  where
    go : (same : Bool) → bytes_eq tape dump ≡ same →
        IfSome (if same then None else option_and_then (λ count. option_map (λ size. Live image plant dump count size (Some tape)) len) slices) IsInRange
    go true e = tt
    go false e = driven_apart image plant dump slices len (Some tape) many long (another dump tape e)

pub in_range : (f : Form) → IfSome (asked_by f) IsInRange
in_range (form.Trace image plan) = tt
in_range (form.Record image plan dump) = tt
in_range (form.Live image plant dump slices len tape) =
    driven image.now plant.now dump.now (number_in 0 1048576 slices.now) (number_in 0 1048576 len.now) tape
    (number_in-range 0 1048576 slices.now) (number_in-range 0 1048576 len.now)
in_range (form.Points image dump) = tt
in_range (form.Replay image dump from workers) =
    replayed image.now dump.now (number_in 0 (2 ^ 64 - 1) from.now) (number_in 1 16 workers.now) (number_in-range 1 16 workers.now)
in_range (form.Make number) = made (number_in 0 (2 ^ 32 - 1) number.now)
in_range (form.Load image task executable new) = loaded image.now executable.now new.now (task_in task.now) (task_in-range task.now)
