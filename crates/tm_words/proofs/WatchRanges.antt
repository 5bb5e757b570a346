-- The numbers of `watch` are in their ranges.
use Rattle.std.proofs.Common.{◌≤◌, ℕ, List, Option, Some, None}
use Rattle.std.specs.Prelude.{IfSome, option_map, option_and_then}
use Rattle.tm_words.specs.declared.watch.WatchForm.{WatchForm}
use Rattle.tm_words.specs.Numbers.{number_in}
use Rattle.tm_words.specs.Forms.{watch_asked_by}
use Rattle.tm_words.specs.Watch.{watching, IsWatchInRange}
use Rattle.tm_words.proofs.Ranges.{number_in-range}

watched : (image plant prefix : List ℕ) (slices len observers looks : Option ℕ) →
    IfSome slices (λ n. (0 ≤ n) × (n ≤ 1048576)) → IfSome len (λ n. (0 ≤ n) × (n ≤ 1048576)) →
    IfSome observers (λ n. (1 ≤ n) × (n ≤ 4)) → IfSome looks (λ n. (1 ≤ n) × (n ≤ 1000)) →
    IfSome (option_and_then (λ n. option_and_then (λ l. option_and_then (λ k. option_map (watching image plant prefix n l k) looks) observers) len) slices)
    IsWatchInRange
watched image plant prefix None len observers looks many long eyes often = tt
watched image plant prefix (Some n) None observers looks many long eyes often = tt
watched image plant prefix (Some n) (Some l) None looks many long eyes often = tt
watched image plant prefix (Some n) (Some l) (Some k) None many long eyes often = tt
watched image plant prefix (Some n) (Some l) (Some k) (Some m) many long eyes often = record {
  slices = many.1;
  len = long.1;
  someone = eyes.0;
  observers = eyes.1;
  look = often.0;
  looks = often.1;
}

pub watch_in_range : (form : WatchForm) → IfSome (watch_asked_by form) IsWatchInRange
watch_in_range form =
    watched form.image.now form.plant.now form.prefix.now
    (number_in 0 1048576 form.slices.now) (number_in 0 1048576 form.len.now) (number_in 1 4 form.observers.now) (number_in 1 1000 form.looks.now)
    (number_in-range 0 1048576 form.slices.now) (number_in-range 0 1048576 form.len.now) (number_in-range 1 4 form.observers.now) (number_in-range 1 1000 form.looks.now)
