-- What follows from how a call of `watch` ended.
use Rattle.std.proofs.Common.{◌≡◌, ℕ, ◌<◌, List, [], ◌∷◌, map, length, All, slice_index_or, Option, Some, None, Result, Ok, subst, sym, ap, ◌∙◌, arith, ◌≤◌, ◌+◌, length-append}
use Rattle.std.specs.Prelude.{zip}
use Rattle.std.specs.List.{range_with_len}
use Rattle.std.proofs.lemmas.List.{length-map}
use Rattle.std.proofs.lemmas.List.FromFn.{length-map-range_with_len}
use Rattle.std.proofs.lemmas.List.Elements.{All-nil, All-cons, All-head, All-tail}
use Rattle.tm_image.specs.Image.{ImageView}
use Rattle.tm_plant.specs.declared.plant.Act.{Act}
use Rattle.tm_io.specs.Shelf.{ShelfView}
use Rattle.tm_watch.specs.Views.{Watched, Observed, newcomer}
use Rattle.tm_watch.specs.Dumps.{dump_of}
use Rattle.tm_observe.specs.Lookers.{LookerView, AllLooked, IsShown}
use Rattle.tm_words.specs.declared.command.WatchCommand.{WatchCommand}
use Rattle.tm_prog.specs.declared.status.Status.{Status}
use Rattle.tm_prog.specs.Made.{MadeView}
use Rattle.tm_prog.specs.Gained.{Gained}
use Rattle.tm_live.specs.Tape.{tape_of, slice_of}
use Rattle.tm_prog.specs.WatchCommand.{observer_name, end_name, watch_names}
use Rattle.tm_prog.specs.WatchRun.{AreNewcomers}
use Rattle.tm_prog.specs.WatchEnds.{IsWatch, watched_said, names_watched}

-- only words of the form name files
pub asks_to_watch : (content : List ℕ → Option (List ℕ)) (asked : Option WatchCommand) (files : ImageView × List (List Act)) →
    watched_said content asked ≡ Some (Ok files) → ¬ (asked ≡ None)
asks_to_watch content asked files due is =
    let none : watched_said content None ≡ Some (Ok files) =
    subst (λ (q : Option WatchCommand). watched_said content q ≡ Some (Ok files)) is due in cc

-- what is made has the names that are asked for
pub has_names : (asked : Option WatchCommand) (gained : Gained) (made : MadeView) (shelf : ShelfView) → IsWatch asked gained made shelf →
    map (λ p. p.name) made.puts ≡ names_watched asked
has_names None gained made shelf none = absurd none
has_names (Some asked) gained made shelf is = is.names

-- what holds of each that is mapped
each_mapped : {X Y : Type 0} (P : Y → Type 0) (f : X → Y) (xs : List X) → All P (map f xs) → All (λ x. P (f x)) xs
each_mapped P f [] all = All-nil (λ x. P (f x))
each_mapped P f (x ∷ xs) all =
    All-cons (λ x. P (f x)) x xs (All-head P (f x) (map f xs) all) (each_mapped P f xs (All-tail P (f x) (map f xs) all))

-- observers that looked, and had seen nothing before, show what they saw
pub shown_after : (watch : Watched) (looks : ℕ) (before after : List LookerView) → 0 < looks →
    AreNewcomers watch before → AllLooked looks before after → All (IsShown watch) after
shown_after watch looks before after some new looked = λ k d within.
    let there : k < length before = subst (λ n. k < n) looked.number within in
    let old = each_mapped (λ (o : Observed). o ≡ newcomer watch.book watch.image) (λ (l : LookerView). l.observer) before new k d there in
    let look = looked.each k d there in
    let same : (slice_index_or before k d).observer.image ≡ watch.image = ap (λ (o : Observed). o.image) old in record {
      book = look.book ∙ ap (λ (o : Observed). o.book) old;
      image = look.image ∙ same;
      version = λ fed. look.version some fed ∙ ap (λ i. dump_of i (slice_index_or after k d).observer.seen) same;
    }

-- the same for the watch after the run
pub shown_since : (watch watch' : Watched) (looks : ℕ) (before after : List LookerView) → 0 < looks → watch' ≡ record watch { list = watch'.list } →
    AreNewcomers watch before → AllLooked looks before after → All (IsShown watch') after
shown_since watch watch' looks before after some same new looked =
    shown_after watch' looks before after some (subst (λ (w : Watched). AreNewcomers w before) (sym same) new) looked

zip_short : {X Y : Type 0} (xs : List X) (ys : List Y) → length (zip xs ys) ≤ length xs
zip_short [] ys = omega arith
zip_short (x ∷ xs) [] = omega arith
zip_short (x ∷ xs) (y ∷ ys) = let rest = zip_short xs ys in omega (arith, rest)

-- a tape has no more slices than takes
pub tape_short : (takes : List ℕ) (latches : List (List ℕ)) (len : ℕ) → length (tape_of takes latches len) ≤ length takes
tape_short takes latches len = omega (arith, length-map (zip takes latches) (slice_of len), zip_short takes latches)

-- one name for each observer, and one more
pub names_long : (prefix : List ℕ) (observers : ℕ) → length (watch_names prefix observers) ≡ observers + 1
names_long prefix observers = omega (
  arith,
  length-append (map (observer_name prefix) (range_with_len 0 observers)) (end_name prefix ∷ []),
  length-map-range_with_len (observer_name prefix) 0 observers,
)
