-- What follows from how a call ended, by its class alone.
use Rattle.std.proofs.Common.{◌≡◌, ◌≢◌, ℕ, List, [], ◌∷◌, map, All, Option, Some, None, Result, Ok, Bool, true, false, IsTrue, ◌⊎◌, inl, inr, refl, sym, ap, ◌∙◌, subst, arith, nat_lt, ◌+◌, ◌≤◌}
use Rattle.std.specs.Prelude.{if◌then◌else◌}
use Rattle.std.specs.Str.{bytes_eq}
use Rattle.std.proofs.lemmas.Bool.Decides.{nat_tests}
use Rattle.std.proofs.lemmas.List.Elements.{All-head, All-tail, All-same}
use Rattle.std.proofs.lemmas.Slice.Eq.{bytes_eq-Decides}
use Rattle.tm_io.specs.Counts.{Rose, counted, last_count}
use Rattle.tm_io.specs.Shelf.{ShelfView, put_in, held}
use Rattle.tm_io.specs.Sink.{SinkView}
use Rattle.tm_prog.specs.declared.status.Status.{Status}
use Rattle.tm_prog.specs.declared.status.Status.TheVariants as status
use Rattle.tm_words.specs.declared.command.Command.{Command}
use Rattle.tm_prog.specs.Class.{Class, class_of, Done, HalfDone, Unasked, Unread, Starved, Refusal}
use Rattle.tm_prog.specs.Made.{PutView, MadeView}
use Rattle.tm_prog.specs.Gained.{Gained}
use Rattle.tm_prog.specs.Reads.{CanRefuse}
use Rattle.tm_prog.specs.MadeFor.{names_put}
use Rattle.tm_prog.specs.Answer.{answer_of}
use Rattle.tm_prog.specs.World.{World, all_put, PutsStopped, IsHalfDone}
use Rattle.tm_prog.specs.Outcome.{Ends, EndsAs, IsAnswer, Counts, CountsStay, PutCounted, WriteCounted, Stays, OnlyThese, OthersStay, NoneRose, IsDone}

-- of a shelf only the contents and the count of puts change by puts
record PutsKeep (old new : ShelfView) : Type 0 where
  tells : new.tells ≡ old.tells
  gets : new.gets ≡ old.gets
  calm : new.calm ≡ old.calm
  room : new.room ≡ old.room

puts_keep : (puts : List PutView) (s : ShelfView) → PutsKeep s (all_put puts s)
puts_keep [] s = record { tells = refl; gets = refl; calm = refl; room = refl }
puts_keep (p ∷ puts) s =
    let rest = puts_keep puts (put_in s p.name p.bytes) in
    record { tells = rest.tells; gets = rest.gets; calm = rest.calm; room = rest.room }

puts_count : (puts : List PutView) (s : ShelfView) → (all_put puts s).puts ≡ s.puts
puts_count [] s = refl
puts_count (p ∷ puts) s = puts_count puts (put_in s p.name p.bytes)

stopped_keeps : (puts : List PutView) (old new : ShelfView) → PutsStopped puts old new → PutsKeep old new
stopped_keeps [] old new none = absurd none
stopped_keeps (p ∷ puts) old new (inl failed) = record {
  tells = ap (λ (s : ShelfView). s.tells) failed.counts;
  gets = ap (λ (s : ShelfView). s.gets) failed.counts;
  calm = ap (λ (s : ShelfView). s.calm) failed.counts;
  room = ap (λ (s : ShelfView). s.room) failed.counts;
}
stopped_keeps (p ∷ puts) old new (inr later) =
    let rest = stopped_keeps puts (put_in old p.name p.bytes) new later in
    record { tells = rest.tells; gets = rest.gets; calm = rest.calm; room = rest.room }

stopped_count : (puts : List PutView) (old new : ShelfView) → PutsStopped puts old new → new.puts ≡ counted old.puts
stopped_count [] old new none = absurd none
stopped_count (p ∷ puts) old new (inl failed) = ap (λ (s : ShelfView). s.puts) failed.counts
stopped_count (p ∷ puts) old new (inr later) = stopped_count puts (put_in old p.name p.bytes) new later

half_counts : (made : MadeView) (before after : World) → IsHalfDone made before after → PutCounted before after ⊎ WriteCounted before after
half_counts made before after (inl stopped) = inl (record {
  gets = (stopped_keeps made.puts before.shelf after.shelf stopped.0).gets;
  puts = stopped_count made.puts before.shelf after.shelf stopped.0;
  faults = ap (λ (k : SinkView). k.faults) stopped.1;
})
half_counts made before after (inr stopped) = inr (record {
  gets = ap (λ (s : ShelfView). s.gets) stopped.0 ∙ (puts_keep made.puts before.shelf).gets;
  puts = ap (λ (s : ShelfView). s.puts) stopped.0 ∙ puts_count made.puts before.shelf;
  faults = ap (λ (k : SinkView). k.faults) stopped.1.all_else;
})

same_counts : (before after : World) → after ≡ before → CountsStay before after
same_counts before after same = record {
  gets = ap (λ (w : World). w.shelf.gets) same;
  puts = ap (λ (w : World). w.shelf.puts) same;
  faults = ap (λ (w : World). w.sink.faults) same;
}

part_counts : (before after : World) → after.shelf ≡ before.shelf → after.sink ≡ before.sink → CountsStay before after
part_counts before after shelf sink = record {
  gets = ap (λ (s : ShelfView). s.gets) shelf;
  puts = ap (λ (s : ShelfView). s.puts) shelf;
  faults = ap (λ (k : SinkView). k.faults) sink;
}

pub counts_as : {A : Type 0} (unasked : Type 0) (answers : MadeView → Type 0) (plain : Option (Result A Status)) (class : Class) (s : Status) (before after : World) → EndsAs unasked answers plain class s before after → Counts class before after
counts_as unasked answers plain Done s before after e = record {
  gets = ap (λ (w : World). w.shelf.gets) e.2 ∙ (puts_keep e.0.puts before.shelf).gets;
  puts = ap (λ (w : World). w.shelf.puts) e.2 ∙ puts_count e.0.puts before.shelf;
  faults = ap (λ (w : World). w.sink.faults) e.2;
}
counts_as unasked answers plain HalfDone s before after e = half_counts e.0 before after e.2
counts_as unasked answers plain Unasked s before after e = same_counts before after e.0
counts_as unasked answers plain Unread s before after e = record {
  gets = ap (λ (s : ShelfView). s.gets) e.0.0;
  puts = ap (λ (s : ShelfView). s.puts) e.0.0;
  faults = ap (λ (k : SinkView). k.faults) e.1;
}
counts_as unasked answers plain Starved s before after e = part_counts before after e.0 e.1
counts_as unasked answers plain Refusal s before after e = part_counts before after e.0.0 e.1

pub counts : (class : Class) (s : Status) (command : Option Command) (gained : Gained) (before after : World) → Ends class s command gained before after → Counts class before after
counts class s command gained before after = counts_as (command ≡ None) (λ made. IsAnswer command gained made before) (answer_of command gained before.shelf.content) class s before after

half_stays : (made : MadeView) (before after : World) → IsHalfDone made before after → Stays before after
half_stays made before after (inl stopped) =
    let kept = stopped_keeps made.puts before.shelf after.shelf stopped.0 in
    record { tells = kept.tells; calm = kept.calm; rooms = kept.room; sink_calm = ap (λ (k : SinkView). k.calm) stopped.1 }
half_stays made before after (inr stopped) =
    let kept = puts_keep made.puts before.shelf in
    record {
      tells = ap (λ (s : ShelfView). s.tells) stopped.0 ∙ kept.tells;
      calm = ap (λ (s : ShelfView). s.calm) stopped.0 ∙ kept.calm;
      rooms = ap (λ (s : ShelfView). s.room) stopped.0 ∙ kept.room;
      sink_calm = ap (λ (k : SinkView). k.calm) stopped.1.all_else;
    }

part_stays : (before after : World) (shelf : ShelfView) → after.shelf ≡ shelf → PutsKeep before.shelf shelf → after.sink ≡ before.sink → Stays before after
part_stays before after shelf is kept sink = record {
  tells = ap (λ (s : ShelfView). s.tells) is ∙ kept.tells;
  calm = ap (λ (s : ShelfView). s.calm) is ∙ kept.calm;
  rooms = ap (λ (s : ShelfView). s.room) is ∙ kept.room;
  sink_calm = ap (λ (k : SinkView). k.calm) sink;
}

same_keeps : (s : ShelfView) → PutsKeep s s
same_keeps s = puts_keep [] s

pub stays_as : {A : Type 0} (unasked : Type 0) (answers : MadeView → Type 0) (plain : Option (Result A Status)) (class : Class) (s : Status) (before after : World) → EndsAs unasked answers plain class s before after → Stays before after
stays_as unasked answers plain Done s before after e =
    let kept = puts_keep e.0.puts before.shelf in
    record {
      tells = ap (λ (w : World). w.shelf.tells) e.2 ∙ kept.tells;
      calm = ap (λ (w : World). w.shelf.calm) e.2 ∙ kept.calm;
      rooms = ap (λ (w : World). w.shelf.room) e.2 ∙ kept.room;
      sink_calm = ap (λ (w : World). w.sink.calm) e.2;
    }
stays_as unasked answers plain HalfDone s before after e = half_stays e.0 before after e.2
stays_as unasked answers plain Unasked s before after e = part_stays before after before.shelf (ap (λ (w : World). w.shelf) e.0) (same_keeps before.shelf) (ap (λ (w : World). w.sink) e.0)
stays_as unasked answers plain Unread s before after e = record {
  tells = ap (λ (s : ShelfView). s.tells) e.0.0;
  calm = ap (λ (s : ShelfView). s.calm) e.0.0;
  rooms = ap (λ (s : ShelfView). s.room) e.0.0;
  sink_calm = ap (λ (k : SinkView). k.calm) e.1;
}
stays_as unasked answers plain Starved s before after e = part_stays before after before.shelf e.0 (same_keeps before.shelf) e.1
stays_as unasked answers plain Refusal s before after e = part_stays before after before.shelf e.0.0 (same_keeps before.shelf) e.1

pub stays : (class : Class) (s : Status) (command : Option Command) (gained : Gained) (before after : World) → Ends class s command gained before after → Stays before after
stays class s command gained before after = stays_as (command ≡ None) (λ made. IsAnswer command gained made before) (answer_of command gained before.shelf.content) class s before after

not_true : (b : Bool) → (b ≡ true → ⊥) → b ≡ false
not_true true h = absurd (h refl)
not_true false h = refl

put_elsewhere : (tells : Bool) (content : List ℕ → Option (List ℕ)) (name bytes other : List ℕ) → other ≢ name →
    (if tells then held content name bytes else content) other ≡ content other
put_elsewhere true content name bytes other apart =
    let same : bytes_eq other name ≡ false = not_true _ (λ is. apart ((bytes_eq-Decides other name).0 is)) in
    rw same refl
put_elsewhere false content name bytes other apart = refl

puts_elsewhere : (puts : List PutView) (s : ShelfView) (other : List ℕ) →
    All (λ name. other ≢ name) (map (λ p. p.name) puts) → (all_put puts s).content other ≡ s.content other
puts_elsewhere [] s other apart = refl
puts_elsewhere (p ∷ puts) s other apart =
    puts_elsewhere puts (put_in s p.name p.bytes) other (All-tail (λ name. other ≢ name) p.name (map (λ p. p.name) puts) apart) ∙
    put_elsewhere s.tells s.content p.name p.bytes other (All-head (λ name. other ≢ name) p.name (map (λ p. p.name) puts) apart)

stopped_elsewhere : (puts : List PutView) (old new : ShelfView) (other : List ℕ) →
    All (λ name. other ≢ name) (map (λ p. p.name) puts) → PutsStopped puts old new → new.content other ≡ old.content other
stopped_elsewhere [] old new other apart none = absurd none
stopped_elsewhere (p ∷ puts) old new other apart (inl failed) =
    failed.others_stay other (All-head (λ name. other ≢ name) p.name (map (λ p. p.name) puts) apart)
stopped_elsewhere (p ∷ puts) old new other apart (inr later) =
    stopped_elsewhere puts (put_in old p.name p.bytes) new other (All-tail (λ name. other ≢ name) p.name (map (λ p. p.name) puts) apart) later ∙
    put_elsewhere old.tells old.content p.name p.bytes other (All-head (λ name. other ≢ name) p.name (map (λ p. p.name) puts) apart)

half_elsewhere : (made : MadeView) (before after : World) (other : List ℕ) →
    All (λ name. other ≢ name) (map (λ p. p.name) made.puts) → IsHalfDone made before after → after.shelf.content other ≡ before.shelf.content other
half_elsewhere made before after other apart (inl stopped) = stopped_elsewhere made.puts before.shelf after.shelf other apart stopped.0
half_elsewhere made before after other apart (inr stopped) =
    ap (λ (s : ShelfView). s.content other) stopped.0 ∙ puts_elsewhere made.puts before.shelf other apart

-- nothing is put where nothing was made
pub contents_stay_as : {A : Type 0} (unasked : Type 0) (answers : MadeView → Type 0) (plain : Option (Result A Status)) (class : Class) (s : Status) (before after : World) → EndsAs unasked answers plain class s before after →
    class ≢ Done → class ≢ HalfDone → after.shelf.content ≡ before.shelf.content
contents_stay_as unasked answers plain Done s before after e not_done not_half = absurd (not_done refl)
contents_stay_as unasked answers plain HalfDone s before after e not_done not_half = absurd (not_half refl)
contents_stay_as unasked answers plain Unasked s before after e not_done not_half = ap (λ (w : World). w.shelf.content) e.0
contents_stay_as unasked answers plain Unread s before after e not_done not_half = ap (λ (s : ShelfView). s.content) e.0.0
contents_stay_as unasked answers plain Starved s before after e not_done not_half = ap (λ (s : ShelfView). s.content) e.0
contents_stay_as unasked answers plain Refusal s before after e not_done not_half = ap (λ (s : ShelfView). s.content) e.0.0

all_same : (names : List (List ℕ)) (before after : World) → after.shelf.content ≡ before.shelf.content → OnlyThese names before after
all_same names before after same = λ name apart. ap (λ (content : List ℕ → Option (List ℕ)). content name) same

-- what is put is put under these names alone
pub only_these : {A : Type 0} (unasked : Type 0) (answers : MadeView → Type 0) (plain : Option (Result A Status)) (class : Class) (s : Status) (before after : World) → EndsAs unasked answers plain class s before after →
    (names : List (List ℕ)) → ((made : MadeView) → answers made → map (λ p. p.name) made.puts ≡ names) → OnlyThese names before after
only_these unasked answers plain Done s before after e names named = λ name apart.
    ap (λ (w : World). w.shelf.content name) e.2 ∙ puts_elsewhere e.0.puts before.shelf name (All-same (λ put. name ≢ put) _ _ (named e.0 e.1) apart)
only_these unasked answers plain HalfDone s before after e names named = λ name apart.
    half_elsewhere e.0 before after name (All-same (λ put. name ≢ put) _ _ (named e.0 e.1) apart) e.2
only_these unasked answers plain Unasked s before after e names named = all_same names before after (ap (λ (w : World). w.shelf.content) e.0)
only_these unasked answers plain Unread s before after e names named = all_same names before after (ap (λ (s : ShelfView). s.content) e.0.0)
only_these unasked answers plain Starved s before after e names named = all_same names before after (ap (λ (s : ShelfView). s.content) e.0)
only_these unasked answers plain Refusal s before after e names named = all_same names before after (ap (λ (s : ShelfView). s.content) e.0.0)

-- where the words ask for nothing, nothing is made
unasked_stays : (class : Class) (s : Status) (gained : Gained) (before after : World) → Ends class s None gained before after → after.shelf.content ≡ before.shelf.content
unasked_stays Done s gained before after e = absurd e.1
unasked_stays HalfDone s gained before after e = absurd e.1
unasked_stays Unasked s gained before after e = ap (λ (w : World). w.shelf.content) e.0
unasked_stays Unread s gained before after e = ap (λ (s : ShelfView). s.content) e.0.0
unasked_stays Starved s gained before after e = ap (λ (s : ShelfView). s.content) e.0
unasked_stays Refusal s gained before after e = ap (λ (s : ShelfView). s.content) e.0.0

pub others_stay : (class : Class) (s : Status) (command : Option Command) (gained : Gained) (before after : World) → Ends class s command gained before after → OthersStay command before after
others_stay class s None gained before after e = unasked_stays class s gained before after e
others_stay class s (Some command) gained before after e =
    only_these (Some command ≡ None) (λ made. IsAnswer (Some command) gained made before) (answer_of (Some command) gained before.shelf.content)
    class s before after e (names_put command) (λ made answers. answers.0.names)

-- a class with one status
pub done_is : (s : Status) → class_of s ≡ Done → s ≡ status.Ok
done_is status.Ok is = refl
done_is status.Words is = cc
done_is status.ReadFault is = cc
done_is (status.Image fault) is = cc
done_is (status.Plan fault) is = cc
done_is (status.Dump fault) is = cc
done_is (status.Point missing) is = cc
done_is (status.Diverged found) is = cc
done_is status.WriteFault is = cc
done_is (status.TooLong file) is = cc
done_is (status.Elf fault) is = cc
done_is (status.NoTask task) is = cc
done_is status.Memory is = cc

pub half_done_is : (s : Status) → class_of s ≡ HalfDone → s ≡ status.WriteFault
half_done_is status.Ok is = cc
half_done_is status.Words is = cc
half_done_is status.ReadFault is = cc
half_done_is (status.Image fault) is = cc
half_done_is (status.Plan fault) is = cc
half_done_is (status.Dump fault) is = cc
half_done_is (status.Point missing) is = cc
half_done_is (status.Diverged found) is = cc
half_done_is status.WriteFault is = refl
half_done_is (status.TooLong file) is = cc
half_done_is (status.Elf fault) is = cc
half_done_is (status.NoTask task) is = cc
half_done_is status.Memory is = cc

pub starved_is : (s : Status) → class_of s ≡ Starved → s ≡ status.Memory
starved_is status.Ok is = cc
starved_is status.Words is = cc
starved_is status.ReadFault is = cc
starved_is (status.Image fault) is = cc
starved_is (status.Plan fault) is = cc
starved_is (status.Dump fault) is = cc
starved_is (status.Point missing) is = cc
starved_is (status.Diverged found) is = cc
starved_is status.WriteFault is = cc
starved_is (status.TooLong file) is = cc
starved_is (status.Elf fault) is = cc
starved_is (status.NoTask task) is = cc
starved_is status.Memory is = refl

pub unput_as : {A : Type 0} (unasked : Type 0) (answers : MadeView → Type 0) (plain : Option (Result A Status)) (s : Status) (before after : World) →
    EndsAs unasked answers plain (class_of s) s before after → s ≢ status.Ok → s ≢ status.WriteFault → after.shelf.content ≡ before.shelf.content
unput_as unasked answers plain s before after e not_ok not_fault =
    contents_stay_as unasked answers plain (class_of s) s before after e (λ is. not_ok (done_is s is)) (λ is. not_fault (half_done_is s is))

pub unput : (s : Status) (command : Option Command) (gained : Gained) (before after : World) → Ends (class_of s) s command gained before after →
    s ≢ status.Ok → s ≢ status.WriteFault → after.shelf.content ≡ before.shelf.content
unput s command gained before after = unput_as (command ≡ None) (λ made. IsAnswer command gained made before) (answer_of command gained before.shelf.content) s before after

at_last : (n : ℕ) → nat_lt n last_count ≡ false → last_count ≤ n
at_last n is = grind (arith, nat_tests)

rises_at : (n : ℕ) (below : Bool) → nat_lt n last_count ≡ below → Rose n (if below then n + 1 else n)
rises_at n true is = inl (omega arith)
rises_at n false is = inr (at_last n is)

rises : (n : ℕ) → Rose n (counted n)
rises n = rises_at n (nat_lt n last_count) refl

rose : (before now : ℕ) → now ≡ counted before → Rose before now
rose before now is = subst (Rose before) (sym is) (rises before)

one_rose : (before after : World) → NoneRose before after → PutCounted before after ⊎ WriteCounted before after → ⊥
one_rose before after quiet (inl put) = quiet.puts (rose _ _ put.puts)
one_rose before after quiet (inr write) = quiet.faults (rose _ _ write.faults)

-- a call in which no count rose met no fault
pub undisturbed_as : {A : Type 0} (unasked : Type 0) (answers : MadeView → Type 0) (plain : Option (Result A Status)) (class : Class) (s : Status) (before after : World) (value : A) →
    EndsAs unasked answers plain class s before after → class_of s ≡ class → IsTrue before.shelf.tells →
    ¬ unasked → plain ≡ Some (Ok value) → NoneRose before after → IsDone s
undisturbed_as unasked answers plain Done s before after value e is tells asked due quiet = inl (done_is s is)
undisturbed_as unasked answers plain HalfDone s before after value e is tells asked due quiet =
    absurd (one_rose before after quiet (half_counts e.0 before after e.2))
undisturbed_as unasked answers plain Unasked s before after value e is tells asked due quiet = absurd (asked e.1)
undisturbed_as unasked answers plain Unread s before after value e is tells asked due quiet =
    absurd (quiet.gets (rose _ _ (ap (λ (s : ShelfView). s.gets) e.0.0)))
undisturbed_as unasked answers plain Starved s before after value e is tells asked due quiet = inr (starved_is s is)
undisturbed_as unasked answers plain Refusal s before after value e is tells asked due quiet = let refused = e.0.2 tells in cc

asks : (command : Option Command) (gained : Gained) (content : List ℕ → Option (List ℕ)) (made : MadeView) →
    answer_of command gained content ≡ Some (Ok made) → ¬ (command ≡ None)
asks command gained content made due is =
    let none : answer_of None gained content ≡ Some (Ok made) =
    subst (λ (q : Option Command). answer_of q gained content ≡ Some (Ok made)) is due in cc

pub undisturbed : (class : Class) (s : Status) (command : Option Command) (gained : Gained) (before after : World) (made : MadeView) →
    Ends class s command gained before after → class_of s ≡ class → IsTrue before.shelf.tells →
    answer_of command gained before.shelf.content ≡ Some (Ok made) → NoneRose before after → IsDone s
undisturbed class s command gained before after made e is tells due quiet =
    undisturbed_as (command ≡ None) (λ made. IsAnswer command gained made before) (answer_of command gained before.shelf.content)
    class s before after made e is tells (asks command gained before.shelf.content made due) due quiet

-- a refusal is of its files
pub refusals_as : {A : Type 0} (unasked : Type 0) (answers : MadeView → Type 0) (plain : Option (Result A Status)) (s : Status) (before after : World) →
    EndsAs unasked answers plain (class_of s) s before after → CanRefuse s
refusals_as unasked answers plain status.Ok before after e = tt
refusals_as unasked answers plain status.Words before after e = tt
refusals_as unasked answers plain status.ReadFault before after e = tt
refusals_as unasked answers plain (status.Image fault) before after e = e.0.1
refusals_as unasked answers plain (status.Plan fault) before after e = e.0.1
refusals_as unasked answers plain (status.Dump fault) before after e = e.0.1
refusals_as unasked answers plain (status.Point missing) before after e = tt
refusals_as unasked answers plain (status.Diverged found) before after e = tt
refusals_as unasked answers plain status.WriteFault before after e = tt
refusals_as unasked answers plain (status.TooLong file) before after e = e.0.1
refusals_as unasked answers plain status.Memory before after e = tt
refusals_as unasked answers plain (status.Elf fault) before after e = e.0.1
refusals_as unasked answers plain (status.NoTask task) before after e = tt

pub refusals : (s : Status) (command : Option Command) (gained : Gained) (before after : World) → Ends (class_of s) s command gained before after → CanRefuse s
refusals s command gained before after = refusals_as (command ≡ None) (λ made. IsAnswer command gained made before) (answer_of command gained before.shelf.content) s before after
