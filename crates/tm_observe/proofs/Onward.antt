-- The kernel's part of a run that is published, one slice on.
use Rattle.std.proofs.Common.{◌≡◌, ℕ, ◌+◌, ◌-◌, ◌<◌, ◌≤◌, List, [], ◌∷◌, ◌++◌, length, refl, sym, ap, ap₂, ◌∙◌, subst, arith, append_assoc, append-nil, length-append}
use Rattle.std.specs.List.{zip}
use Rattle.std.proofs.lemmas.List.{length-map}
use Rattle.std.proofs.lemmas.Slice.Zip.{length-zip}
use mathlib.Core.List.{IsPrefix}
use Rattle.tm_marker.specs.declared.entries.Slice.{Slice}
use Rattle.tm_irq.specs.Lists.{KernelLists}
use Rattle.tm_live.specs.Growth.{added, GrewBy}
use Rattle.tm_live.specs.Tape.{TapeView, taped, slice_of, tape_of}
use Rattle.tm_live.specs.Kernel.{with_slice, tape_between, StaysSeated}
use Rattle.tm_live.proofs.Taking.{added_none, added_more, grew_none, grew_more, tape_more}
use Rattle.tm_watch.specs.Views.{Watched}
use Rattle.tm_observe.specs.Published.{published, PublishedSlices, WentOn}

-- a tape has a slice for each take
pub length-tape_of : (count len : ℕ) (takes : List ℕ) (latches : List (List ℕ)) → length takes ≡ count → length latches ≡ count → length (tape_of takes latches len) ≡ count
length-tape_of count len takes latches t l = omega (arith, length-map (zip takes latches) (slice_of len), length-zip takes latches, t, l)

module _ (count len : ℕ) (seat seat' : KernelLists) (tape tape' : TapeView) (watch watch' : Watched) (took : PublishedSlices count len seat seat' tape tape' watch watch') where
  -- so many were published
  pub published_length : length watch'.list ≡ length watch.list + count
  published_length =
      omega (arith, ap (λ (w : Watched). length w.list) took.list, length-append watch.list (tape_between seat seat' len), length-tape_of count len (added seat.takes seat'.takes) (added seat.latches seat'.latches) took.takes.size took.latches.size)

  module _ (slice : Slice) (is : slice.length ≡ len) where
    between_more : tape_between seat (with_slice seat' slice) len ≡ tape_between seat seat' len ++ slice ∷ []
    between_more =
        ap₂ (λ ts ls. tape_of ts ls len) (added_more count seat.takes seat'.takes slice.mask took.takes) (added_more count seat.latches seat'.latches slice.ports took.latches)
        ∙ tape_more (added seat.takes seat'.takes) (added seat.latches seat'.latches) len slice is (took.takes.size ∙ sym took.latches.size)

    -- one slice more was taken, published and put on the tape
    pub published_more : (seat'' : KernelLists) (tape'' : TapeView) (watch'' : Watched) → seat'' ≡ with_slice seat' slice → tape'' ≡ taped tape' slice
        → watch'' ≡ published watch' (slice ∷ []) → PublishedSlices (count + 1) len seat seat'' tape tape'' watch watch''
    published_more seat'' tape'' watch'' k t w =
        let more = between_more in
        let list : (watch.list ++ tape_between seat seat' len) ++ slice ∷ [] ≡ watch.list ++ tape_between seat (with_slice seat' slice) len =
        append_assoc watch.list (tape_between seat seat' len) (slice ∷ []) ∙ ap (λ xs. watch.list ++ xs) (sym more) in
        subst (λ (x : KernelLists). PublishedSlices (count + 1) len seat x tape tape'' watch watch'') (sym k) (record {
          seated = record { table = took.seated.table; devices = took.seated.devices; home = took.seated.home };
          takes = grew_more count seat.takes seat'.takes slice.mask took.takes;
          latches = grew_more count seat.latches seat'.latches slice.ports took.latches;
          slices = ap (λ (x : TapeView). x.slices) t ∙ ap (λ xs. xs ++ slice ∷ []) took.slices ∙ append_assoc tape.slices (tape_between seat seat' len) (slice ∷ []) ∙ ap (λ xs. tape.slices ++ xs) (sym more);
          room = ap (λ (x : TapeView). x.room) t ∙ omega (arith, took.room);
          list = w ∙ ap (λ (x : Watched). published x (slice ∷ [])) took.list ∙ ap (λ (xs : List Slice). record watch { list = xs }) list;
        })
