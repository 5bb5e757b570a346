-- The kernel's part, one slice on.
use Rattle.std.proofs.Common.{◌≡◌, ℕ, ◌+◌, ◌-◌, ◌≤◌, List, [], ◌∷◌, ◌++◌, map, length, drop, zero, suc, refl, sym, ap, ap₂, ◌∙◌, subst, arith, append_assoc, append-nil, length-append, drop_of_length-le}
use Rattle.std.specs.List.{zip}
use Rattle.std.proofs.lemmas.List.{map-append, drop-append-le}
use Rattle.tm_marker.specs.declared.entries.Slice.{Slice}
use Rattle.tm_image.specs.Image.{ImageView}
use Rattle.tm_irq.specs.Lists.{KernelLists}
use Rattle.tm_record.specs.StandsFor.{RecorderView, StandsFor}
use Rattle.tm_live.specs.Growth.{added, GrewBy}
use Rattle.tm_live.specs.Tape.{TapeView, taped, slice_of, tape_of}
use Rattle.tm_live.specs.Kernel.{with_slice, tape_between, GoesOnBy, StaysSeated, TookSlices}

-- a list that didn't go on
pub added_none : {X : Type 0} (xs : List X) → added xs xs ≡ []
added_none xs = drop_of_length-le xs (omega arith)

pub grew_none : {X : Type 0} (xs : List X) → GrewBy 0 xs xs
grew_none xs = record { kept = sym (ap (λ ys. xs ++ ys) (added_none xs) ∙ append-nil xs); size = ap length (added_none xs) }

-- what had been added, and one item more
pub added_more : {X : Type 0} (count : ℕ) (before after : List X) (x : X) → GrewBy count before after
    → added before (after ++ x ∷ []) ≡ added before after ++ x ∷ []
added_more count before after x grew =
    let short : length before ≤ length after = omega (arith, ap length grew.kept, length-append before (added before after)) in
    drop-append-le (length before) after (x ∷ []) short

pub grew_more : {X : Type 0} (count : ℕ) (before after : List X) (x : X) → GrewBy count before after → GrewBy (count + 1) before (after ++ x ∷ [])
grew_more count before after x grew =
    let more = added_more count before after x grew in record {
      kept = ap (λ xs. xs ++ x ∷ []) grew.kept ∙ append_assoc before (added before after) (x ∷ []) ∙ ap (λ xs. before ++ xs) (sym more);
      size = ap length more ∙ length-append (added before after) (x ∷ []) ∙ ap (λ n. n + 1) grew.size;
    }

zip_more : {X Y : Type 0} (xs : List X) (ys : List Y) (x : X) (y : Y) → length xs ≡ length ys → zip (xs ++ x ∷ []) (ys ++ y ∷ []) ≡ zip xs ys ++ (x, y) ∷ []
zip_more [] [] x y same = refl
zip_more [] (y' ∷ ys) x y same = absurd (omega (arith, same))
zip_more (x' ∷ xs) [] x y same = absurd (omega (arith, same))
zip_more (x' ∷ xs) (y' ∷ ys) x y same = ap (λ ps. (x', y') ∷ ps) (zip_more xs ys x y (omega (arith, same)))

-- the tape has one slice more
pub tape_more : (takes : List ℕ) (latches : List (List ℕ)) (len : ℕ) (slice : Slice) → slice.length ≡ len → length takes ≡ length latches
    → tape_of (takes ++ slice.mask ∷ []) (latches ++ slice.ports ∷ []) len ≡ tape_of takes latches len ++ slice ∷ []
tape_more takes latches len slice is same =
    ap (map (slice_of len)) (zip_more takes latches slice.mask slice.ports same)
    ∙ map-append (slice_of len) (zip takes latches) ((slice.mask, slice.ports) ∷ [])
    ∙ ap (λ (n : ℕ). tape_of takes latches len ++ record slice { length = n } ∷ []) (sym is)

-- no slice was taken yet
pub took_none : (len : ℕ) (seat : KernelLists) (tape : TapeView) (recorder : RecorderView) → TookSlices 0 len seat seat tape tape recorder recorder
took_none len seat tape recorder =
    let none : tape_between seat seat len ≡ [] = ap₂ (λ ts ls. tape_of ts ls len) (added_none seat.takes) (added_none seat.latches) in record {
      seated = record { table = refl; devices = refl; home = refl };
      takes = grew_none seat.takes;
      latches = grew_none seat.latches;
      slices = sym (ap (λ xs. tape.slices ++ xs) none ∙ append-nil tape.slices);
      room = omega arith;
      stands = λ image script stands. subst (λ xs. StandsFor image recorder xs) (sym (ap (λ xs. script ++ xs) none ∙ append-nil script)) stands;
      number = omega arith;
    }

module _ (count len : ℕ) (seat seat' : KernelLists) (tape tape' : TapeView) (recorder recorder' : RecorderView) (took : TookSlices count len seat seat' tape tape' recorder recorder') (slice : Slice) (is : slice.length ≡ len) where
  same_counts : length (added seat.takes seat'.takes) ≡ length (added seat.latches seat'.latches)
  same_counts = took.takes.size ∙ sym took.latches.size

  between_more : tape_between seat (with_slice seat' slice) len ≡ tape_between seat seat' len ++ slice ∷ []
  between_more =
      ap₂ (λ ts ls. tape_of ts ls len) (added_more count seat.takes seat'.takes slice.mask took.takes) (added_more count seat.latches seat'.latches slice.ports took.latches)
      ∙ tape_more (added seat.takes seat'.takes) (added seat.latches seat'.latches) len slice is same_counts

  -- one slice more was taken, and given to the tape and to the recorder
  pub took_more : (seat'' : KernelLists) (tape'' : TapeView) (recorder'' : RecorderView) → seat'' ≡ with_slice seat' slice → tape'' ≡ taped tape' slice
      → GoesOnBy (slice ∷ []) recorder' recorder'' → recorder''.slices ≡ recorder'.slices + 1 → TookSlices (count + 1) len seat seat'' tape tape'' recorder recorder''
  took_more seat'' tape'' recorder'' k t r n =
      let more = between_more in
      subst (λ (x : KernelLists). TookSlices (count + 1) len seat x tape tape'' recorder recorder'') (sym k) (record {
        seated = record { table = took.seated.table; devices = took.seated.devices; home = took.seated.home };
        takes = grew_more count seat.takes seat'.takes slice.mask took.takes;
        latches = grew_more count seat.latches seat'.latches slice.ports took.latches;
        slices = ap (λ (x : TapeView). x.slices) t ∙ ap (λ xs. xs ++ slice ∷ []) took.slices ∙ append_assoc tape.slices (tape_between seat seat' len) (slice ∷ []) ∙ ap (λ xs. tape.slices ++ xs) (sym more);
        room = ap (λ (x : TapeView). x.room) t ∙ omega (arith, took.room);
        stands = λ image script stands. subst (λ xs. StandsFor image recorder'' xs) (append_assoc script (tape_between seat seat' len) (slice ∷ []) ∙ ap (λ xs. script ++ xs) (sym more)) (r image (script ++ tape_between seat seat' len) (took.stands image script stands));
        number = omega (arith, n, took.number);
      })
