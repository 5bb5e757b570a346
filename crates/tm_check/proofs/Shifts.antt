-- Slots that are filled one after another, the first becoming the last.
use Rattle.std.proofs.Common.{◌≡◌, ℕ, ◌-◌, ◌<◌, ◌≤◌, ◌+◌, List, [], ◌∷◌, ◌++◌, length, take, drop, zero, suc, min, Some, slice_get, arith, ap, sym, ◌∙◌, subst, inl, inr, length-append, length-drop, drop-drop, append_assoc}
use Rattle.std.proofs.Math.Nat.{min-eq_left, min-eq_right}
use Rattle.std.proofs.lemmas.Grind.{common_steps}
use Rattle.std.proofs.lemmas.List.{drop-append-le, take_more}
use Rattle.std.proofs.lemmas.List.Elements.{All-append}
use Rattle.std.proofs.lemmas.Option.{get_or_from_slice_get}
use Rattle.circular_buffer.specs.Buffer.{Buffer, buffer, keep_last}
use Rattle.circular_buffer.proofs.Places.{below_or_not}
use Rattle.tm_check.specs.Checkpoint.{Checkpoint, AreSized, KeptChecks, kept_checks, pushed_check, HoldsChecks}
use Rattle.tm_check.specs.Slots.{AreSlots}

-- so many of the new slots are there
pub record IsFilling (slots : Buffer Checkpoint) (cap size count : ℕ) : Type 0 where
  pub capacity : slots.capacity ≡ cap
  pub filled : length slots.items ≡ count
  pub sized : AreSized size slots.items

-- the first slots of `from` stand after the last ones of those before
pub record IsShifting (from before now : Buffer Checkpoint) (count : ℕ) : Type 0 where
  pub capacity : now.capacity ≡ from.capacity
  pub full : length now.items ≡ from.capacity
  pub items : now.items ≡ drop count before.items ++ take count from.items

module _ {X : Type 0} where
  -- nothing goes while there is room
  pub keep_last-room : (n : ℕ) (xs : List X) → length xs ≤ n → keep_last n xs ≡ xs
  keep_last-room n xs room = let none : length xs - n ≡ 0 = omega arith in ap (λ k. drop k xs) none

  -- the last items of a list that lost its first item and has one more at its end
  pub keep_last-shift : (len cap : ℕ) (s : List X) (x : X) → length s ≡ cap → 0 < cap → len ≤ cap →
      keep_last (min (len + 1) cap) (drop 1 s ++ x ∷ []) ≡ keep_last cap (keep_last len s ++ x ∷ [])
  keep_last-shift len cap s x full some fit =
      let rest : length (drop 1 s) ≡ cap - 1 = omega (arith, length-drop 1 s) in
      let long : length (drop 1 s ++ x ∷ []) ≡ cap = omega (arith, length-append (drop 1 s) (x ∷ []), rest) in
      let tail : length (keep_last len s) ≡ len = omega (arith, length-drop (length s - len) s) in
      elim (below_or_not len cap) [
        | inl room ↦
            let least : min (len + 1) cap ≡ len + 1 = min-eq_left (omega arith) in
            let k : length (drop 1 s ++ x ∷ []) - min (len + 1) cap ≡ cap - 1 - len = omega (arith, long, least) in
            ap (λ n. drop n (drop 1 s ++ x ∷ [])) k
            ∙ drop-append-le (cap - 1 - len) (drop 1 s) (x ∷ []) (omega (arith, rest))
            ∙ ap (λ l. l ++ x ∷ []) (drop-drop (cap - 1 - len) 1 s ∙ ap (λ n. drop n s) (omega arith))
            ∙ sym (keep_last-room cap (keep_last len s ++ x ∷ []) (omega (arith, length-append (keep_last len s) (x ∷ []), tail)))
        | inr none ↦
            let least : min (len + 1) cap ≡ cap = min-eq_right (omega arith) in
            let k : length (drop 1 s ++ x ∷ []) - min (len + 1) cap ≡ 0 = omega (arith, long, least) in
            let whole : keep_last len s ≡ s = keep_last-room len s (omega arith) in
            let one : length (s ++ x ∷ []) - cap ≡ 1 = omega (arith, length-append s (x ∷ [])) in
            ap (λ n. drop n (drop 1 s ++ x ∷ [])) k
            ∙ sym (drop-append-le 1 s (x ∷ []) (omega arith))
            ∙ ap (λ n. drop n (s ++ x ∷ [])) (sym one)
            ∙ ap (λ l. keep_last cap (l ++ x ∷ [])) (sym whole)
      ]

  -- the last items of a list with one more item, from the last items of the list
  pub keep_last-push : (cap : ℕ) (all : List X) (x : X) →
      keep_last cap (keep_last cap all ++ x ∷ []) ≡ keep_last cap (all ++ x ∷ [])
  keep_last-push cap all x = grind (arith, common_steps)

-- a body of the size is a list of bodies of the size
pub one_sized : (x : Checkpoint) (size : ℕ) → length x.body.words ≡ size → AreSized size (x ∷ [])
one_sized x size sized zero d below = sized
one_sized x size sized (suc k) d below = absurd (omega arith)

-- one more slot is there
pub fills_one : (slots : Buffer Checkpoint) (cap size count : ℕ) (x : Checkpoint) → IsFilling slots cap size count →
    count < cap → length x.body.words ≡ size →
    IsFilling (buffer (keep_last slots.capacity (slots.items ++ x ∷ [])) slots.capacity) cap size (count + 1)
fills_one slots cap size count x f more sized =
    let long : length (slots.items ++ x ∷ []) ≡ count + 1 = omega (arith, length-append slots.items (x ∷ []), f.filled) in
    let whole : keep_last slots.capacity (slots.items ++ x ∷ []) ≡ slots.items ++ x ∷ [] =
    keep_last-room slots.capacity (slots.items ++ x ∷ []) (omega (arith, long, f.capacity)) in
    record {
      capacity = f.capacity;
      filled = ap length whole ∙ long;
      sized = subst (λ l. AreSized size l) (sym whole)
          (All-append (λ c. length c.body.words ≡ size) slots.items (x ∷ []) f.sized (one_sized x size sized));
    }

-- one more slot is copied
pub shifts_one : (from before now : Buffer Checkpoint) (count : ℕ) (x : Checkpoint) → IsShifting from before now count →
    length from.items ≡ from.capacity → length before.items ≡ from.capacity → count < length from.items →
    slice_get from.items count ≡ Some x →
    IsShifting from before (buffer (drop 1 now.items ++ x ∷ []) now.capacity) (count + 1)
shifts_one from before now count x s full long more here =
    let there : length (drop count before.items) ≡ from.capacity - count = omega (arith, length-drop count before.items) in
    record {
      capacity = s.capacity;
      full = omega (arith, length-append (drop 1 now.items) (x ∷ []), length-drop 1 now.items, s.full);
      items =
          ap (λ l. drop 1 l ++ x ∷ []) s.items
          ∙ ap (λ l. l ++ x ∷ []) (drop-append-le 1 (drop count before.items) (take count from.items) (omega (arith, there)))
          ∙ ap (λ l. (l ++ take count from.items) ++ x ∷ []) (drop-drop 1 count before.items)
          ∙ append_assoc (drop (count + 1) before.items) (take count from.items) (x ∷ [])
          ∙ ap (λ l. drop (count + 1) before.items ++ l) (sym (
          take_more from.items count x more
          ∙ ap (λ y. take count from.items ++ y ∷ []) (get_or_from_slice_get from.items count x x here)));
    }

-- a checkpoint in the first slot, which becomes the last, is the newest of those in use
pub pushed_view : (slots next : Buffer Checkpoint) (len total words newest : ℕ) (x : Checkpoint) → AreSlots slots len total words →
    next ≡ buffer (drop 1 slots.items ++ x ∷ []) slots.capacity → newest ≡ min (len + 1) slots.capacity →
    kept_checks (keep_last newest next.items) (total + 1) next.capacity words
    ≡ kept_checks (keep_last slots.capacity (keep_last len slots.items ++ x ∷ [])) (total + 1) slots.capacity words
pushed_view slots next len total words newest x s e n =
    ap (λ (b : Buffer Checkpoint). kept_checks (keep_last newest b.items) (total + 1) b.capacity words) e
    ∙ ap (λ l. kept_checks l (total + 1) slots.capacity words) (
    ap (λ k. keep_last k (drop 1 slots.items ++ x ∷ [])) n
    ∙ keep_last-shift len slots.capacity slots.items x s.full s.cap.some s.fit)

-- the last of a list and a checkpoint after it are the last of the list with the checkpoint at its end
pub holds_pushed : (old next : KeptChecks) (x : Checkpoint) →
    next ≡ pushed_check old x →
    (all : List Checkpoint) → HoldsChecks old all → HoldsChecks next (all ++ x ∷ [])
holds_pushed old next x e all h =
    subst (λ k. HoldsChecks k (all ++ x ∷ [])) (sym e) (record {
      items = ap (λ l. keep_last old.cap (l ++ x ∷ [])) h.items ∙ keep_last-push old.cap all x;
      total = omega (arith, length-append all (x ∷ []), h.total);
    })
