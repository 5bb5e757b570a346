-- The replays of some tasks are those of two halves of them, one after the other.
use Rattle.std.proofs.Common.{◌≡◌, ℕ, zero, suc, ◌+◌, ◌-◌, ◌<◌, ◌≤◌, List, [], ◌∷◌, ◌++◌, length, refl, ap, ap₂, sym, ◌∙◌, subst, arith, append_assoc}
use Rattle.std.specs.Prelude.{Result, Ok, Err}
use Rattle.std.proofs.lemmas.List.{append-nil}
use Rattle.tm_image.specs.Image.{ImageView}
use Rattle.tm_log.specs.Window.{WindowView}
use Rattle.tm_system.specs.declared.diverged.Diverged.{Diverged}
use Rattle.tm_system.specs.Tracing.{Tracing}
use Rattle.tm_system.specs.Replaying.{all_below, one_more, replayed_task, replayed_tasks}
use Rattle.tm_system.proofs.Meeting.{all_none, all_more}
use Rattle.tm_text.specs.declared.seen.Track.{Track}
use Rattle.tm_replay.specs.declared.fault.ReplayFault.{ReplayFault}
use Rattle.tm_replay.specs.Meeting.{IsTold, Tells}
use Rattle.tm_replay.specs.Answers.{AreTold, TellsAll}
use Rattle.tm_replay.proofs.Wholes.{told_none, told_more, tells_error}
use Rattle.tm_workers.specs.declared.share.Share.{Share}
use Rattle.tm_workers.specs.Shares.{AreHalves, replayed_share, in_order}

-- one more of the second half is one more of both
order_more : {X E : Type 0} (a b : Result (List X) E) (x : Result X E) → one_more (in_order a b) x ≡ in_order a (one_more b x)
order_more (Ok xs) (Ok ys) (Ok x) = ap Ok (append_assoc xs ys (x ∷ []))
order_more (Ok xs) (Ok ys) (Err e) = refl
order_more (Ok xs) (Err e) x = refl
order_more (Err e) b x = refl

order_none : {X E : Type 0} (a : Result (List X) E) → a ≡ in_order a (Ok [])
order_none (Ok xs) = ap Ok (sym (append-nil xs))
order_none (Err e) = refl

-- the numbers below n and m more, the second half counted from 0
pub all_halves : {X E : Type 0} (n m : ℕ) (f g : ℕ → Result X E) → ((k : ℕ) → f (n + k) ≡ g k) →
    all_below (n + m) f ≡ in_order (all_below n f) (all_below m g)
all_halves n zero f g same =
    ap (λ k. all_below k f) (let e : n + 0 ≡ n = omega arith in e) ∙ order_none (all_below n f) ∙ ap (in_order (all_below n f)) (sym (all_none g))
all_halves n (suc m) f g same =
    ap (λ k. all_below k f) (let e : n + suc m ≡ n + m + 1 = omega arith in e) ∙ all_more (n + m) f
    ∙ ap₂ one_more (all_halves n m f g same) (same m)
    ∙ order_more (all_below n f) (all_below m g) (g m)
    ∙ ap (in_order (all_below n f)) (sym (all_more m g) ∙ ap (λ k. all_below k g) (let e : m + 1 ≡ suc m = omega arith in e))

-- what is the same of every number is the same of all below one
all_same : {X E : Type 0} (n : ℕ) (f g : ℕ → Result X E) → ((k : ℕ) → f k ≡ g k) → all_below n f ≡ all_below n g
all_same zero f g same = all_none f ∙ sym (all_none g)
all_same (suc n) f g same =
    let next : suc n ≡ n + 1 = omega arith in
    ap (λ k. all_below k f) next ∙ all_more n f ∙ ap₂ one_more (all_same n f g same) (same n)
    ∙ sym (ap (λ k. all_below k g) next ∙ all_more n g)

-- a share of all tasks has all
whole_share : {X E : Type 0} (n end : ℕ) (f : ℕ → Result X E) → end ≡ n → all_below (end - 0) (λ k. f (0 + k)) ≡ all_below n f
whole_share n end f is =
    ap (λ k. all_below k (λ k. f (0 + k))) (let e : end - 0 ≡ n = omega (arith, is) in e)
    ∙ all_same n (λ k. f (0 + k)) f (λ k. ap f (let e : 0 + k ≡ k = omega arith in e))

pub whole_told : (image : ImageView) (w : WindowView) (p end workers : ℕ) (told : Result (List Track) ReplayFault) → end ≡ length w.shape.words →
    TellsAll (replayed_share image w p (record { start = 0; end = end; workers = workers })) told → TellsAll (replayed_tasks image w p) told
whole_told image w p end workers told is one =
    subst (λ all. TellsAll all told) (whole_share (length w.shape.words) end (replayed_task image w p) is) one

-- a share's tasks are those of its halves
pub share_halves : {X E : Type 0} (whole low high : Share) (f : ℕ → Result X E) → whole.start ≤ whole.end → AreHalves whole (low, high) →
    in_order (all_below (low.end - low.start) (λ k. f (low.start + k))) (all_below (high.end - high.start) (λ k. f (high.start + k)))
    ≡ all_below (whole.end - whole.start) (λ k. f (whole.start + k))
share_halves whole low high f rising halves =
    let count : whole.end - whole.start ≡ (low.end - low.start) + (high.end - high.start) =
    omega (arith, rising, halves.first, halves.middle, halves.next, halves.last) in
    let place : (k : ℕ) → whole.start + (low.end - low.start + k) ≡ high.start + k =
    λ k. omega (arith, rising, halves.first, halves.middle, halves.next) in
    sym (
    ap (λ n. all_below n (λ k. f (whole.start + k))) count
    ∙ all_halves (low.end - low.start) (high.end - high.start) (λ k. f (whole.start + k)) (λ k. f (high.start + k)) (λ k. ap f (place k))
    ∙ ap (λ s. in_order (all_below (low.end - low.start) (λ k. f (s + k))) (all_below (high.end - high.start) (λ k. f (high.start + k))))
    (sym halves.first)
    )

-- no task yet, and one more, of those from a number on
pub between_none : (start : ℕ) (f : ℕ → Result Tracing Diverged) → AreTold (all_below (start - start) (λ k. f (start + k))) []
between_none start f =
    let none : 0 ≡ start - start = omega arith in
    subst (λ n. AreTold (all_below n (λ k. f (start + k))) []) none (told_none (λ k. f (start + k)))

pub between_more : (start task : ℕ) (f : ℕ → Result Tracing Diverged) (tracks more : List Track) (track : Track) → start ≤ task →
    AreTold (all_below (task - start) (λ k. f (start + k))) tracks → IsTold (f task) track → more ≡ tracks ++ track ∷ [] →
    AreTold (all_below (task + 1 - start) (λ k. f (start + k))) more
between_more start task f tracks more track from all one is =
    let here : task ≡ start + (task - start) = omega arith in
    let next : task - start + 1 ≡ task + 1 - start = omega arith in
    subst (λ n. AreTold (all_below n (λ k. f (start + k))) more) next
    (told_more (task - start) (λ k. f (start + k)) tracks more track all (subst (λ n. IsTold (f n) track) here one) is)

-- the first of them that diverges is the answer
pub between_error : (start task end : ℕ) (f : ℕ → Result Tracing Diverged) (tracks : List Track) (fault : ReplayFault) → start ≤ task → task < end →
    AreTold (all_below (task - start) (λ k. f (start + k))) tracks → Tells (f task) (Err fault) →
    TellsAll (all_below (end - start) (λ k. f (start + k))) (Err fault)
between_error start task end f tracks fault from within all one =
    let here : task ≡ start + (task - start) = omega arith in
    tells_error (task - start) (end - start) (λ k. f (start + k)) tracks fault all (omega arith) (subst (λ n. Tells (f n) (Err fault)) here one)
