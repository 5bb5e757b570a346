-- The tasks that a mask names: their mask is the mask.
use Rattle.std.proofs.Common.{◌≡◌, ℕ, zero, suc, ◌+◌, ◌-◌, ◌*◌, ◌/◌, ◌%◌, ◌^◌, ◌<◌, ◌≤◌, Bool, true, false, ◌||◌, List, [], ◌∷◌, ◌==◌, length, filter, fold, map, flat_map, decimal, ◌++◌, ◌≢◌, bit_and, bit_or, cond, nat_le, eqb, refl, ap, sym, ◌∙◌, subst, append-nil, append_assoc, All, arith, tests}
use Rattle.std.specs.List.{range_with_len, list_any}
use Rattle.std.specs.Int.{bit_at}
use Rattle.std.proofs.lemmas.Bool.{eqb-true, eq-eqb, ne_eqb}
use Rattle.std.proofs.lemmas.Nat.{mod-pow-add, or_shifted, or_comm, mod_below, pow_pos}
use Rattle.std.proofs.lemmas.Nat.Bits.{bit_at-lt, bit_at_above, shr_and_one}
use Rattle.std.proofs.lemmas.List.Elements.{All-nil, All-cons, All-weaker}
use Rattle.tm_image.specs.Draft.{has_twice, mask_of}
use Rattle.tm_image_text.specs.Lines.{spaced, users_of}

-- those among so many tasks, from a task on
unfoldable pub users_from : ℕ → ℕ → ℕ → List ℕ
users_from mask task count = filter (λ task. bit_at mask task == 1) (range_with_len task count)

pub users_all : (mask : ℕ) → users_from mask 0 16 ≡ users_of mask
unfolding users_from users_of
users_all mask = refl

users_none : (mask task : ℕ) → users_from mask task 0 ≡ []
unfolding users_from
users_none mask task = refl

users_more : (mask task count : ℕ) →
    users_from mask task (suc count) ≡ cond (bit_at mask task == 1) (task ∷ users_from mask (task + 1) count) (users_from mask (task + 1) count)
unfolding users_from
users_more mask task count = refl

-- a fact of lists that a task at the front keeps, and a task left out too
by_task : (P : ℕ → List ℕ → Type 0) (mask task count : ℕ) →
    (bit_at mask task ≡ 1 → P (task + 1) (users_from mask (task + 1) count) → P task (task ∷ users_from mask (task + 1) count)) →
    (bit_at mask task ≡ 0 → P (task + 1) (users_from mask (task + 1) count) → P task (users_from mask (task + 1) count)) →
    P (task + 1) (users_from mask (task + 1) count) → P task (users_from mask task (suc count))
by_task P mask task count in' out rest = rw (users_more mask task count) (go (bit_at mask task == 1) refl)
  where
    go : (is : Bool) → (bit_at mask task == 1) ≡ is → P task (cond is (task ∷ users_from mask (task + 1) count) (users_from mask (task + 1) count))
    go true e = in' (eqb-true _ _ e) rest
    go false e = out (grind (arith, tests, e, bit_at-lt mask task)) rest

-- the mask of the tasks below a task, with the bit of that task
with_bit : (mask k : ℕ) → bit_at mask k ≡ 1 → bit_or (mask % 2 ^ k) (2 ^ k) ≡ mask % 2 ^ (k + 1)
with_bit mask k e =
    let low : mask % 2 ^ k < 2 ^ k = mod_below mask (2 ^ k) (pow_pos k) in
    or_comm (mask % 2 ^ k) (2 ^ k)
    ∙ ap (λ (x : ℕ). bit_or x (mask % 2 ^ k)) (omega arith)
    ∙ or_shifted 1 k (mask % 2 ^ k) low
    ∙ ap (λ (x : ℕ). x * 2 ^ k + mask % 2 ^ k) (sym e)
    ∙ sym (mod-pow-add mask 1 k)
    ∙ ap (λ (x : ℕ). mask % 2 ^ x) (omega arith)

without_bit : (mask k : ℕ) → bit_at mask k ≡ 0 → mask % 2 ^ k ≡ mask % 2 ^ (k + 1)
without_bit mask k e =
    let none : mask % 2 ^ k ≡ 0 * 2 ^ k + mask % 2 ^ k = omega arith in
    none
    ∙ ap (λ (x : ℕ). x * 2 ^ k + mask % 2 ^ k) (sym e)
    ∙ sym (mod-pow-add mask 1 k)
    ∙ ap (λ (x : ℕ). mask % 2 ^ x) (omega arith)

folded : (mask count first : ℕ) → fold (λ m u. bit_or m (2 ^ u)) (mask % 2 ^ first) (users_from mask first count) ≡ mask % 2 ^ (first + count)
folded mask zero first = rw (users_none mask first) (ap (λ (x : ℕ). mask % 2 ^ x) (omega arith))
folded mask (suc count) first =
    by_task (λ task users. fold (λ m u. bit_or m (2 ^ u)) (mask % 2 ^ task) users ≡ mask % 2 ^ (first + suc count)) mask first count
    (λ is rest. subst (λ (x : ℕ). fold (λ m u. bit_or m (2 ^ u)) x (users_from mask (first + 1) count) ≡ mask % 2 ^ (first + suc count)) (sym (with_bit mask first is)) rest)
    (λ is rest. subst (λ (x : ℕ). fold (λ m u. bit_or m (2 ^ u)) x (users_from mask (first + 1) count) ≡ mask % 2 ^ (first + suc count)) (sym (without_bit mask first is)) rest)
    (folded mask count (first + 1) ∙ ap (λ (x : ℕ). mask % 2 ^ x) (omega arith))

pub mask_back : (mask : ℕ) → mask < 2 ^ 16 → mask_of (users_of mask) ≡ mask
mask_back mask small = ap mask_of (sym (users_all mask)) ∙ ap (λ (x : ℕ). fold (λ m u. bit_or m (2 ^ u)) x (users_from mask 0 16)) (omega arith) ∙ folded mask 16 0 ∙ omega arith

-- some task is named
some_in : (users : List ℕ) (mask : ℕ) → mask_of users ≡ mask → 0 < mask → 0 < length users
some_in [] mask e some = let same : 0 ≡ mask = e in absurd (omega arith)
some_in (user ∷ users) mask e some = omega arith

pub some_user : (mask : ℕ) → mask < 2 ^ 16 → 0 < mask → 0 < length (users_of mask)
some_user mask small some = some_in (users_of mask) mask (mask_back mask small) some

-- each is one of the tasks
below : (mask count first : ℕ) → All (λ user. user < first + count) (users_from mask first count)
below mask zero first = rw (users_none mask first) (All-nil (λ user. user < first + 0))
below mask (suc count) first =
    by_task (λ task users. All (λ user. user < first + suc count) users) mask first count
    (λ is rest. All-cons (λ user. user < first + suc count) first (users_from mask (first + 1) count) (omega arith) rest)
    (λ is rest. rest)
    (All-weaker (λ user. user < first + 1 + count) (λ user. user < first + suc count) (λ user h. omega (arith, h)) (users_from mask (first + 1) count) (below mask count (first + 1)))

pub users_small : (mask : ℕ) → All (λ user. user < 16) (users_of mask)
users_small mask = rw (← users_all mask) (below mask 16 0)

none_over_from : (tasks mask : ℕ) → mask < 2 ^ tasks → (count first : ℕ) → list_any (λ user. nat_le tasks user) (users_from mask first count) ≡ false
none_over_from tasks mask small zero first = rw (users_none mask first) refl
none_over_from tasks mask small (suc count) first =
    by_task (λ task users. list_any (λ user. nat_le tasks user) users ≡ false) mask first count
    (λ is rest. here (nat_le tasks first) refl is rest)
    (λ is rest. rest)
    (none_over_from tasks mask small count (first + 1))
  where
    here : (over : Bool) → nat_le tasks first ≡ over → bit_at mask first ≡ 1 → list_any (λ user. nat_le tasks user) (users_from mask (first + 1) count) ≡ false →
        (over || list_any (λ user. nat_le tasks user) (users_from mask (first + 1) count)) ≡ false
    here true e is rest =
        let past : tasks ≤ first = grind (arith, tests, e) in
        absurd (omega (arith, is, bit_at_above mask tasks first small past))
    here false e is rest = rest

pub none_over : (tasks mask : ℕ) → mask < 2 ^ tasks → list_any (λ user. nat_le tasks user) (users_of mask) ≡ false
none_over tasks mask small = rw (← users_all mask) (none_over_from tasks mask small 16 0)

-- none stands twice
not_before : (mask count first user : ℕ) → user < first → list_any (λ y. y == user) (users_from mask first count) ≡ false
not_before mask zero first user h = rw (users_none mask first) refl
not_before mask (suc count) first user h =
    by_task (λ task users. list_any (λ y. y == user) users ≡ false) mask first count
    (λ is rest. other (first == user) (grind (arith, tests)) rest)
    (λ is rest. rest)
    (not_before mask count (first + 1) user (omega arith))
  where
    other : (same : Bool) → same ≡ false → list_any (λ y. y == user) (users_from mask (first + 1) count) ≡ false →
        (same || list_any (λ y. y == user) (users_from mask (first + 1) count)) ≡ false
    other true no' rest = cc no'
    other false no' rest = rest

once : (mask count first : ℕ) → has_twice (users_from mask first count) ≡ false
once mask zero first = rw (users_none mask first) refl
once mask (suc count) first =
    by_task (λ task users. has_twice users ≡ false) mask first count
    (λ is rest. rw (not_before mask count (first + 1) first (omega arith)) rest)
    (λ is rest. rest)
    (once mask count (first + 1))

pub users_once : (mask : ℕ) → has_twice (users_of mask) ≡ false
users_once mask = rw (← users_all mask) (once mask 16 0)

-- ---- the tokens of the users, one after another
-- after the last
pub users_end : (mask task : ℕ) (text whole : List ℕ) → 16 ≤ task → text ++ flat_map spaced (map decimal (users_from mask task (16 - task))) ≡ whole → text ≡ whole
users_end mask task text whole past all =
    let none : 16 - task ≡ 0 = omega arith in
    sym (append-nil text)
    ∙ ap (λ users. text ++ flat_map spaced (map decimal users)) (sym (users_none mask task))
    ∙ ap (λ (n : ℕ). text ++ flat_map spaced (map decimal (users_from mask task n))) (sym none)
    ∙ all

-- the next is written
pub user_more : (mask task : ℕ) (text new whole : List ℕ) → task < 16 → bit_and (mask / 2 ^ task) 1 ≡ 1 → new ≡ text ++ spaced (decimal task) →
    text ++ flat_map spaced (map decimal (users_from mask task (16 - task))) ≡ whole →
    new ++ flat_map spaced (map decimal (users_from mask (task + 1) (16 - (task + 1)))) ≡ whole
user_more mask task text new whole there is wrote all =
    let left : 16 - task ≡ suc (16 - (task + 1)) = omega arith in
    let rest = users_from mask (task + 1) (16 - (task + 1)) in
    let bit : (bit_at mask task == 1) ≡ true = eq-eqb _ _ (sym (shr_and_one mask task) ∙ is) in
    ap (λ x. x ++ flat_map spaced (map decimal rest)) wrote
    ∙ append_assoc text (spaced (decimal task)) (flat_map spaced (map decimal rest))
    ∙ ap (λ (b : Bool). text ++ flat_map spaced (map decimal (cond b (task ∷ rest) rest))) (sym bit)
    ∙ ap (λ users. text ++ flat_map spaced (map decimal users)) (sym (users_more mask task (16 - (task + 1))))
    ∙ ap (λ (n : ℕ). text ++ flat_map spaced (map decimal (users_from mask task n))) (sym left)
    ∙ all

-- a task that is no user is passed over
pub user_none : (mask task : ℕ) (text whole : List ℕ) → task < 16 → bit_and (mask / 2 ^ task) 1 ≢ 1 →
    text ++ flat_map spaced (map decimal (users_from mask task (16 - task))) ≡ whole →
    text ++ flat_map spaced (map decimal (users_from mask (task + 1) (16 - (task + 1)))) ≡ whole
user_none mask task text whole there is all =
    let left : 16 - task ≡ suc (16 - (task + 1)) = omega arith in
    let rest = users_from mask (task + 1) (16 - (task + 1)) in
    let bit : (bit_at mask task == 1) ≡ false = ne_eqb _ _ (λ e. is (shr_and_one mask task ∙ e)) in
    ap (λ (b : Bool). text ++ flat_map spaced (map decimal (cond b (task ∷ rest) rest))) (sym bit)
    ∙ ap (λ users. text ++ flat_map spaced (map decimal users)) (sym (users_more mask task (16 - (task + 1))))
    ∙ ap (λ (n : ℕ). text ++ flat_map spaced (map decimal (users_from mask task n))) (sym left)
    ∙ all
