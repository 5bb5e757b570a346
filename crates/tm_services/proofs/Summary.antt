-- What stands beside the lists, after a change.
use Rattle.std.proofs.Common.{◌≡◌, ℕ, ◌+◌, ◌*◌, ◌-◌, ◌^◌, ◌%◌, ◌<◌, ◌≤◌, max, fold, map, true, cond, List, [], ◌∷◌, ◌++◌, length, take, replicate, get_or, refl, sym, ◌∙◌, ap, arith, inl, inr, slice_index, slice_set, ◌==◌, bit_or, bit_and, w16}
use Rattle.std.specs.Int.{bit_at, bit_not}
use Rattle.std.specs.List.{All}
use Rattle.std.proofs.lemmas.Bool.{cases_eq, cases_lt, eq-eqb, ne_eqb, lt-ltb}
use Rattle.std.proofs.lemmas.Nat.Bits.{bit_at_set_same, bit_at_set_other, bit_at_clear_same, bit_at_clear_other, bit_at-zero}
use Rattle.std.proofs.lemmas.List.{get_or-set_same, get_or-set_other, map-set, get_or-map, map_push, take_all, get_or-replicate, get_or_past}
use Rattle.std.proofs.lemmas.List.Sums.{sum_by-set, sum_by_more, fold_push}
use Rattle.std.proofs.lemmas.List.Elements.{All-head, All-tail, All-take, All-weaker, All-nil}
use Rattle.tm_services.specs.declared.held.Held.{Held}
use Rattle.tm_services.specs.Ceilings.{CeilingsView, IsCeilings, nothing_held, is_user, ceiling, is_held, held_by, times_in, times_held, get_status, got, release_status, released}
use Rattle.tm_services.specs.declared.status.TheConstants.{E_OK}
use Rattle.tm_services.specs.Held.{resources_of, view_of, AllBelow, IsSummary}
use Rattle.tm_services.proofs.Holding.{IsFree, IsLast, times_in_push, times_in-le, taken_keeps, given_back_keeps}

-- the view with another list of one task
abbrev pub changed : CeilingsView → ℕ → List ℕ → CeilingsView
changed c task list = record c { held = slice_set c.held task list }

pub view_of-set : (priorities users : List ℕ) (resources : ℕ) (held : List Held) (task : ℕ) (list : Held) (xs : List ℕ) →
    resources_of list ≡ xs →
    view_of priorities users resources (slice_set held task list) ≡ changed (view_of priorities users resources held) task xs
view_of-set priorities users resources held task list xs e =
    let P : List (List ℕ) → CeilingsView = λ (ls : List (List ℕ)). record { priorities = priorities; users = users; resources = resources; held = ls } in
    ap P (map-set resources_of held task list ∙ ap (λ (l : List ℕ). slice_set (map resources_of held) task l) e)

pub held_by-view_of : (priorities users : List ℕ) (resources : ℕ) (held : List Held) (task : ℕ) (list : Held) → task < length held →
    held_by (view_of priorities users resources held) task ≡ resources_of (get_or held task list)
held_by-view_of priorities users resources held task list within = get_or-map resources_of held task list [] within

times_held-changed : (c : CeilingsView) (task : ℕ) (list : List ℕ) (r : ℕ) → IsCeilings c → task < 16 →
    times_held (changed c task list) r + times_in r (held_by c task) ≡ times_held c r + times_in r list
times_held-changed c task list r h within =
    sum_by-set (λ (held : List ℕ). times_in r held) c.held task list [] (omega (arith, h.held))

-- the mask of the resources that are held, where one is got
taken_bits : (c : CeilingsView) (task res mask : ℕ) → IsCeilings c → task < 16 → IsFree c task res →
    ((r : ℕ) → r < 16 → (bit_at mask r == 1) ≡ is_held c r) →
    (r : ℕ) → r < 16 →
    (bit_at (bit_or mask (1 * 2 ^ res % 2 ^ 16)) r == 1) ≡ is_held (changed c task (held_by c task ++ res ∷ [])) r
taken_bits c task res mask h within f bits r small = elim (cases_eq res r) [
  | inl e ↦
      let more : ◌≡◌ {A = ℕ} (cond (res == r) 1 0) 1 = rw (eq-eqb res r e) refl in
      let some : 0 < times_held (changed c task (held_by c task ++ res ∷ [])) r =
      omega (arith, times_held-changed c task (held_by c task ++ res ∷ []) r h within, times_in_push r res (held_by c task), more) in
      let set : bit_at (bit_or mask (1 * 2 ^ res % 2 ^ 16)) r ≡ 1 = rw (← e) (bit_at_set_same w16 mask res (omega (arith, f.there, h.few_resources))) in
      rw (set, lt-ltb 0 (times_held (changed c task (held_by c task ++ res ∷ [])) r) some) refl
  | inr ne ↦
      let more : ◌≡◌ {A = ℕ} (cond (res == r) 1 0) 0 = rw (ne_eqb res r ne) refl in
      let same : times_held (changed c task (held_by c task ++ res ∷ [])) r ≡ times_held c r =
      omega (arith, times_held-changed c task (held_by c task ++ res ∷ []) r h within, times_in_push r res (held_by c task), more) in
      let kept : bit_at (bit_or mask (1 * 2 ^ res % 2 ^ 16)) r ≡ bit_at mask r =
      bit_at_set_other w16 mask res (omega (arith, f.there, h.few_resources)) r (λ e. ne (sym e)) in
      rw (kept, same) (bits r small)
]

-- what stands beside the lists, where a resource is got
pub taken_summary : (c : CeilingsView) (tops : List ℕ) (mask : ℕ) (levels : List ℕ) (task res : ℕ) → IsCeilings c →
    IsSummary c tops mask levels → length levels ≡ 16 → task < 16 → IsFree c task res →
    IsSummary (changed c task (held_by c task ++ res ∷ [])) tops (bit_or mask (1 * 2 ^ res % 2 ^ 16))
    (slice_set levels task (max (slice_index levels task) (slice_index tops res)))
taken_summary c tops mask levels task res h s long within f = record {
  ceilings = s.ceilings;
  taken = taken_bits c task res mask h within f s.taken;
  priority = λ t small. elim (cases_eq t task) [
    | inl e ↦ rw (
      e,
      get_or-set_same levels task (max (slice_index levels task) (slice_index tops res)) 0 (omega arith),
      get_or-set_same c.held task (held_by c task ++ res ∷ []) [] (omega (arith, h.held)),
      map_push (ceiling c) (held_by c task) res,
      fold_push max (slice_index c.priorities task) (map (ceiling c) (held_by c task)) (ceiling c res),
      s.priority task within,
      s.ceilings res (omega (arith, f.there, h.few_resources)),
    ) refl
    | inr ne ↦ rw (
      get_or-set_other levels task t (max (slice_index levels task) (slice_index tops res)) 0 ne,
      get_or-set_other c.held task t (held_by c task ++ res ∷ []) [] ne,
    ) (s.priority t small)
  ];
}

-- a list is what stands before its last, and the last
times_in_last : (r : ℕ) (xs : List ℕ) → 0 < length xs →
    times_in r xs ≡ times_in r (take (length xs - 1) xs) + cond (slice_index xs (length xs - 1) == r) 1 0
times_in_last r xs some =
    let all : take (length xs - 1 + 1) xs ≡ xs = take_all (length xs - 1 + 1) xs (omega arith) in
    ap (times_in r) (sym all) ∙ sum_by_more (λ (y : ℕ). cond (y == r) 1 0) xs (length xs - 1) 0 (omega arith)

-- the mask, where the last got is given back
given_bits : (c : CeilingsView) (task res mask : ℕ) → IsCeilings c → task < 16 → IsLast c task res →
    ((r : ℕ) → r < 16 → (bit_at mask r == 1) ≡ is_held c r) →
    (r : ℕ) → r < 16 →
    (bit_at (bit_and mask (bit_not w16 (1 * 2 ^ res % 2 ^ 16))) r == 1) ≡
    is_held (changed c task (take (length (held_by c task) - 1) (held_by c task))) r
given_bits c task res mask h within l bits r small =
    let rest : List ℕ = take (length (held_by c task) - 1) (held_by c task) in
    let last : ℕ = slice_index (held_by c task) (length (held_by c task) - 1) in
    let lost : times_held (changed c task rest) r + times_in r (held_by c task) ≡ times_held c r + times_in r rest = times_held-changed c task rest r h within in
    let parts : times_in r (held_by c task) ≡ times_in r rest + cond (last == r) 1 0 = times_in_last r (held_by c task) l.some in
    let below : res < 16 = omega (arith, l.there, h.few_resources) in
    elim (cases_eq res r) [
      | inl e ↦
          let less : ◌≡◌ {A = ℕ} (cond (last == r) 1 0) 1 = rw (eq-eqb last r (l.last ∙ e)) refl in
          let none : times_held (changed c task rest) r ≡ 0 = omega (arith, h.once r, times_in-le c h task r) in
          let clear : bit_at (bit_and mask (bit_not w16 (1 * 2 ^ res % 2 ^ 16))) r ≡ 0 = rw (← e) (bit_at_clear_same w16 mask res below) in
          rw (clear, none) refl
      | inr ne ↦
          let less : ◌≡◌ {A = ℕ} (cond (last == r) 1 0) 0 = rw (ne_eqb last r (λ e. ne (sym l.last ∙ e))) refl in
          let same : times_held (changed c task rest) r ≡ times_held c r = omega arith in
          let kept : bit_at (bit_and mask (bit_not w16 (1 * 2 ^ res % 2 ^ 16))) r ≡ bit_at mask r =
          bit_at_clear_other w16 mask res below r small (λ e. ne (sym e)) in
          rw (kept, same) (bits r small)
    ]

-- two functions that agree on a list's elements
pub map_agree : (f g : ℕ → ℕ) (xs : List ℕ) → All (λ x. f x ≡ g x) xs → map f xs ≡ map g xs
map_agree f g [] a = refl
map_agree f g (x ∷ xs) a =
    let head : f x ≡ g x = All-head (λ (y : ℕ). f y ≡ g y) x xs a in
    let tail : map f xs ≡ map g xs = map_agree f g xs (All-tail (λ (y : ℕ). f y ≡ g y) x xs a) in
    rw (head, tail) refl

-- what stands beside the lists, where the last got is given back
pub given_summary : (c : CeilingsView) (tops : List ℕ) (mask : ℕ) (levels : List ℕ) (task res level : ℕ) → IsCeilings c →
    IsSummary c tops mask levels → length levels ≡ 16 → task < 16 → IsLast c task res →
    level ≡ fold max (slice_index c.priorities task) (map (slice_index tops) (take (length (held_by c task) - 1) (held_by c task))) →
    IsSummary (changed c task (take (length (held_by c task) - 1) (held_by c task))) tops
    (bit_and mask (bit_not w16 (1 * 2 ^ res % 2 ^ 16))) (slice_set levels task level)
given_summary c tops mask levels task res level h s long within l is = record {
  ceilings = s.ceilings;
  taken = given_bits c task res mask h within l s.taken;
  priority = λ t small. elim (cases_eq t task) [
    | inl e ↦
        let rest : List ℕ = take (length (held_by c task) - 1) (held_by c task) in
        let agree : All (λ x. slice_index tops x ≡ ceiling c x) rest =
        All-weaker (λ x. x < c.resources) (λ x. slice_index tops x ≡ ceiling c x)
        (λ x below. s.ceilings x (omega (arith, h.few_resources))) rest
        (All-take (λ x. x < c.resources) (length (held_by c task) - 1) (held_by c task) (h.there task)) in
        rw (
          e,
          get_or-set_same levels task level 0 (omega arith),
          get_or-set_same c.held task rest [] (omega (arith, h.held)),
          is,
          map_agree (slice_index tops) (ceiling c) rest agree,
        ) refl
    | inr ne ↦ rw (
      get_or-set_other levels task t level 0 ne,
      get_or-set_other c.held task t (take (length (held_by c task) - 1) (held_by c task)) [] ne,
    ) (s.priority t small)
  ];
}

-- what the fields keep
abbrev pub Keeps : CeilingsView → List ℕ → ℕ → List ℕ → Type 0
Keeps c tops mask levels = IsCeilings c × IsSummary c tops mask levels

-- the fields after GetResource
pub taken_fields : (priorities users : List ℕ) (resources : ℕ) (held : List Held) (tops : List ℕ) (mask : ℕ) (levels : List ℕ)
    (task res : ℕ) (before list : Held) →
    Keeps (view_of priorities users resources held) tops mask levels → length levels ≡ 16 → task < 16 → task < length held →
    IsFree (view_of priorities users resources held) task res →
    resources_of list ≡ resources_of (get_or held task before) ++ res ∷ [] →
    Keeps (view_of priorities users resources (slice_set held task list)) tops (bit_or mask (1 * 2 ^ res % 2 ^ 16))
    (slice_set levels task (max (slice_index levels task) (slice_index tops res)))
taken_fields priorities users resources held tops mask levels task res before list k long within there f e =
    let c : CeilingsView = view_of priorities users resources held in
    let pushed : resources_of list ≡ held_by c task ++ res ∷ [] =
    e ∙ ap (λ (xs : List ℕ). xs ++ res ∷ []) (sym (held_by-view_of priorities users resources held task before there)) in
    rw (view_of-set priorities users resources held task list (held_by c task ++ res ∷ []) pushed)
    (taken_keeps c task res k.0 within f, taken_summary c tops mask levels task res k.0 k.1 long within f)

-- and after ReleaseResource
pub given_fields : (priorities users : List ℕ) (resources : ℕ) (held : List Held) (tops : List ℕ) (mask : ℕ) (levels : List ℕ)
    (task res level : ℕ) (before list : Held) →
    Keeps (view_of priorities users resources held) tops mask levels → length levels ≡ 16 → task < 16 → task < length held →
    IsLast (view_of priorities users resources held) task res →
    resources_of list ≡ take (length (resources_of (get_or held task before)) - 1) (resources_of (get_or held task before)) →
    level ≡ fold max (slice_index priorities task) (map (slice_index tops) (resources_of list)) →
    Keeps (view_of priorities users resources (slice_set held task list)) tops (bit_and mask (bit_not w16 (1 * 2 ^ res % 2 ^ 16)))
    (slice_set levels task level)
given_fields priorities users resources held tops mask levels task res level before list k long within there l e is =
    let c : CeilingsView = view_of priorities users resources held in
    let popped : resources_of list ≡ take (length (held_by c task) - 1) (held_by c task) =
    e ∙ ap (λ (xs : List ℕ). take (length xs - 1) xs) (sym (held_by-view_of priorities users resources held task before there)) in
    rw (view_of-set priorities users resources held task list (take (length (held_by c task) - 1) (held_by c task)) popped) (
      given_back_keeps c task (length (held_by c task) - 1) k.0 within,
      given_summary c tops mask levels task res level k.0 k.1 long within l (rw popped at is),
    )

-- the view after GetResource
pub got_fields : (priorities users : List ℕ) (resources : ℕ) (held : List Held) (task res : ℕ) (before list : Held) →
    task < length held →
    get_status (view_of priorities users resources held) task res ≡ E_OK →
    resources_of list ≡ resources_of (get_or held task before) ++ res ∷ [] →
    view_of priorities users resources (slice_set held task list) ≡ got (view_of priorities users resources held) task res
got_fields priorities users resources held task res before list there s e =
    let c : CeilingsView = view_of priorities users resources held in
    let pushed : resources_of list ≡ held_by c task ++ res ∷ [] =
    e ∙ ap (λ (xs : List ℕ). xs ++ res ∷ []) (sym (held_by-view_of priorities users resources held task before there)) in
    let is : got c task res ≡ changed c task (held_by c task ++ res ∷ []) = rw (eq-eqb (get_status c task res) E_OK s) refl in
    view_of-set priorities users resources held task list (held_by c task ++ res ∷ []) pushed ∙ sym is

-- and after ReleaseResource
pub released_fields : (priorities users : List ℕ) (resources : ℕ) (held : List Held) (task res : ℕ) (before list : Held) →
    task < length held →
    release_status (view_of priorities users resources held) task res ≡ E_OK →
    resources_of list ≡ take (length (resources_of (get_or held task before)) - 1) (resources_of (get_or held task before)) →
    view_of priorities users resources (slice_set held task list) ≡ released (view_of priorities users resources held) task res
released_fields priorities users resources held task res before list there s e =
    let c : CeilingsView = view_of priorities users resources held in
    let popped : resources_of list ≡ take (length (held_by c task) - 1) (held_by c task) =
    e ∙ ap (λ (xs : List ℕ). take (length xs - 1) xs) (sym (held_by-view_of priorities users resources held task before there)) in
    let is : released c task res ≡ changed c task (take (length (held_by c task) - 1) (held_by c task)) =
    rw (eq-eqb (release_status c task res) E_OK s) refl in
    view_of-set priorities users resources held task list (take (length (held_by c task) - 1) (held_by c task)) popped ∙ sym is

-- the fields where nobody holds a resource
pub empty_fields : (priorities users tops : List ℕ) (resources : ℕ) → AllBelow 256 priorities 16 → AllBelow 65536 users 16 →
    resources ≤ 16 →
    ((res : ℕ) → res < 16 → slice_index tops res ≡ ceiling (nothing_held priorities users resources) res) →
    Keeps (nothing_held priorities users resources) tops 0 priorities
empty_fields priorities users tops resources p u few ceilings =
    let none : (t : ℕ) → t < 16 → held_by (nothing_held priorities users resources) t ≡ [] =
    λ t small. get_or-replicate 16 t [] [] small in
    let none_past : (t : ℕ) → 16 ≤ t → held_by (nothing_held priorities users resources) t ≡ [] =
    λ t past. get_or_past (replicate 16 []) t [] past in
    let nothing : (P : ℕ → Type 0) (t : ℕ) → All P (held_by (nothing_held priorities users resources) t) =
    λ P t. elim (cases_lt t 16) [
      | inl small ↦ rw (none t small) (All-nil P)
      | inr past ↦ rw (none_past t past) (All-nil P)
    ] in (
      record {
        priorities = p.number;
        small_priorities = p.below;
        users = u.number;
        small_masks = u.below;
        few_resources = few;
        held = refl;
        there = λ t. nothing (λ res. res < resources) t;
        declared = λ t. nothing (λ res. is_user (slice_index users res) t ≡ true) t;
        once = λ r. omega arith;
      },
      record {
        ceilings = ceilings;
        taken = λ r small. rw (bit_at-zero r) refl;
        priority = λ t small. rw (none t small) refl;
      },
    )
