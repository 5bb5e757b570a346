-- A resource that is got, and one that is released.
use Rattle.std.proofs.Common.{◌≡◌, ℕ, ◌+◌, ◌-◌, ◌<◌, ◌≤◌, Bool, true, false, cond, not, List, [], ◌∷◌, ◌++◌, length, take, get_or, refl, ◌∙◌, arith, inl, inr, slice_index, slice_set, if◌then◌else◌, ◌==◌, nat_lt, length-set}
use Rattle.std.specs.List.{All}
use Rattle.std.proofs.lemmas.Bool.{cases_eq, cases_lt, eq-eqb, ne_eqb, ltb-true, ltb-false, eqb-true, and_parts}
use Rattle.std.proofs.lemmas.List.{get_or-set_same, get_or-set_other, get_or_past}
use Rattle.std.proofs.lemmas.List.Sums.{sum_by_push, sum_by-set, get_or-le-sum_by, sum_by-take-le}
use Rattle.std.proofs.lemmas.List.Elements.{All-push, All-take}
use Rattle.tm_services.specs.declared.status.TheConstants.{E_OK, E_OS_ACCESS, E_OS_ID, E_OS_NOFUNC}
use Rattle.tm_services.specs.Ceilings.{CeilingsView, IsCeilings, is_user, is_last, is_held, held_by, times_in, times_held, get_status, release_status}
use Rattle.tm_services.proofs.Counting.{short_where_missing}

-- the resource may be got
pub record IsFree (c : CeilingsView) (task res : ℕ) : Type 0 where
  pub there : res < c.resources
  pub user : is_user (slice_index c.users res) task ≡ true
  pub free : times_held c res ≡ 0

pub free_from_status : (c : CeilingsView) (task res : ℕ) → get_status c task res ≡ E_OK → IsFree c task res
free_from_status c task res =
    go (nat_lt res c.resources) (is_user (slice_index c.users res) task) (is_held c res) refl refl refl
  where
    go : (there user held : Bool) → nat_lt res c.resources ≡ there → is_user (slice_index c.users res) task ≡ user →
        is_held c res ≡ held →
        (if not there then E_OS_ID else if not user then E_OS_ACCESS else if held then E_OS_ACCESS else E_OK) ≡ E_OK → IsFree c task res
    go false user held a b h s = absurd (omega arith)
    go true false held a b h s = absurd (omega arith)
    go true true true a b h s = absurd (omega arith)
    go true true false a b h s =
        record { there = ltb-true res c.resources a; user = b; free = omega (arith, ltb-false 0 (times_held c res) h) }

-- the resource is the task's last got
pub record IsLast (c : CeilingsView) (task res : ℕ) : Type 0 where
  pub there : res < c.resources
  pub some : 0 < length (held_by c task)
  pub last : slice_index (held_by c task) (length (held_by c task) - 1) ≡ res

pub last_from_status : (c : CeilingsView) (task res : ℕ) → release_status c task res ≡ E_OK → IsLast c task res
last_from_status c task res = go (nat_lt res c.resources) (is_last res (held_by c task)) refl refl
  where
    go : (there last : Bool) → nat_lt res c.resources ≡ there → is_last res (held_by c task) ≡ last →
        (if not there then E_OS_ID else if not last then E_OS_NOFUNC else E_OK) ≡ E_OK → IsLast c task res
    go false last a b s = absurd (omega arith)
    go true false a b s = absurd (omega arith)
    go true true a b s =
        let parts = and_parts (nat_lt 0 (length (held_by c task))) (slice_index (held_by c task) (length (held_by c task) - 1) == res) b in
        record {
          there = ltb-true res c.resources a;
          some = ltb-true 0 (length (held_by c task)) parts.0;
          last = eqb-true _ res parts.1;
        }

-- a task holds a resource at most as often as all tasks together
pub times_in-le : (c : CeilingsView) → IsCeilings c → (task r : ℕ) → times_in r (held_by c task) ≤ times_held c r
times_in-le c h task r = elim (cases_lt task (length c.held)) [
  | inl within ↦ get_or-le-sum_by (λ (held : List ℕ). times_in r held) c.held task [] within
  | inr past ↦ rw (get_or_past c.held task [] past) (omega arith)
]

-- there is room for a resource that may be got
pub room_where_free : (c : CeilingsView) (task res : ℕ) → IsCeilings c → IsFree c task res → length (held_by c task) < 16
room_where_free c task res h f =
    let shorter : length (held_by c task) < c.resources =
    short_where_missing c.resources res (held_by c task) (h.there task)
    (λ r. omega (arith, times_in-le c h task r, h.once r))
    (omega (arith, times_in-le c h task res, f.free)) f.there in
    omega (arith, h.few_resources)

-- what a change of one task's list keeps, where the new list is of declared resources that there
-- are, and no resource is held twice then
changed_keeps : (c : CeilingsView) (task : ℕ) (list : List ℕ) → IsCeilings c → task < 16 →
    All (λ res. res < c.resources) list → All (λ res. is_user (slice_index c.users res) task ≡ true) list →
    ((r : ℕ) → times_held c r + times_in r list ≤ times_in r (held_by c task) + 1) →
    IsCeilings (record c { held = slice_set c.held task list })
changed_keeps c task list h within there declared once = record {
  priorities = h.priorities;
  small_priorities = h.small_priorities;
  users = h.users;
  small_masks = h.small_masks;
  few_resources = h.few_resources;
  held = length-set c.held task list ∙ h.held;
  there = λ t. elim (cases_eq t task) [
    | inl e ↦ rw (e, same) there
    | inr ne ↦ rw (get_or-set_other c.held task t list [] ne) (h.there t)
  ];
  declared = λ t. elim (cases_eq t task) [
    | inl e ↦ rw (e, same) declared
    | inr ne ↦ rw (get_or-set_other c.held task t list [] ne) (h.declared t)
  ];
  once = λ r. omega (arith, once r, sum_by-set (λ (held : List ℕ). times_in r held) c.held task list [] (omega (arith, h.held)));
}
  where
    same : get_or (slice_set c.held task list) task [] ≡ list
    same = get_or-set_same c.held task list [] (omega (arith, h.held))

-- the list with a resource at its end
pub times_in_push : (r res : ℕ) (xs : List ℕ) → times_in r (xs ++ res ∷ []) ≡ times_in r xs + cond (res == r) 1 0
times_in_push r res xs = sum_by_push (λ (y : ℕ). cond (y == r) 1 0) xs res

one_more : (c : CeilingsView) (task res r : ℕ) → IsCeilings c → IsFree c task res →
    times_held c r + times_in r (held_by c task ++ res ∷ []) ≤ times_in r (held_by c task) + 1
one_more c task res r h f = elim (cases_eq res r) [
  | inl e ↦
      let at_one : ◌≡◌ {A = ℕ} (cond (res == r) 1 0) 1 = rw (eq-eqb res r e) refl in
      omega (arith, times_in_push r res (held_by c task), at_one, rw e at f.free)
  | inr ne ↦
      let at_none : ◌≡◌ {A = ℕ} (cond (res == r) 1 0) 0 = rw (ne_eqb res r ne) refl in
      omega (arith, times_in_push r res (held_by c task), at_none, h.once r)
]

-- what always holds, after GetResource of a resource that may be got
pub taken_keeps : (c : CeilingsView) (task res : ℕ) → IsCeilings c → task < 16 → IsFree c task res →
    IsCeilings (record c { held = slice_set c.held task (held_by c task ++ res ∷ []) })
taken_keeps c task res h within f =
    changed_keeps c task (held_by c task ++ res ∷ []) h within
    (All-push (λ res. res < c.resources) (held_by c task) res (h.there task) f.there)
    (All-push (λ res. is_user (slice_index c.users res) task ≡ true) (held_by c task) res (h.declared task) f.user)
    (λ r. one_more c task res r h f)

-- and after ReleaseResource
pub given_back_keeps : (c : CeilingsView) (task n : ℕ) → IsCeilings c → task < 16 →
    IsCeilings (record c { held = slice_set c.held task (take n (held_by c task)) })
given_back_keeps c task n h within =
    changed_keeps c task (take n (held_by c task)) h within
    (All-take (λ res. res < c.resources) n (held_by c task) (h.there task))
    (All-take (λ res. is_user (slice_index c.users res) task ≡ true) n (held_by c task) (h.declared task))
    (λ r. omega (arith, sum_by-take-le (λ (y : ℕ). cond (y == r) 1 0) (held_by c task) n, h.once r))
