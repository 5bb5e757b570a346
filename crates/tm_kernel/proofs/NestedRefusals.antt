-- A declared user that is refused GetResource holds the resource itself.
use Rattle.std.proofs.Common.{◌≡◌, ℕ, ◌+◌, ◌<◌, Bool, true, false, not, cond, eqb, ltb, List, [], ◌∷◌, length, refl, sym, subst, ◌∙◌, arith, zero, suc, get_or, slice_index, inl, inr, Contains}
use Rattle.std.specs.List.{fold}
use Rattle.std.proofs.lemmas.Bool.{cases_eq, cases_lt, eqb-true, ltb-true}
use Rattle.tm_marker.specs.declared.entries.DataEntry.{DataEntry}
use Rattle.tm_marker.specs.declared.service.Service.TheVariants.{GetResource}
use Rattle.tm_marker.specs.Service.{service_number, service_of}
use Rattle.tm_services.specs.declared.status.TheConstants.{E_OK, E_OS_ACCESS, E_OS_ID}
use Rattle.tm_services.specs.Ceilings.{CeilingsView, held_by, is_user, times_in, times_held, is_held, get_status}
use Rattle.tm_kernel.specs.State.{KernelState, IsKernel, IsRunning}
use Rattle.tm_kernel.specs.Service.{answer}
use Rattle.tm_kernel.specs.Nesting.{IsNested, IsSettled, RefusedUserHolds, RefusedUsersHold}
use Rattle.tm_kernel.proofs.NestedLeaders.{users_never_block}

-- of a sum that is above its start, some part is above 0
summed : {X : Type 0} (f : X → ℕ) (start : ℕ) (xs : List X) (d : X) → start < fold (λ s x. s + f x) start xs →
    (i : ℕ) × (i < length xs) × (0 < f (get_or xs i d))
summed f start [] d h = absurd (omega arith)
summed f start (x ∷ xs) d h = elim (cases_lt 0 (f x)) [
  | inl here ↦ (zero, omega arith, here)
  | inr none ↦ (
      let (i, within, there) = summed f (start + f x) xs d (omega arith) in
      (suc i, omega arith, there))
]

-- a resource that is counted in a list stands in it
counted : (res : ℕ) (xs : List ℕ) → 0 < times_in res xs → Contains xs res
counted res xs h =
    let (i, within, one) = summed (λ r. cond (eqb r res) 1 0) 0 xs res h in
    (i, within, test (get_or xs i res) (eqb (get_or xs i res) res) refl one)
  where
    test : (x : ℕ) (b : Bool) → eqb x res ≡ b → 0 < cond b 1 0 → x ≡ res
    test x true e h = eqb-true x res e
    test x false e h = absurd (omega arith)

-- a held resource is held by a task
pub holder_of : (c : CeilingsView) (res : ℕ) → is_held c res ≡ true → (task : ℕ) × Contains (held_by c task) res
holder_of c res h =
    let (task, within, some) = summed (times_in res) 0 c.held [] (ltb-true 0 (times_held c res) h) in
    (task, counted res (held_by c task) some)

-- a declared user is refused with E_OS_ACCESS only what is held
refused_held : (c : CeilingsView) (task res : ℕ) → is_user (slice_index c.users res) task ≡ true → get_status c task res ≡ E_OS_ACCESS →
    (res < c.resources) × (is_held c res ≡ true)
refused_held c task res user status = go (ltb res c.resources) (is_user (slice_index c.users res) task) (is_held c res) refl user refl status
  where
    go : (there declared held : Bool) → ltb res c.resources ≡ there → declared ≡ true → is_held c res ≡ held →
        cond (not there) E_OS_ID (cond (not declared) E_OS_ACCESS (cond held E_OS_ACCESS E_OK)) ≡ E_OS_ACCESS →
        (res < c.resources) × (is_held c res ≡ true)
    go true true true t d h e = (ltb-true res c.resources t, h)
    go true true false t d h e = absurd (omega arith)
    go true false held t d h e = cc
    go false declared held t d h e = absurd (omega arith)

-- GetResource answers its status
get_answers : (k : KernelState) (task service : ℕ) (args : List ℕ) → service ≡ service_number GetResource →
    (answer k task service args).entry.status ≡ get_status k.ceilings task (slice_index args 0)
unfolding service_of
get_answers k task service args e = subst (λ (s : ℕ). (answer k task s args).entry.status ≡ get_status k.ceilings task (slice_index args 0)) (sym e) refl

pub refused_users_hold : RefusedUsersHold
refused_users_hold k task service args h nested settled runs called user refused =
    let res : ℕ = slice_index args 0 in
    let status : get_status k.ceilings task res ≡ E_OS_ACCESS = sym (get_answers k task service args called) ∙ refused in
    let (there, held) = refused_held k.ceilings task res user status in
    let (holder, found) = holder_of k.ceilings res held in
    elim (cases_eq holder task) [
      | inl e ↦ subst (λ (t : ℕ). Contains (held_by k.ceilings t) res) e found
      | inr ne ↦ absurd (users_never_block k task res holder h nested settled runs there user ne found)
    ]

-- so it is of every entry that equals the answer's
pub answered_users_hold : (k : KernelState) (task service : ℕ) (args : List ℕ) (entry : DataEntry) → IsKernel k → IsRunning k task →
    entry ≡ (answer k task service args).entry → IsNested k → IsSettled k → RefusedUserHolds k task service args entry.status
answered_users_hold k task service args entry h runs e nested settled =
    subst (λ (d : DataEntry). RefusedUserHolds k task service args d.status) (sym e)
    (refused_users_hold k task service args h nested settled runs)
