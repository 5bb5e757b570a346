-- The resources that tasks hold, and priorities by the priority ceiling protocol.
use Rattle.std.specs.Prelude.{◌≡◌, ℕ, ◌+◌, ◌-◌, ◌^◌, ◌<◌, ◌≤◌, max, Bool, IsTrue, ◌==◌, ◌&&◌, not, nat_lt, if◌then◌else◌, List, [], ◌∷◌, ◌++◌, length, take, map, fold, replicate, slice_index, slice_index_or, slice_set, All, sum_by, count_by}
use Rattle.std.specs.Int.{bit_at}
use Rattle.tm_services.specs.declared.status.TheConstants.{E_OK, E_OS_ACCESS, E_OS_ID, E_OS_NOFUNC}

-- the static priorities of 16 tasks, the mask of declared users of each of 16 resources, how many
-- resources there are, and for each task the resources that it holds, the one got first first
pub record CeilingsView : Type 0 where
  pub priorities : List ℕ
  pub users : List ℕ
  pub resources : ℕ
  pub held : List (List ℕ)

-- nobody holds a resource
abbrev pub nothing_held : List ℕ → List ℕ → ℕ → CeilingsView
nothing_held priorities users resources =
    record { priorities = priorities; users = users; resources = resources; held = replicate 16 [] }

-- whether a mask names the task
abbrev pub is_user : ℕ → ℕ → Bool
is_user mask task = bit_at mask task == 1

-- the priorities of the tasks that a mask names; the first priority is that of `task`
abbrev pub user_priorities : ℕ → ℕ → List ℕ → List ℕ
user_priorities mask task [] = []
user_priorities mask task (p ∷ ps) =
    if is_user mask task then p ∷ user_priorities mask (task + 1) ps else user_priorities mask (task + 1) ps

-- the greatest static priority of a resource's declared users, and 0 where there is none
abbrev pub ceiling : CeilingsView → ℕ → ℕ
ceiling c res = fold max 0 (user_priorities (slice_index c.users res) 0 c.priorities)

-- the resources that a task holds, the one got first first
abbrev pub held_by : CeilingsView → ℕ → List ℕ
held_by c task = slice_index_or c.held task []

-- how often a resource stands in a list
abbrev pub times_in : ℕ → List ℕ → ℕ
times_in res held = count_by (λ r. r == res) held

-- how often a resource is held, by all tasks together
abbrev pub times_held : CeilingsView → ℕ → ℕ
times_held c res = sum_by (λ held. times_in res held) c.held

-- whether a task holds the resource
abbrev pub is_held : CeilingsView → ℕ → Bool
is_held c res = nat_lt 0 (times_held c res)

-- the greatest of a task's static priority and the ceilings of the resources that it holds
abbrev pub current : CeilingsView → ℕ → ℕ
current c task = fold max (slice_index c.priorities task) (map (ceiling c) (held_by c task))

-- whether a task holds a resource
abbrev pub holds : CeilingsView → ℕ → Bool
holds c task = nat_lt 0 (length (held_by c task))

-- the status of GetResource: there must be such a resource, the task must be declared, and nobody
-- may hold it, the task itself included
abbrev pub get_status : CeilingsView → ℕ → ℕ → ℕ
get_status c task res =
    if not (nat_lt res c.resources) then E_OS_ID
    else if not (is_user (slice_index c.users res) task) then E_OS_ACCESS
    else if is_held c res then E_OS_ACCESS
    else E_OK

-- after GetResource: the resource is the task's last got, where it was not refused
abbrev pub got : CeilingsView → ℕ → ℕ → CeilingsView
got c task res =
    if get_status c task res == E_OK
    then record c { held = slice_set c.held task (held_by c task ++ res ∷ []) }
    else c

-- whether a resource is the last of a list
abbrev pub is_last : ℕ → List ℕ → Bool
is_last res held = nat_lt 0 (length held) && (slice_index held (length held - 1) == res)

-- the status of ReleaseResource: there must be such a resource, and it must be the task's last got
abbrev pub release_status : CeilingsView → ℕ → ℕ → ℕ
release_status c task res =
    if not (nat_lt res c.resources) then E_OS_ID
    else if not (is_last res (held_by c task)) then E_OS_NOFUNC
    else E_OK

-- after ReleaseResource: the task's last got is gone, where the call was not refused
abbrev pub released : CeilingsView → ℕ → ℕ → CeilingsView
released c task res =
    if release_status c task res == E_OK
    then record c { held = slice_set c.held task (take (length (held_by c task) - 1) (held_by c task)) }
    else c

-- what always holds: 16 priorities, masks and lists, at most 16 resources; each resource that a task
-- holds is one that there is, the task is declared for it, and it is held once
pub record IsCeilings (c : CeilingsView) : Type 0 where
  pub priorities : length c.priorities ≡ 16
  pub small_priorities : All (λ p. p < 256) c.priorities
  pub users : length c.users ≡ 16
  pub small_masks : All (λ mask. mask < 2 ^ 16) c.users
  pub few_resources : c.resources ≤ 16
  pub held : length c.held ≡ 16
  pub there : (task : ℕ) → All (λ res. res < c.resources) (held_by c task)
  pub declared : (task : ℕ) → All (λ res. IsTrue (is_user (slice_index c.users res) task)) (held_by c task)
  pub once : (res : ℕ) → times_held c res ≤ 1
