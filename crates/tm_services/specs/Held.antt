-- What the code of the ceilings keeps: short lists of resources, and what it has computed of them.
use Rattle.std.specs.Prelude.{◌≡◌, ℕ, ◌<◌, ◌==◌, List, length, take, map, slice_index, All}
use Rattle.std.specs.Int.{bit_at}
use Rattle.tm_services.specs.declared.held.Held.{Held}
use Rattle.tm_services.specs.Ceilings.{CeilingsView, ceiling, current, is_held}

-- the resources of a short list
abbrev pub resources_of : Held → List ℕ
resources_of h = take h.number h.resources

-- the value of the fields
abbrev pub view_of : List ℕ → List ℕ → ℕ → List Held → CeilingsView
view_of priorities users resources held =
    record { priorities = priorities; users = users; resources = resources; held = map resources_of held }

-- the numbers of a list of this length are below a bound
pub record AllBelow (bound : ℕ) (xs : List ℕ) (count : ℕ) : Type 0 where
  pub number : length xs ≡ count
  pub below : All (λ x. x < bound) xs

-- what stands beside the lists: each resource's ceiling, the mask of the resources that are held,
-- and each task's current priority
pub record IsSummary (c : CeilingsView) (tops : List ℕ) (mask : ℕ) (levels : List ℕ) : Type 0 where
  pub ceilings : (res : ℕ) → res < 16 → slice_index tops res ≡ ceiling c res
  pub taken : (res : ℕ) → res < 16 → (bit_at mask res == 1) ≡ is_held c res
  pub priority : (task : ℕ) → task < 16 → slice_index levels task ≡ current c task
