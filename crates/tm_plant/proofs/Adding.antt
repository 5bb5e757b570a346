-- A device does one more thing.
use Rattle.std.proofs.Common.{◌≡◌, ℕ, zero, suc, ◌+◌, ◌<◌, ◌≤◌, List, [], ◌∷◌, ◌++◌, length, All, sum_by, take, drop, subst, sym, arith, length-append, length-set}
use Rattle.std.proofs.lemmas.Grind.{common_steps}
use Rattle.std.proofs.lemmas.List.Elements.{All-push, All-set}
use Rattle.std.proofs.lemmas.List.Sums.{sum_by-cons, sum_by_push}
use Rattle.std.proofs.lemmas.Option.{unwrap_or-slice_get}
use Rattle.tm_plant.specs.declared.plant.Act.{Act}
use Rattle.tm_plant.specs.Plant.{IsAct, raises_of, acts_in, raises_in, IsPlant, acts_of, with_act}

-- the sum over all devices grows by what the sum over the acts of one grows by
sum_more : (f : List Act → ℕ) (devices : List (List Act)) (device : ℕ) (act : Act) (n : ℕ) → device < length devices →
    f (acts_of devices device ++ act ∷ []) ≡ f (acts_of devices device) + n →
    sum_by f (with_act devices device act) ≡ sum_by f devices + n
sum_more f [] device act n there e = absurd (omega arith)
sum_more f (acts ∷ rest) zero act n there e = omega (arith, sum_by-cons f (acts ++ act ∷ []) rest, sum_by-cons f acts rest, e)
sum_more f (acts ∷ rest) (suc device) act n there e =
    omega (arith, sum_by-cons f acts (with_act rest device act), sum_by-cons f acts rest, sum_more f rest device act n (omega arith) e)

-- the acts of a device are sound
acts_sound : (devices : List (List Act)) (device : ℕ) → device < length devices → All (λ acts. All IsAct acts) devices → All IsAct (acts_of devices device)
acts_sound devices device there all = subst (All IsAct) (sym (unwrap_or-slice_get devices device [])) (all device [] there)

-- the devices with one more act are a plant, and its acts and raises are counted
pub added : (devices new : List (List Act)) (device : ℕ) (act : Act) (acts raises : ℕ) →
    IsPlant devices → acts ≡ acts_in devices → raises ≡ raises_in devices →
    device < length devices → IsAct act → acts_in devices < 65536 → raises_in devices + raises_of act ≤ 1048576 →
    new ≡ with_act devices device act →
    IsPlant new × (acts + 1 ≡ acts_in new) × (raises + raises_of act ≡ raises_in new)
added devices new device act acts raises plant counted raised there sound few few_raises is =
    subst
    (λ (n : List (List Act)). IsPlant n × (acts + 1 ≡ acts_in n) × (raises + raises_of act ≡ raises_in n))
    (sym is) (
      record {
        few = omega (arith, plant.few, length-set devices device (acts_of devices device ++ act ∷ []));
        acts =
            All-set (λ acts. All IsAct acts) devices device (acts_of devices device ++ act ∷ [])
            (All-push IsAct (acts_of devices device) act (acts_sound devices device there plant.acts) sound)
            plant.acts;
        few_acts = omega (arith, more_acts);
        few_raises = omega (arith, more_raises);
      },
      omega (arith, more_acts),
      omega (arith, more_raises),
    )
  where
    more_acts : acts_in (with_act devices device act) ≡ acts_in devices + 1
    more_acts = sum_more (λ acts. length acts) devices device act 1 there (length-append (acts_of devices device) (act ∷ []))

    more_raises : raises_in (with_act devices device act) ≡ raises_in devices + raises_of act
    more_raises =
        sum_more (λ acts. sum_by raises_of acts) devices device act (raises_of act) there (sum_by_push raises_of (acts_of devices device) act)

-- a slice of a whole vector, put back
pub whole : {X : Type 0} (n : ℕ) (new old : List X) → n ≡ length old → length new ≡ length old → take n (new ++ drop (length new) old) ≡ new
whole n new old all same = grind (arith, common_steps)
