use Rattle.std.proofs.Common.{rules, ◌≡◌, ◌∙◌, length-set, subst}
use Rattle.tm_plant.specs.Plant.{IsPlant, acts_in, raises_in}
use Rattle.tm_plant.proofs.Adding.{added, whole}
use Rattle.tm_plant.proofs.plant.Plant.add_act.Goals as goal

pub invariant_of-self-2 : goal.invariant_of-self-2
invariant_of-self-2 c =
    rw c.raises_of.ensures
    (added c.args.self.now _ c.args.device c.args.act _ _
    (subst IsPlant c.self.view_is c.self.invariant.0)
    (subst (λ devices. c.self.inside.acts ≡ acts_in devices) c.self.view_is c.self.invariant.1)
    (subst (λ devices. c.self.inside.raises ≡ raises_in devices) c.self.view_is c.self.invariant.2)
    c.requires.there c.requires.act c.requires.few_acts c.requires.few_raises
    (whole c.self.inside.devices.len c.push_act.new.devices c.self.inside.devices.items (search rules) (search (rules, length-set)) ∙ search rules))
