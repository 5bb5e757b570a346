use Rattle.std.proofs.Common.{◌≡◌, ◌∙◌, ℕ, List, drop, take, length, length-drop, arith}
use Rattle.std.proofs.lemmas.List.{take_all}
use Rattle.tm_task.proofs.registers.Registers.put_into.Goals as goal

-- all but the first of 32
all_but_first : (all : List ℕ) → length all ≡ 32 → take 31 (drop 1 all) ≡ drop 1 all
all_but_first all many = take_all 31 (drop 1 all) (omega (arith, length-drop 1 all))

pub returns : goal.returns
returns c = c.copy_from_slice.ensures.after ∙ all_but_first c.self.inside.all c.self.told ∙ c.self.view_is
