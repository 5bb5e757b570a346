use Rattle.std.proofs.Common.{◌≡◌, ◌-◌, ◌++◌, map, flat_map, decimal}
use Rattle.tm_image_text.specs.Prefix.{Keeps}
use Rattle.tm_image_text.specs.Lines.{spaced, users_of}
use Rattle.tm_image_text.proofs.Users.{users_from}
use Rattle.tm_image_text.proofs.words.put_users.Given as goal

abbrev pub invariant-loop-task : goal.invariant-loop-task
invariant-loop-task l = record {
  written :
      l.into.items ++ flat_map spaced (map decimal (users_from l.mask l.task (16 - l.task))) ≡
      l.fn.into.items ++ flat_map spaced (map decimal (users_of l.mask));
  keeps : Keeps l.fn.into.items l.into.items;
}
