use Rattle.std.proofs.Common.{◌≡◌, take}
use Rattle.tm_image.specs.Draft.{mask_of}
use Rattle.tm_image.proofs.draft.mask_of.Given as goal

abbrev pub invariant-loop-user : goal.invariant-loop-user
invariant-loop-user l = l.mask ≡ mask_of (take l.user-index l.users)
