-- A window that has the lists of a history has those of each that adds nothing to them.
use Rattle.std.proofs.Common.{sym, subst}
use Rattle.tm_image.specs.Image.{ImageView}
use Rattle.tm_ring.specs.Kept.{Holds}
use Rattle.tm_check.specs.Checkpoint.{HoldsChecks}
use Rattle.tm_log.specs.Window.{WindowView, log_of, checks_of}
use Rattle.tm_system.specs.History.{History}
use Rattle.tm_system.specs.Quiet.{AddsNothing}
use Rattle.tm_record.specs.Recording.{IsNoted}

pub quiet_noted : (image : ImageView) (h g : History) (w : WindowView) → AddsNothing image h g → IsNoted image h w → IsNoted image g w
quiet_noted image h g w nothing n = record {
  shape = n.shape;
  lists = record {
    control = subst (λ cs. Holds w.control cs) (sym nothing.controls) n.lists.control;
    outputs = subst (λ os. Holds w.outputs os) (sym nothing.outputs) n.lists.outputs;
    logs = λ t below. subst (λ es. Holds (log_of w t) es) (sym (nothing.entries t)) (n.lists.logs t below);
    checks = λ t below. subst (λ ks. HoldsChecks (checks_of w t) ks) (sym (nothing.checkpoints t)) (n.lists.checks t below);
  };
}
