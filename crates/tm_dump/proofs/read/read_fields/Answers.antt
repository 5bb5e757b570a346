use Rattle.std.proofs.Common.{◌∙◌, ap, length}
use Rattle.tm_dump.proofs.Making.{is_window}
use Rattle.tm_dump.proofs.read.read_fields.Goals as goal

pub from_parts-requires : goal.from_parts-requires
from_parts-requires c =
    is_window c.args.shape.now c.in_ok-shape.shape c.in_ok-control.control c.in_ok-outputs.outputs
    c.in_ok-lists.lists.logs.items c.in_ok-lists.lists.checks.items c.in_ok-tail.tail c.requires c.in_ok-shape.ensures
    c.in_ok-control.ensures.cap c.in_ok-outputs.ensures.cap c.in_ok-lists.ensures.made
    (c.in_ok-tail.ensures.markers ∙ ap length c.as_slice.ensures.value)
    (c.in_ok-tail.ensures.states ∙ ap length c.as_slice.ensures.value)
