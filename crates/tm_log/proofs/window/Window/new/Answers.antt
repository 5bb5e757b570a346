use Rattle.tm_log.proofs.Keeping.{empty_is_window}
use Rattle.tm_log.proofs.window.Window.new.Goals as goal

pub invariant_of-result : goal.invariant_of-result
invariant_of-result c =
    rw (c.in_ok-copied.ensures, c.in_ok-new.ensures, c.in_ok-new-2.ensures, c.in_ok-empty_logs.ensures, c.in_ok-empty_checks.ensures, c.in_ok-new_tail.ensures, c.len-tasks.ensures, c.as_slice.ensures)
    (empty_is_window _ c.requires)
