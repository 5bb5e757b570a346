use Rattle.std.proofs.Common.{rules}
use Rattle.tm_log.proofs.window.Window.copy_from.Goals as goal

pub copy_logs-requires-clause-caps : goal.copy_logs-requires-clause-caps
copy_logs-requires-clause-caps c = record { cap = c.self.inside.shape.caps.logs; first = search rules; second = search rules }

pub copy_checks-requires-clause-caps : goal.copy_checks-requires-clause-caps
copy_checks-requires-clause-caps c = record { cap = c.self.inside.shape.caps.checks; first = search rules; second = search rules }
