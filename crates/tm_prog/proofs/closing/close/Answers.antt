use Rattle.std.proofs.Common.{subst, sym}
use Rattle.tm_prog.specs.BenchEnds.{IsAuditOf}
use Rattle.tm_prog.proofs.closing.close.Goals as goal

pub returns-clause-closed : goal.returns-clause-closed
returns-clause-closed c =
    let close = c.close.ensures in record {
      shut = close.shut;
      closed = close.closed;
      audited = subst (IsAuditOf c.close.result) (sym close.lists) (record {
        counts = close.counts;
        takes = close.takes;
        latches = close.latches;
        glances = close.glances;
        settled = close.settled;
        balance = close.balance;
      });
    }
