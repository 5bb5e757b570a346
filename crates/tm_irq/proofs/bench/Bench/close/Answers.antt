use Rattle.std.proofs.Common.{sym, ◌∙◌}
use Rattle.tm_irq.proofs.Auditing.{seats_home}
use Rattle.tm_irq.proofs.Closing.{bench_seats, closing_counts, closing_takes, closing_latches, closing_glances, closing_settled, closing_balance}
use Rattle.tm_irq.proofs.bench.Bench.close.Goals as goal

pub audit-audit-requires : goal.audit-audit-requires
audit-audit-requires c = seats_home c.in-Some.kernel c.gather.new.kernel _ (bench_seats c.args.self.now c.in-Some.kernel (sym c.take.ensures.value ∙ c.in-Some.is)) c.gather.ensures.kernel

pub returns-clause-counts : goal.returns-clause-counts
returns-clause-counts c = closing_counts c.args.self.now c.in-Some.kernel (sym c.take.ensures.value ∙ c.in-Some.is) c.gather.new.kernel c.gather.ensures.kernel c.audit-audit.result c.audit-audit.ensures.counts

pub returns-clause-settled : goal.returns-clause-settled
returns-clause-settled c = closing_settled c.args.self.now c.in-Some.kernel (sym c.take.ensures.value ∙ c.in-Some.is) c.gather.new.kernel c.gather.ensures.kernel c.audit-audit.ensures.settled

pub returns-clause-balance : goal.returns-clause-balance
returns-clause-balance c = closing_balance c.args.self.now c.in-Some.kernel (sym c.take.ensures.value ∙ c.in-Some.is) c.gather.new.kernel c.gather.ensures.kernel c.audit-audit.result c.audit-audit.ensures.counts c.audit-audit.ensures.settled

pub returns-clause-takes : goal.returns-clause-takes
returns-clause-takes c = closing_takes c.args.self.now c.in-Some.kernel (sym c.take.ensures.value ∙ c.in-Some.is) c.gather.new.kernel c.gather.ensures.kernel c.audit-audit.ensures.settled

pub returns-clause-latches : goal.returns-clause-latches
returns-clause-latches c = closing_latches c.args.self.now c.in-Some.kernel (sym c.take.ensures.value ∙ c.in-Some.is) c.gather.new.kernel c.gather.ensures.kernel c.audit-audit.ensures.settled

pub returns-clause-glances : goal.returns-clause-glances
returns-clause-glances c = closing_glances c.args.self.now c.in-Some.kernel (sym c.take.ensures.value ∙ c.in-Some.is) c.gather.new.kernel c.gather.ensures.kernel c.audit-audit.ensures.settled
