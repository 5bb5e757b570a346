-- What the bench gained in a call.
use Rattle.std.specs.Prelude.{ℕ, List, unwrap_or, replicate}
use Rattle.tm_irq.specs.declared.audit.Audit.{Audit}
use Rattle.tm_irq.specs.declared.bench.Bench.{Bench}
use Rattle.tm_irq.specs.Bench.{bench_lists}
use Rattle.tm_live.specs.Growth.{added}

-- the takes and the latches that came, and the audit of the closing
pub record Gained : Type 0 where
  pub takes : List ℕ
  pub latches : List (List ℕ)
  pub audit : Audit

-- the audit of a bench at which nothing was done
abbrev pub no_audit : Audit
no_audit = record { raised = replicate 16 0; joined = replicate 16 0; taken = replicate 16 0; pending = replicate 16 0 }

-- what stands after what was there before the call
abbrev pub gained : Bench → Bench → Gained
gained before after = record {
  takes = added (bench_lists before).takes (bench_lists after).takes;
  latches = added (bench_lists before).latches (bench_lists after).latches;
  audit = unwrap_or after.closed no_audit;
}
