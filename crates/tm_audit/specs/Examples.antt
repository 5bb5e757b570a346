-- Audits that the examples share.
use Rattle.std.specs.Prelude.{[], ◌∷◌, ◌++◌, replicate}
use Rattle.tm_irq.specs.declared.audit.Audit.{Audit}

-- no line was raised
abbrev pub quiet : Audit
quiet = record { raised = replicate 16 0; joined = replicate 16 0; taken = replicate 16 0; pending = replicate 16 0 }

-- the first line and the last were raised
abbrev pub two_lines : Audit
two_lines = record {
  raised = 1 ∷ replicate 14 0 ++ 12 ∷ [];
  joined = 0 ∷ replicate 14 0 ++ 2 ∷ [];
  taken = 0 ∷ replicate 14 0 ++ 10 ∷ [];
  pending = 1 ∷ replicate 14 0 ++ 0 ∷ [];
}
