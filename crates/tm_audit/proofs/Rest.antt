-- The lines of an audit from one on.
use Rattle.std.proofs.Common.{◌≡◌, ℕ, zero, suc, ◌+◌, ◌-◌, ◌<◌, ◌≤◌, List, [], ◌∷◌, ◌++◌, flat_map, refl, ap, sym, ◌∙◌, append_assoc, append-nil, arith}
use Rattle.std.specs.List.{range_with_len}
use Rattle.tm_irq.specs.declared.audit.Audit.{Audit}
use Rattle.tm_audit.specs.Text.{audit_line, lines_text}

-- those from a line on
unfoldable pub lines_from : Audit → ℕ → List ℕ
lines_from audit from = flat_map (audit_line audit) (range_with_len from (16 - from))

-- before the first, all are left
pub all_left : (audit : Audit) (text : List ℕ) → text ++ lines_from audit 0 ≡ text ++ lines_text audit
unfolding lines_from lines_text
all_left audit text = refl

-- the line at hand is written
pub line_written : (audit : Audit) (old now new : List ℕ) (line : ℕ) → line < 16 → new ≡ now ++ audit_line audit line →
    now ++ lines_from audit line ≡ old ++ lines_text audit →
    new ++ lines_from audit (line + 1) ≡ old ++ lines_text audit
unfolding lines_from
line_written audit old now new line h is so_far =
    ap (λ xs. xs ++ flat_map (audit_line audit) (range_with_len (line + 1) (16 - (line + 1)))) is
    ∙ append_assoc now (audit_line audit line) (flat_map (audit_line audit) (range_with_len (line + 1) (16 - (line + 1))))
    ∙ ap (λ left. now ++ flat_map (audit_line audit) (range_with_len line left)) {x = suc (16 - (line + 1))} {y = 16 - line} (omega arith)
    ∙ so_far

-- after the last, none is left
pub none_left : (audit : Audit) (old now : List ℕ) (line : ℕ) → 16 ≤ line →
    now ++ lines_from audit line ≡ old ++ lines_text audit → now ≡ old ++ lines_text audit
unfolding lines_from
none_left audit old now line h so_far =
    sym (append-nil now)
    ∙ ap (λ left. now ++ flat_map (audit_line audit) (range_with_len line left)) {x = zero} {y = 16 - line} (omega arith)
    ∙ so_far
