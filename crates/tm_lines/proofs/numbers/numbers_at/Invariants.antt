use Rattle.std.proofs.Common.{◌≡◌, map, drop}
use Rattle.tm_lines.specs.Numbers.{number_in, all_in}
use Rattle.tm_lines.proofs.Fronts.{with_front}
use Rattle.tm_lines.proofs.numbers.numbers_at.Given as goal

-- the numbers so far, and those of the tokens that are left
abbrev pub invariant-loop-token : goal.invariant-loop-token
invariant-loop-token l =
    with_front l.numbers (all_in number_in (map (λ token. token.now) (drop l.token-index l.tokens)))
    ≡ all_in number_in (map (λ token. token.now) l.tokens)
