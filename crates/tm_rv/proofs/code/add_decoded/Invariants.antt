use Rattle.std.proofs.Common.{◌≡◌, ◌++◌, map, take}
use Rattle.tm_rv.specs.Instr.{instr_of}
use Rattle.tm_rv.specs.Code.{kept}
use Rattle.tm_rv.proofs.code.add_decoded.Given as goal

abbrev pub invariant-loop-word : goal.invariant-loop-word
invariant-loop-word l = l.instrs.items ≡ l.fn.instrs.items ++ map (λ word. kept (instr_of word l.fn.set)) (take l.word-index l.words)
