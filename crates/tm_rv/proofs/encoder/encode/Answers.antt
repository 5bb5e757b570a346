use Rattle.std.proofs.Common.{◌≡◌, arith}
use Rattle.tm_rv.specs.Word.{word_of}
use Rattle.tm_rv.proofs.Encoded.{decodes_from}
use Rattle.tm_rv.proofs.Decoded.{is_decoded}
use Rattle.tm_rv.proofs.encoder.encode.Goals as goal

pub returns-clause-decodes : goal.returns-clause-decodes
returns-clause-decodes c = decodes_from c.args.instr.now _ c.requires (omega arith)

pub returns-clause-only : goal.returns-clause-only
returns-clause-only c = λ word set small h.
    let again : word_of c.args.instr.now ≡ word = (is_decoded word set c.args.instr.now small h).again in
    omega arith
