use Rattle.std.proofs.Common.{arith}
use Rattle.std.proofs.lemmas.List.{length-append}
use Rattle.tm_dump.specs.Dump.{body_bytes, closing_digest, dump_bytes}
use Rattle.tm_dump.proofs.Most.{length-closing_digest}
use Rattle.tm_dump.proofs.write.write_dump.Goals as goal

pub returns-clause-bound : goal.returns-clause-bound
unfolding dump_bytes
returns-clause-bound c =
    let body = body_bytes c.args.window.now in
    omega (
      arith,
      length-append body (closing_digest body),
      length-closing_digest body,
      c.put_body.ensures.gains.len,
      c.put_body.ensures.len,
      c.dump_length.ensures.room,
      c.dump_length.ensures.bound,
    )
