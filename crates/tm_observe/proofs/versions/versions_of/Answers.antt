use Rattle.tm_observe.proofs.Settling.{dumped}
use Rattle.tm_observe.proofs.versions.versions_of.Goals as goal

pub returns-clause-versions : goal.returns-clause-versions
returns-clause-versions g c =
    let d = dumped (λ bytes. bytes.items) c.args.image.now c.args.tape.now.slices c.args.lookers.now c.in_ok-beside.beside.items c.in_ok-beside.ensures.versions in record {
      seen = d.seen;
      number = d.number;
      prefixes = d.prefixes;
      beside = d.are;
      last = c.in_ok-last.ensures;
    }
