use Rattle.tm_watch.proofs.Showing.{admits}
use Rattle.tm_watch.proofs.watch.place.Goals as goal

pub reader-requires : goal.reader-requires
reader-requires g c = admits
