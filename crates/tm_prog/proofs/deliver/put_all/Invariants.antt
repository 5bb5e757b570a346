use Rattle.std.proofs.Common.{◌≡◌, drop}
use Rattle.tm_io.specs.Shelf.{ShelfView}
use Rattle.tm_prog.specs.World.{all_put, PutsStopped}
use Rattle.tm_prog.proofs.deliver.put_all.Given as goal

-- what is left of the puts does from here what all did from the beginning
abbrev pub invariant-loop-put : goal.invariant-loop-put
invariant-loop-put g l = record {
  done : all_put (drop l.put-index l.puts) (g.F.Shelf.seen l.shelf) ≡ all_put l.puts (g.F.Shelf.seen l.fn.shelf);
  stopped : (after : ShelfView) → PutsStopped (drop l.put-index l.puts) (g.F.Shelf.seen l.shelf) after → PutsStopped l.puts (g.F.Shelf.seen l.fn.shelf) after;
  tells : (g.F.Shelf.seen l.shelf).tells ≡ (g.F.Shelf.seen l.fn.shelf).tells;
  calm : (g.F.Shelf.seen l.shelf).calm ≡ (g.F.Shelf.seen l.fn.shelf).calm;
  room : (g.F.Shelf.seen l.shelf).room ≡ (g.F.Shelf.seen l.fn.shelf).room;
}
