use Rattle.std.proofs.Common.{◌≡◌, length, map, All, ap, sym, subst, ◌∙◌, arith}
use Rattle.std.proofs.lemmas.List.{length-map}
use Rattle.tm_image.specs.Image.{ImageView}
use Rattle.tm_watch.specs.Views.{Observed, newcomer}
use Rattle.tm_observe.specs.Lookers.{LookerView}
use Rattle.tm_prog.proofs.watch_run.WatchRun.open.Goals as goal

pub returns-in-Ok-clause-open : goal.returns-in-Ok-clause-open
returns-in-Ok-clause-open g c =
    let watch = c.in_ok-watch.watch in
    let made = c.in_ok-watch.ensures in
    let observer : LookerView → Observed = λ l. l.observer in
    let new = subst (λ (i : ImageView). All (λ (o : Observed). o ≡ newcomer watch.book i) c.in_ok-watch.observers.items) (sym made.image) made.observers in record {
      image = made.image ∙ c.in_ok-copy.ensures.copied;
      list = made.list;
      count = omega (arith, length-map c.in-Ok.lookers.items observer, ap length c.in-Ok.ensures.observers, c.in_ok-watch.observers.ok, made.count);
      observers = subst (All (λ (o : Observed). o ≡ newcomer watch.book watch.image)) (sym c.in-Ok.ensures.observers) new;
      tape = c.in_ok-tape.ensures;
      text = record {
        empty = c.in_ok-text.ensures.items;
        room = omega (arith, c.in_ok-text.ensures.len, c.in_ok-text.ensures.capacity);
      };
    }
