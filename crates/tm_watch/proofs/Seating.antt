-- How the observers of a new watch are made, one by one.
use Rattle.std.proofs.Common.{◌≡◌, ℕ, ◌+◌, ◌≤◌, List, [], ◌∷◌, ◌++◌, All, Vec, vec_len, vec_capacity, ap, sym, ◌∙◌, subst, arith}
use Rattle.std.proofs.lemmas.List.Elements.{All-append, All-cons, All-nil}
use Rattle.tm_watch.specs.Views.{Watched, Observed, newcomer}

-- so many observers are there, each new, with room for the rest, and the watch is as before
pub record AreSeated {Z : Type 0} (count done : ℕ) (watch now : Watched) (seats : Vec Observed Z) : Type 0 where
  pub same : now ≡ watch
  pub many : vec_len seats ≡ done
  pub room : count ≤ vec_capacity seats
  pub each : All (λ o. o ≡ newcomer watch.book watch.image) seats.items

-- one more observer
pub seated_next : {Z : Type 0} (count done : ℕ) (watch now now' : Watched) (seats seats' : Vec Observed Z) (o : Observed) → AreSeated count done watch now seats →
    o ≡ newcomer now.book now.image → now' ≡ now → seats'.items ≡ seats.items ++ o ∷ [] → vec_len seats' ≡ vec_len seats + 1 →
    vec_capacity seats' ≡ vec_capacity seats → AreSeated count (done + 1) watch now' seats'
seated_next count done watch now now' seats seats' o a new stays items len capacity =
    let New : Observed → Type 0 = λ x. x ≡ newcomer watch.book watch.image in
    let newer : New o = new ∙ ap (λ (w : Watched). newcomer w.book w.image) a.same in
    record {
      same = stays ∙ a.same;
      many = len ∙ ap (λ n. n + 1) a.many;
      room = (let r = a.room in omega (arith, capacity));
      each = subst (All New) (sym items) (All-append New seats.items (o ∷ []) a.each (All-cons New o [] newer (All-nil New)));
    }
