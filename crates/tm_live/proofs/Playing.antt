-- What a device did, one act on.
use Rattle.std.proofs.Common.{◌≡◌, ℕ, ◌+◌, ◌<◌, Bool, List, [], ◌∷◌, ◌++◌, map, length, replicate, flat_map, take, get_or, refl, sym, ap, ap₂, subst, ◌∙◌, append_assoc, append-nil}
use Rattle.std.proofs.lemmas.List.{map-append, replicate-append-replicate, take_more}
use Rattle.std.proofs.lemmas.Grind.{flat_map-append}
use Rattle.tm_irq.specs.declared.views.Raise.{Raise}
use Rattle.tm_irq.specs.declared.views.Store.{Store}
use Rattle.tm_irq.specs.Lists.{DeviceLists}
use Rattle.tm_plant.specs.declared.plant.Act.{Act}
use Rattle.tm_plant.specs.Plays.{lines_of, values_of, raised_by, stored_by}
use Rattle.tm_live.specs.Devices.{GrewByRaises, GrewByStores, Played, store_in}

-- nothing was done yet
pub played_none : (d : DeviceLists) → Played [] [] d d
played_none d = record {
  table = refl;
  device = refl;
  raises = record { more = []; kept = sym (append-nil d.raises); raised = refl };
  stores = sym (append-nil d.stores);
}

raises_join : (lines lines' : List ℕ) (a b c : List Raise) → GrewByRaises lines a b → GrewByRaises lines' b c → GrewByRaises (lines ++ lines') a c
raises_join lines lines' a b c r s = record {
  more = r.more ++ s.more;
  kept = s.kept ∙ ap (λ xs. xs ++ s.more) r.kept ∙ append_assoc a r.more s.more;
  raised = map-append (λ (x : Raise). x.line) r.more s.more ∙ ap₂ (λ xs ys. xs ++ ys) r.raised s.raised;
}

stores_join : (values values' : List (ℕ × ℕ)) (a b c : List Store) → GrewByStores values a b → GrewByStores values' b c → GrewByStores (values ++ values') a c
stores_join values values' a b c r s =
    s ∙ ap (λ xs. xs ++ map store_in values') r ∙ append_assoc a (map store_in values) (map store_in values')
    ∙ ap (λ xs. a ++ xs) (sym (map-append store_in values values'))

-- one thing after the other
pub played_join : (lines lines' : List ℕ) (values values' : List (ℕ × ℕ)) (a b c : DeviceLists) → Played lines values a b → Played lines' values' b c → Played (lines ++ lines') (values ++ values') a c
played_join lines lines' values values' a b c p q = record {
  table = q.table ∙ p.table;
  device = q.device ∙ p.device;
  raises = raises_join lines lines' a.raises b.raises c.raises p.raises q.raises;
  stores = stores_join values values' a.stores b.stores c.stores p.stores q.stores;
}

-- a raise more
pub played_raise : (count line : ℕ) (joined : Bool) (a b c : DeviceLists) → Played (replicate count line) [] a b
    → (number : ℕ) × (c.raises ≡ b.raises ++ record { line = line; joined = joined; number = number } ∷ [])
    → c.stores ≡ b.stores → c.device ≡ b.device → c.table ≡ b.table → Played (replicate (count + 1) line) [] a c
played_raise count line joined a b c p raised stores device table =
    let one : Played (line ∷ []) [] b c = record {
      table = table;
      device = device;
      raises = record { more = record { line = line; joined = joined; number = raised.0 } ∷ []; kept = raised.1; raised = refl };
      stores = stores ∙ sym (append-nil b.stores);
    } in
    subst (λ lines. Played lines [] a c) (replicate-append-replicate count 1 line) (played_join (replicate count line) (line ∷ []) [] [] a b c p one)

-- a store
pub played_store : (port value : ℕ) (b c : DeviceLists) → c.stores ≡ b.stores ++ record { port = port; value = value } ∷ []
    → c.raises ≡ b.raises → c.device ≡ b.device → c.table ≡ b.table → Played [] ((port, value) ∷ []) b c
played_store port value b c stored raises device table = record {
  table = table;
  device = device;
  raises = record { more = []; kept = raises ∙ sym (append-nil b.raises); raised = refl };
  stores = stored;
}

-- looks change nothing
pub played_same : (b c : DeviceLists) → c ≡ b → Played [] [] b c
played_same b c same = subst (λ (d : DeviceLists). Played [] [] b d) (sym same) (played_none b)

-- so many acts were done
abbrev pub PlayedSome : List Act → ℕ → DeviceLists → DeviceLists → Type 0
PlayedSome acts count before after = Played (raised_by (take count acts)) (stored_by (take count acts)) before after

plays_more : {X : Type 0} (f : Act → List X) (acts : List Act) (count : ℕ) (act : Act) → count < length acts → get_or acts count act ≡ act
    → flat_map f (take count acts) ++ f act ≡ flat_map f (take (count + 1) acts)
plays_more f acts count act below is =
    ap (λ xs. flat_map f (take count acts) ++ xs) (sym (append-nil (f act)))
    ∙ sym (flat_map-append f (take count acts) (act ∷ []))
    ∙ ap (flat_map f) (ap (λ (x : Act). take count acts ++ x ∷ []) (sym is) ∙ sym (take_more acts count act below))

-- an act more
pub played_act : (acts : List Act) (count : ℕ) (act : Act) (a b c : DeviceLists) → count < length acts → get_or acts count act ≡ act
    → PlayedSome acts count a b → Played (lines_of act) (values_of act) b c → PlayedSome acts (count + 1) a c
played_act acts count act a b c below is p q =
    let both = played_join (raised_by (take count acts)) (lines_of act) (stored_by (take count acts)) (values_of act) a b c p q in
    subst (λ lines. Played lines (stored_by (take (count + 1) acts)) a c) (plays_more lines_of acts count act below is)
    (subst (λ values. Played (raised_by (take count acts) ++ lines_of act) values a c) (plays_more values_of acts count act below is) both)
