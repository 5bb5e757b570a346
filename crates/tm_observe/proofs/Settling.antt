-- What the observers of a run end with.
use Rattle.std.proofs.Common.{◌≡◌, ◌⊎◌, ℕ, ◌+◌, ◌<◌, ◌≤◌, ◌≢◌, suc, Bool, false, List, [], ◌∷◌, ◌++◌, map, length, take, get_or, All, Contains, inl, inr, refl, sym, ap, ap₂, ◌∙◌, subst, arith, get_or-set_other, get_or-set_same}
use Rattle.std.specs.Prelude.{Result, Ok, Err, IfOk}
use Rattle.std.specs.List.{AllZip}
use Rattle.std.proofs.Math.ListN.{set, length-set}
use Rattle.std.proofs.lemmas.Bool.{cases_lt}
use Rattle.std.proofs.lemmas.List.{get_or_default, take_more}
use Rattle.std.proofs.lemmas.List.Elements.{All-nil, All-cons, All-contains}
use mathlib.Core.List.{IsPrefix}
use Rattle.tm_marker.specs.declared.entries.Slice.{Slice}
use Rattle.tm_image.specs.Image.{ImageView}
use Rattle.tm_watch.specs.Views.{Watched, Observed}
use Rattle.tm_watch.specs.Dumps.{dump_of}
use Rattle.tm_watch.proofs.Prefixes.{prefix_self, prefix_whole}
use Rattle.tm_observe.specs.Lookers.{LookerView, Looked, AllLooked, IsShown, IsVersion, with_told, AllTold}

-- of two lists of which one begins the other, the first begins the second where it is no longer
pub begins_where_shorter : {A : Type 0} (xs ys : List A) → IsPrefix xs ys ⊎ IsPrefix ys xs → length xs ≤ length ys → IsPrefix xs ys
begins_where_shorter xs ys (inl p) le = p
begins_where_shorter {A} xs ys (inr p) le = subst (λ (zs : List A). IsPrefix xs zs) (sym (prefix_whole ys xs p le)) (prefix_self xs)

-- what a list that was told begins, and is no longer than it, is that list
pub whole_where_told : {A : Type 0} (told : List (List A)) (list seen : List A) → Contains told list → All (λ xs. IsPrefix xs seen) told → length seen ≤ length list → seen ≡ list
whole_where_told {A} told list seen there all le = sym (prefix_whole list seen (All-contains (λ (xs : List A). IsPrefix xs seen) told list all there) le)

-- an observer that saw more than the list gives the dump of the list
pub whole_version : {V E : Type 0} (bytes : V → List ℕ) (image image' : ImageView) (list list' : List Slice) (looker : LookerView) → image' ≡ image → list' ≡ list
    → looker.starved ≡ false → length list < length looker.observer.seen → (r : Result V E) → IfOk r (λ v. bytes v ≡ dump_of image' list') → IfOk r (λ v. IsVersion image list looker (bytes v))
whole_version bytes image image' list list' looker i l fed past (Ok v) is = record {
  fed = fed;
  beginning = list;
  begins = prefix_self list;
  dump = is ∙ ap₂ dump_of i l;
  own = λ within. absurd (omega (arith, within, past));
}
whole_version bytes image image' list list' looker i l fed past (Err e) is = tt

-- an observer that saw no more than the list gives its own bytes
pub own_version : (image : ImageView) (list : List Slice) (looker : LookerView) (bytes : List ℕ) → looker.starved ≡ false → length looker.observer.seen ≤ length list
    → IsPrefix looker.observer.seen list ⊎ IsPrefix list looker.observer.seen → looker.version ≡ dump_of image looker.observer.seen → bytes ≡ looker.version → IsVersion image list looker bytes
own_version image list looker bytes fed within one shown is = record {
  fed = fed;
  beginning = looker.observer.seen;
  begins = begins_where_shorter looker.observer.seen list one within;
  dump = is ∙ shown;
  own = λ _. is;
}

-- the beginnings that versions are dumps of
pub record Dumped (image : ImageView) (list : List Slice) (count : ℕ) (dumps : List (List ℕ)) : Type 0 where
  pub seen : List (List Slice)
  pub number : length seen ≡ count
  pub prefixes : All (λ s. IsPrefix s list) seen
  pub are : dumps ≡ map (dump_of image) seen

pub dumped : {V : Type 0} (bytes : V → List ℕ) (image : ImageView) (list : List Slice) (lookers : List LookerView) (vs : List V)
    → AllZip (λ looker v. IsVersion image list looker (bytes v)) lookers vs → Dumped image list (length lookers) (map bytes vs)
dumped bytes image list [] [] each = record { seen = []; number = refl; prefixes = All-nil (λ s. IsPrefix s list); are = refl }
dumped bytes image list [] (v ∷ vs) each = absurd each
dumped bytes image list (looker ∷ lookers) [] each = absurd each
dumped bytes image list (looker ∷ lookers) (v ∷ vs) each =
    let first = each.0 in
    let rest = dumped bytes image list lookers vs each.1 in record {
      seen = first.beginning ∷ rest.seen;
      number = ap suc rest.number;
      prefixes = All-cons (λ s. IsPrefix s list) first.beginning rest.seen first.begins rest.prefixes;
      are = ap₂ (λ x xs. x ∷ xs) first.dump rest.are;
    }

each_push : {A B : Type 0} (R : A → B → Type 0) (xs : List A) (ys : List B) (x : A) (y : B) → AllZip R xs ys → R x y → AllZip R (xs ++ x ∷ []) (ys ++ y ∷ [])
each_push R [] [] x y all r = (r, tt)
each_push R [] (y' ∷ ys) x y all r = absurd all
each_push R (x' ∷ xs) [] x y all r = absurd all
each_push R (x' ∷ xs) (y' ∷ ys) x y all r = (all.0, each_push R xs ys x y all.1 r)

-- what holds of each pair so far, and of one pair more
pub each_more : {A B : Type 0} (R : A → B → Type 0) (xs : List A) (ys : List B) (i : ℕ) (d x : A) (y : B) → i < length xs → x ≡ get_or xs i d → AllZip R (take i xs) ys → R x y
    → AllZip R (take (i + 1) xs) (ys ++ y ∷ [])
each_more {A} {B} R xs ys i d x y there is all r =
    subst (λ (zs : List A). AllZip R zs (ys ++ y ∷ [])) (ap (λ (z : A). take i xs ++ z ∷ []) is ∙ sym (take_more xs i d there)) (each_push R (take i xs) ys x y all r)

-- the first observers were told of a list, and the others are as before
pub record ToldSome (count : ℕ) (list : List Slice) (before after : List LookerView) : Type 0 where
  pub number : length after ≡ length before
  pub told : (k : ℕ) (d : LookerView) → k < count → k < length before → (get_or after k d).observer ≡ with_told (get_or before k d).observer list
  pub rest : (k : ℕ) (d : LookerView) → count ≤ k → k < length before → get_or after k d ≡ get_or before k d

pub told_none : (list : List Slice) (lookers : List LookerView) → ToldSome 0 list lookers lookers
told_none list lookers = record {
  number = refl;
  told = λ k d below there. absurd (omega (arith, below));
  rest = λ k d beyond there. refl;
}

-- one observer more was told
pub told_more : (count : ℕ) (list : List Slice) (before after : List LookerView) (e looker : LookerView) → count < length after
    → looker.observer ≡ with_told (get_or after count e).observer list → ToldSome count list before after → ToldSome (count + 1) list before (set after count looker)
told_more count list before after e looker there learnt some = record {
  number = length-set after count looker ∙ some.number;
  told = λ k d below within.
      elim (cases_lt k count) [
        | inl less ↦ let apart : k ≢ count = omega arith in ap (λ (l : LookerView). l.observer) (get_or-set_other after count k looker d apart) ∙ some.told k d less within
        | inr beyond ↦
            let same : k ≡ count = omega arith in
            let old : get_or after count e ≡ get_or before count d = get_or_default after count e d there ∙ some.rest count d (omega arith) (omega (arith, some.number)) in
            let new : (get_or (set after count looker) count d).observer ≡ with_told (get_or before count d).observer list =
            ap (λ (l : LookerView). l.observer) (get_or-set_same after count looker d there) ∙ learnt ∙ ap (λ (l : LookerView). with_told l.observer list) old in
            subst (λ (n : ℕ). (get_or (set after count looker) n d).observer ≡ with_told (get_or before n d).observer list) (sym same) new
      ];
  rest = λ k d beyond within.
      let apart : k ≢ count = omega arith in get_or-set_other after count k looker d apart ∙ some.rest k d (omega arith) within;
}

pub told_all : (count : ℕ) (list : List Slice) (before after : List LookerView) → length before ≤ count → ToldSome count list before after → AllTold list before after
told_all count list before after whole some = record {
  number = some.number;
  each = λ k d there. some.told k d (omega (arith, whole, there)) there;
}

-- after looks beside a run, each observer of the watch has the dump of what it saw
pub shown_after : (looks : ℕ) (watch : Watched) (before after : List LookerView) → 0 < looks → All (λ l. (l.observer.book ≡ watch.book) × (l.observer.image ≡ watch.image)) before
    → AllLooked looks before after → All (IsShown watch) after
shown_after looks watch before after some all looked k d there =
    let within : k < length before = omega (arith, there, looked.number) in
    let one = looked.each k d within in
    let was = all k d within in record {
      book = one.book ∙ was.0;
      image = one.image ∙ was.1;
      version = λ fed. one.version some fed ∙ ap (λ (image : ImageView). dump_of image (get_or after k d).observer.seen) was.1;
    }
