-- What a seat keeps, after a step.
use Rattle.std.proofs.Common.{◌≡◌, ◌≢◌, ℕ, zero, suc, replicate, ◌+◌, ◌<◌, ◌/◌, ◌^◌, Bool, true, false, cond, map, List, [], ◌∷◌, ◌++◌, length, get_or, count_by, sum_by, sym, refl, ap, ◌∙◌, subst, arith, ◌≤◌, length-append}
use Rattle.std.specs.Prelude.{bit_and, ◌&&◌, ◌==◌}
use Rattle.std.proofs.lemmas.Bool.Decides.{nat_tests}
use Rattle.std.proofs.lemmas.List.Sums.{sum_by_push, sum_by-cons, sum_by-append}
use Rattle.std.specs.List.{range_with_len}
use Rattle.std.specs.Int.{bit_at}
use Rattle.std.proofs.lemmas.Nat.Bits.{bit_at-lt, shr_and_one}
use mathlib.Core.Option.{none}
use Rattle.atomic_table.specs.Table.{Me, step}
use Rattle.atomic_table.specs.Seated.{TableId}
use Rattle.tm_irq.specs.declared.views.Raise.{Raise}
use Rattle.tm_irq.specs.declared.views.Store.{Store}
use Rattle.tm_irq.specs.declared.views.Deeds.{Deeds}
use Rattle.tm_irq.specs.declared.views.View.{View}
use Rattle.tm_irq.specs.Views.{with_raise, with_store, glance_of, with_glance, no_deeds, kernel_view, homes, without_first, other_deeds, with_home}
use Rattle.tm_irq.specs.Steps.{raise_of, store_of, Raises, Sets}
use Rattle.tm_irq.proofs.Bits.{same_line}
use Rattle.tm_irq.specs.Lists.{Token, DeviceLists, device_lists, only}
use Rattle.tm_irq.specs.Tallies.{capped, IsTally, Gains, one_line, raises_on, joins_on, takes_on}
use Rattle.tm_irq.specs.Seats.{IsDeviceSeat, IsKernelSeat}

abbrev Mine : Type 0
Mine = Me (Unit {0}) View

capped_more : (old f m g : ℕ) → old ≡ capped f → g ≡ f + m → capped (old + m) ≡ capped g
capped_more old f m g e h = omega arith

-- counts that grew are those of more
pub tally_gains : (old new : List ℕ) (f more g : ℕ → ℕ) → IsTally old f → Gains old new more → ((line : ℕ) → g line ≡ f line + more line) → IsTally new g
tally_gains old new f more g t gains sum = record {
  sixteen = gains.sixteen t.sixteen;
  each = λ line within. gains.each line within ∙ capped_more (get_or old line 0) (f line) (more line) (g line) (t.each line within) (sum line);
}

-- a step that leaves the view
pub device_still : (table : TableId) (seat new : Token) (raised joined : List ℕ) → new.table_id ≡ seat.table_id → new.me ≡ seat.me → IsDeviceSeat table seat raised joined → IsDeviceSeat table new raised joined
device_still table seat new raised joined t me i = record {
  fits = t ∙ i.fits;
  five = i.five;
  bare = ap (λ (m : Mine). m.1) me ∙ i.bare;
  kernel = ap (λ (m : Mine). m.0.kernel) me ∙ i.kernel;
  single = subst (λ (m : Mine). m.0.deeds ≡ only m.0.deeds ∷ []) (sym me) i.single;
  raises = subst (λ (m : Mine). IsTally raised (λ line. raises_on line (only m.0.deeds))) (sym me) i.raises;
  joins = subst (λ (m : Mine). IsTally joined (λ line. joins_on line (only m.0.deeds))) (sym me) i.joins;
}

pub tally_same : (counts : List ℕ) (f g : ℕ → ℕ) → IsTally counts f → ((line : ℕ) → g line ≡ f line) → IsTally counts g
tally_same counts f g t same = record { sixteen = t.sixteen; each = λ line within. t.each line within ∙ ap capped (sym (same line)) }

-- a raise more, in the deeds of one device
module _ (deeds : List Deeds) (single : deeds ≡ only deeds ∷ []) (r : Raise) where
  abbrev after : List Deeds
  after = map (λ (d : Deeds). record d { raises = d.raises ++ r ∷ [] }) deeds

  pub raised_list : (only after).raises ≡ (only deeds).raises ++ r ∷ []
  raised_list = let P : List Deeds → Type 0 = λ ds. (only (map (λ (d : Deeds). record d { raises = d.raises ++ r ∷ [] }) ds)).raises ≡ (only deeds).raises ++ r ∷ [] in subst P (sym single) refl

  pub raised_count : (p : Raise → Bool) → count_by p (only after).raises ≡ count_by p (only deeds).raises + cond (p r) 1 0
  raised_count p = ap (count_by p) raised_list ∙ sum_by_push (λ (x : Raise). cond (p x) 1 0) (only deeds).raises r

  pub raised_single : after ≡ only after ∷ []
  raised_single = let P : List Deeds → Type 0 = λ ds. map (λ (d : Deeds). record d { raises = d.raises ++ r ∷ [] }) ds ≡ only (map (λ (d : Deeds). record d { raises = d.raises ++ r ∷ [] }) ds) ∷ [] in subst P (sym single) refl

line_counts : (line l : ℕ) → cond {A = ℕ} (line == l) 1 0 ≡ one_line line l
line_counts line l = grind (arith, nat_tests)

joined_counts : (line l : ℕ) (t : Bool) → t ≡ true → cond {A = ℕ} ((line == l) && t) 1 0 ≡ one_line line l
joined_counts line l t is = grind (arith, nat_tests)

fresh_counts : (line l : ℕ) (t : Bool) → t ≡ false → cond {A = ℕ} ((line == l) && t) 1 0 ≡ 0
fresh_counts line l t is = grind (arith, nat_tests)

-- a raise at a device's seat: fresh where no more joined raise is counted
module _ (table : TableId) (seat new : Token) (raised raised' joined joined' : List ℕ) (line found : ℕ) (i : IsDeviceSeat table seat raised joined)
    (t : new.table_id ≡ seat.table_id) (me : new.me ≡ (with_raise (raise_of line found) seat.me.0, seat.me.1)) (more : Gains raised raised' (one_line line)) where
  abbrev deeds : List Deeds
  deeds = seat.me.0.deeds

  abbrev entry : Raise
  entry = raise_of line found

  raised_seat : IsTally joined' (λ l. joins_on l (only deeds) + cond ((line == l) && entry.joined) 1 0) → IsDeviceSeat table new raised' joined'
  raised_seat joins = record {
    fits = t ∙ i.fits;
    five = i.five;
    bare = ap (λ (m : Mine). m.1) me ∙ i.bare;
    kernel = ap (λ (m : Mine). m.0.kernel) me ∙ i.kernel;
    single = subst (λ (m : Mine). m.0.deeds ≡ only m.0.deeds ∷ []) (sym me) (raised_single deeds i.single entry);
    raises = subst (λ (m : Mine). IsTally raised' (λ l. raises_on l (only m.0.deeds))) (sym me)
        (tally_gains raised raised' (λ l. raises_on l (only deeds)) (one_line line) _ i.raises more (λ l. raised_count deeds i.single entry (λ r. r.line == l) ∙ ap (λ n. raises_on l (only deeds) + n) (line_counts line l)));
    joins = subst (λ (m : Mine). IsTally joined' (λ l. joins_on l (only m.0.deeds))) (sym me)
        (tally_same joined' _ _ joins (λ l. raised_count deeds i.single entry (λ r. (r.line == l) && r.joined)));
  }

  pub fresh_seat : joined' ≡ joined → entry.joined ≡ false → IsDeviceSeat table new raised' joined'
  fresh_seat same not = raised_seat (subst (λ c. IsTally c (λ l. joins_on l (only deeds) + cond ((line == l) && entry.joined) 1 0)) (sym same)
      (tally_same joined _ _ i.joins (λ l. omega (arith, fresh_counts line l entry.joined not))))

  pub joined_seat : Gains joined joined' (one_line line) → entry.joined ≡ true → IsDeviceSeat table new raised' joined'
  joined_seat gains is = raised_seat (tally_gains joined joined' (λ l. joins_on l (only deeds)) (one_line line) _ i.joins gains (λ l. ap (λ n. joins_on l (only deeds) + n) (joined_counts line l entry.joined is)))

  -- what the raise adds to the list
  pub raise_added : (old : DeviceLists) → device_lists seat ≡ old → (answer : Bool) → entry.joined ≡ answer
      → (number : ℕ) × ((only new.me.0.deeds).raises ≡ old.raises ++ record { line = line; joined = answer; number = number } ∷ [])
  raise_added old view answer is = (
    found / 65536,
    ap (λ (m : Mine). (only m.0.deeds).raises) me ∙ raised_list deeds i.single entry ∙ ap (λ (b : Bool). (only deeds).raises ++ record { line = line; joined = b; number = found / 65536 } ∷ []) is
        ∙ ap (λ (d : DeviceLists). d.raises ++ record { line = line; joined = answer; number = found / 65536 } ∷ []) view,
  )

-- the line is the one that was asked for
pub raise_line : (line bit found : ℕ) (v w : Mine) → bit ≡ 2 ^ line → Raises (step 0 0 bit 0 none) v found w → w ≡ (with_raise (raise_of line found) v.0, v.1)
raise_line line bit found v w is told = told.2 ∙ ap (λ l. (with_raise (raise_of l found) v.0, v.1)) (same_line told.0 line (sym told.1 ∙ is))

-- the test of the bit
pub bit_clear : (found line : ℕ) → bit_and (found / 2 ^ line) 1 ≡ 0 → (bit_at found line == 1) ≡ false
bit_clear found line clear = ap (λ n. n == 1) (sym (shr_and_one found line) ∙ clear)

pub bit_set : (found line : ℕ) → bit_and (found / 2 ^ line) 1 ≢ 0 → (bit_at found line == 1) ≡ true
bit_set found line set = let one : bit_at found line ≡ 1 = omega (arith, bit_at-lt found line, shr_and_one found line, set) in ap (λ n. n == 1) one

-- the kernel's seat after a step, from its view after it
module _ (table : TableId) (seat new : Token) (w : View) (number number' : ℕ) (raised joined taken raised' joined' taken' : List ℕ) (i : IsKernelSeat table seat number raised joined taken)
    (t : new.table_id ≡ seat.table_id) (me : new.me ≡ (w, seat.me.1)) where
  pub kernel_seat : w.kernel ≡ true → w.latching ≡ [] → number' ≡ length w.takes → number' ≤ 2 ^ 47 → IsTally raised' (λ l. sum_by (raises_on l) w.deeds)
      → IsTally joined' (λ l. sum_by (joins_on l) w.deeds) → IsTally taken' (takes_on w.takes) → IsKernelSeat table new number' raised' joined' taken'
  kernel_seat kernel latching numbered few raises joins takes = record {
    fits = t ∙ i.fits;
    five = i.five;
    bare = ap (λ (m : Mine). m.1) me ∙ i.bare;
    kernel = ap (λ (m : Mine). m.0.kernel) me ∙ kernel;
    latching = ap (λ (m : Mine). m.0.latching) me ∙ latching;
    numbered = numbered ∙ ap (λ (m : Mine). length m.0.takes) (sym me);
    few = few;
    raises = subst (λ (m : Mine). IsTally raised' (λ l. sum_by (raises_on l) m.0.deeds)) (sym me) raises;
    joins = subst (λ (m : Mine). IsTally joined' (λ l. sum_by (joins_on l) m.0.deeds)) (sym me) joins;
    takes = subst (λ (m : Mine). IsTally taken' (takes_on m.0.takes)) (sym me) takes;
  }

-- after a take
pub taken_seat : (table : TableId) (seat new : Token) (number mask : ℕ) (raised joined taken taken' : List ℕ) → IsKernelSeat table seat number raised joined taken → new.table_id ≡ seat.table_id
    → new.me ≡ (record seat.me.0 { takes = seat.me.0.takes ++ mask ∷ [] }, seat.me.1) → length seat.me.0.takes < 2 ^ 47 → Gains taken taken' (λ line. bit_at mask line) → IsKernelSeat table new (number + 1) raised joined taken'
taken_seat table seat new number mask raised joined taken taken' i t me few more =
    let numbered = i.numbered in
    kernel_seat table seat new (record seat.me.0 { takes = seat.me.0.takes ++ mask ∷ [] }) number (number + 1) raised joined taken raised joined taken' i t me i.kernel i.latching
    (omega (arith, length-append seat.me.0.takes (mask ∷ []))) (omega arith) i.raises i.joins
    (tally_gains taken taken' (takes_on seat.me.0.takes) (λ line. bit_at mask line) (takes_on (seat.me.0.takes ++ mask ∷ [])) i.takes more (λ l. sum_by_push (λ m. bit_at m l) seat.me.0.takes mask))

-- a store more, in the deeds of one device
module _ (deeds : List Deeds) (single : deeds ≡ only deeds ∷ []) (s : Store) where
  abbrev put : List Deeds → List Deeds
  put ds = map (λ (d : Deeds). record d { stores = d.stores ++ s ∷ [] }) ds

  pub stored_raises : (only (put deeds)).raises ≡ (only deeds).raises
  stored_raises = let P : List Deeds → Type 0 = λ ds. (only (put ds)).raises ≡ (only ds).raises in subst P (sym single) refl

  pub stored_single : put deeds ≡ only (put deeds) ∷ []
  stored_single = let P : List Deeds → Type 0 = λ ds. put ds ≡ only (put ds) ∷ [] in subst P (sym single) refl

-- after a set
pub set_seat : (table : TableId) (seat new : Token) (raised joined : List ℕ) (s : Store) → IsDeviceSeat table seat raised joined → new.table_id ≡ seat.table_id → new.me ≡ (with_store s seat.me.0, seat.me.1) → IsDeviceSeat table new raised joined
set_seat table seat new raised joined s i t me = record {
  fits = t ∙ i.fits;
  five = i.five;
  bare = ap (λ (m : Mine). m.1) me ∙ i.bare;
  kernel = ap (λ (m : Mine). m.0.kernel) me ∙ i.kernel;
  single = subst (λ (m : Mine). m.0.deeds ≡ only m.0.deeds ∷ []) (sym me) (stored_single seat.me.0.deeds i.single s);
  raises = subst (λ (m : Mine). IsTally raised (λ l. raises_on l (only m.0.deeds))) (sym me) (tally_same raised _ _ i.raises (λ l. ap (count_by (λ (r : Raise). r.line == l)) (stored_raises seat.me.0.deeds i.single s)));
  joins = subst (λ (m : Mine). IsTally joined (λ l. joins_on l (only m.0.deeds))) (sym me) (tally_same joined _ _ i.joins (λ l. ap (count_by (λ (r : Raise). (r.line == l) && r.joined)) (stored_raises seat.me.0.deeds i.single s)));
}

pub set_me : (port word value : ℕ) (v w : Mine) → word ≡ port + 1 → Sets (step 0 word value 0 none) v value w → (stored : ℕ) → value ≡ stored → w ≡ (with_store (store_of port stored) v.0, v.1)
set_me port word value v w is told stored same =
    let p : told.0 ≡ port = let e = told.1 in omega arith in
    told.2 ∙ ap (λ k. (with_store (store_of k value) v.0, v.1)) p ∙ ap (λ k. (with_store (store_of port k) v.0, v.1)) same

-- a glance more, in the deeds of one device
module _ (deeds : List Deeds) (single : deeds ≡ only deeds ∷ []) (mask number : ℕ) where
  abbrev looked : List Deeds → List Deeds
  looked ds = map (λ (d : Deeds). record d { glances = d.glances ++ glance_of mask number d ∷ [] }) ds

  pub glanced_raises : (only (looked deeds)).raises ≡ (only deeds).raises
  glanced_raises = let P : List Deeds → Type 0 = λ ds. (only (looked ds)).raises ≡ (only ds).raises in subst P (sym single) refl

  pub glanced_single : looked deeds ≡ only (looked deeds) ∷ []
  glanced_single = let P : List Deeds → Type 0 = λ ds. looked ds ≡ only (looked ds) ∷ [] in subst P (sym single) refl

  pub glanced_list : (only (looked deeds)).glances ≡ (only deeds).glances ++ record { mask = mask; number = number; before = (only deeds).raises } ∷ []
  glanced_list = let P : List Deeds → Type 0 = λ ds. (only (looked ds)).glances ≡ (only ds).glances ++ record { mask = mask; number = number; before = (only ds).raises } ∷ [] in subst P (sym single) refl

-- after a glance
module _ (table : TableId) (seat new : Token) (raised joined : List ℕ) (mask number : ℕ) (i : IsDeviceSeat table seat raised joined) (t : new.table_id ≡ seat.table_id) (me : new.me ≡ (with_glance mask number seat.me.0, seat.me.1)) where
  pub glanced_seat : IsDeviceSeat table new raised joined
  glanced_seat = record {
    fits = t ∙ i.fits;
    five = i.five;
    bare = ap (λ (m : Mine). m.1) me ∙ i.bare;
    kernel = ap (λ (m : Mine). m.0.kernel) me ∙ i.kernel;
    single = subst (λ (m : Mine). m.0.deeds ≡ only m.0.deeds ∷ []) (sym me) (glanced_single seat.me.0.deeds i.single mask number);
    raises = subst (λ (m : Mine). IsTally raised (λ l. raises_on l (only m.0.deeds))) (sym me) (tally_same raised _ _ i.raises (λ l. ap (count_by (λ (r : Raise). r.line == l)) (glanced_raises seat.me.0.deeds i.single mask number)));
    joins = subst (λ (m : Mine). IsTally joined (λ l. joins_on l (only m.0.deeds))) (sym me) (tally_same joined _ _ i.joins (λ l. ap (count_by (λ (r : Raise). (r.line == l) && r.joined)) (glanced_raises seat.me.0.deeds i.single mask number)));
  }

  -- what the glance adds to the list
  pub glance_added : (old : DeviceLists) → device_lists seat ≡ old → (answer : ℕ) → mask ≡ answer
      → (n : ℕ) × ((only new.me.0.deeds).glances ≡ old.glances ++ record { mask = answer; number = n; before = old.raises } ∷ [])
  glance_added old view answer is = (
    number,
    ap (λ (m : Mine). (only m.0.deeds).glances) me ∙ glanced_list seat.me.0.deeds i.single mask number
        ∙ ap (λ k. (only seat.me.0.deeds).glances ++ record { mask = k; number = number; before = (only seat.me.0.deeds).raises } ∷ []) is
        ∙ ap (λ (d : DeviceLists). d.glances ++ record { mask = answer; number = number; before = d.raises } ∷ []) view,
  )

-- nothing is counted yet
zeros : (n i : ℕ) → get_or {A = ℕ} (replicate n 0) i 0 ≡ 0
zeros zero i = refl
zeros (suc n) zero = refl
zeros (suc n) (suc i) = zeros n i

pub tally_none : (counts : List ℕ) (f : ℕ → ℕ) → counts ≡ replicate 16 0 → ((line : ℕ) → f line ≡ 0) → IsTally counts f
tally_none counts f is idle_is = subst (λ c. IsTally c f) (sym is) record { sixteen = refl; each = λ line within. zeros 16 line ∙ sym (ap capped (idle_is line)) }

capped_sum : (old add f g h : ℕ) → old ≡ capped f → add ≡ capped g → h ≡ f + g → capped (old + add) ≡ capped h
capped_sum old add f g h e d s = omega arith

-- two tallies are added
pub tally_sum : (old new add : List ℕ) (f g h : ℕ → ℕ) → IsTally old f → IsTally add g → Gains old new (λ line. get_or add line 0) → ((line : ℕ) → h line ≡ f line + g line) → IsTally new h
tally_sum old new add f g h t u gains sum = record {
  sixteen = gains.sixteen t.sixteen;
  each = λ line within. gains.each line within ∙ capped_sum (get_or old line 0) (get_or add line 0) (f line) (g line) (h line) (t.each line within) (u.each line within) (sum line);
}

none_of : (f : Deeds → ℕ) → ((d : ℕ) → f (no_deeds d) ≡ 0) → (ns : List ℕ) → sum_by f (map no_deeds ns) ≡ 0
none_of f idle_is [] = refl
none_of f idle_is (n ∷ ns) = omega (arith, sum_by-cons f (no_deeds n) (map no_deeds ns), idle_is n, none_of f idle_is ns)

-- the kernel's seat of a new table
pub new_seat : (table : TableId) (seat : Token) (devices : ℕ) (raised joined taken : List ℕ) → seat.table_id ≡ table → table.words ≡ 5 → seat.me ≡ (kernel_view devices (homes devices), [])
    → raised ≡ replicate 16 0 → joined ≡ replicate 16 0 → taken ≡ replicate 16 0 → IsKernelSeat table seat 0 raised joined taken
new_seat table seat devices raised joined taken t five me r j k = record {
  fits = t;
  five = five;
  bare = ap (λ (m : Mine). m.1) me;
  kernel = ap (λ (m : Mine). m.0.kernel) me;
  latching = ap (λ (m : Mine). m.0.latching) me;
  numbered = ap (λ (m : Mine). length m.0.takes) (sym me);
  few = omega arith;
  raises = tally_none raised _ r (λ l. ap (λ (m : Mine). sum_by (raises_on l) m.0.deeds) me ∙ none_of (raises_on l) (λ d. refl) (range_with_len 0 devices));
  joins = tally_none joined _ j (λ l. ap (λ (m : Mine). sum_by (joins_on l) m.0.deeds) me ∙ none_of (joins_on l) (λ d. refl) (range_with_len 0 devices));
  takes = tally_none taken _ k (λ l. ap (λ (m : Mine). takes_on m.0.takes l) me);
}

-- a split leaves the counts, since the device did nothing
module _ (table : TableId) (seat new : Token) (number : ℕ) (raised joined taken : List ℕ) (i : IsKernelSeat table seat number raised joined taken) (t : new.table_id ≡ seat.table_id) (device : ℕ) (rest : List Deeds)
    (starts : seat.me.0.deeds ≡ no_deeds device ∷ rest) where
  pub split_seat : new.me ≡ (without_first seat.me.0, seat.me.1) → IsKernelSeat table new number raised joined taken
  split_seat me =
      let others : other_deeds seat.me.0.deeds ≡ rest = ap other_deeds starts in
      let same : (f : Deeds → ℕ) → f (no_deeds device) ≡ 0 → sum_by f (other_deeds seat.me.0.deeds) ≡ sum_by f seat.me.0.deeds = λ f idle_is. ap (sum_by f) others ∙ omega (arith, sum_by-cons f (no_deeds device) rest, idle_is) ∙ sym (ap (sum_by f) starts) in
      kernel_seat table seat new (without_first seat.me.0) number number raised joined taken raised joined taken i t me i.kernel i.latching i.numbered i.few
      (tally_same raised _ _ i.raises (λ l. same (raises_on l) refl)) (tally_same joined _ _ i.joins (λ l. same (joins_on l) refl)) i.takes

-- a device that comes home brings its counts
pub home_seat : (table other : TableId) (seat new device : Token) (number : ℕ) (raised joined taken raised' joined' more more' : List ℕ) → IsKernelSeat table seat number raised joined taken → IsDeviceSeat other device more more'
    → new.table_id ≡ seat.table_id → new.me ≡ (with_home seat.me.0 device.me.0, seat.me.1) → Gains raised raised' (λ l. get_or more l 0) → Gains joined joined' (λ l. get_or more' l 0) → IsKernelSeat table new number raised' joined' taken
home_seat table other seat new device number raised joined taken raised' joined' more more' i d t me gains gains' =
    let sums : (f : Deeds → ℕ) → sum_by f (device.me.0.deeds ++ seat.me.0.deeds) ≡ sum_by f seat.me.0.deeds + f (only device.me.0.deeds) = λ f.
    let one : sum_by f device.me.0.deeds ≡ f (only device.me.0.deeds) = ap (sum_by f) d.single ∙ omega arith in
    omega (arith, sum_by-append f device.me.0.deeds seat.me.0.deeds, one) in
    kernel_seat table seat new (with_home seat.me.0 device.me.0) number number raised joined taken raised' joined' taken i t me i.kernel i.latching i.numbered i.few
    (tally_sum raised raised' more (λ l. sum_by (raises_on l) seat.me.0.deeds) (λ l. raises_on l (only device.me.0.deeds)) _ i.raises d.raises gains (λ l. sums (raises_on l)))
    (tally_sum joined joined' more' (λ l. sum_by (joins_on l) seat.me.0.deeds) (λ l. joins_on l (only device.me.0.deeds)) _ i.joins d.joins gains' (λ l. sums (joins_on l)))
    i.takes

-- a step that leaves the view of the kernel's seat
pub kernel_still : (table : TableId) (seat new : Token) (number : ℕ) (raised joined taken : List ℕ) → new.table_id ≡ seat.table_id → new.me ≡ seat.me → IsKernelSeat table seat number raised joined taken → IsKernelSeat table new number raised joined taken
kernel_still table seat new number raised joined taken t me i =
    kernel_seat table seat new seat.me.0 number number raised joined taken raised joined taken i t me i.kernel i.latching i.numbered i.few i.raises i.joins i.takes
