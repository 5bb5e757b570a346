-- Boxes as a list of boxes, and as the lists of their messages and capacities.
use Rattle.std.proofs.Common.{◌≡◌, ℕ, ◌+◌, ◌<◌, ◌≤◌, ◌++◌, Bool, true, false, List, [], ◌∷◌, ◌⊎◌, inl, inr, if◌then◌else◌, ◌==◌, length, length-set, map, set, get_or, refl, ap, sym, ◌∙◌, Some, suc, zero, Option, option_map, slice_get, drop, arith, take, replicate}
use Rattle.std.proofs.lemmas.List.{map-set, take_all, take_more_same, get_or-set_same, length-map, take-set}
use Rattle.std.proofs.lemmas.Option.{slice_get-map, same_Some, slice_get_read}
use Rattle.tm_kernel.specs.Mailboxes.{Message, MailboxView, boxes_of, put_last, without_first}
use Rattle.tm_services.specs.declared.status.TheConstants.{E_OK, E_OS_LIMIT}

-- what is put where the same stands already
set_same : {X : Type 0} (xs : List X) (i : ℕ) (x : X) → slice_get xs i ≡ Some x → set xs i x ≡ xs
set_same [] i x e = refl
set_same (y ∷ ys) zero x e = ap (λ z. z ∷ ys) (sym (same_Some y x e))
set_same (y ∷ ys) (suc i) x e = ap (λ zs. y ∷ zs) (set_same ys i x e)

-- one box with other messages
pub box_put : (boxes : List MailboxView) (i : ℕ) (old new : MailboxView) → slice_get boxes i ≡ Some old → new.capacity ≡ old.capacity →
    boxes_of (set boxes i new) ≡ record { messages = set (map (λ (b : MailboxView). b.messages) boxes) i new.messages; capacities = map (λ (b : MailboxView). b.capacity) boxes }
box_put boxes i old new there same =
    let at : slice_get (map (λ (b : MailboxView). b.capacity) boxes) i ≡ Some new.capacity =
    slice_get-map (λ (b : MailboxView). b.capacity) boxes i ∙ ap (λ (o : Option MailboxView). option_map (λ (b : MailboxView). b.capacity) o) there ∙ ap Some (sym same) in
    rw (map-set (λ (b : MailboxView). b.messages) boxes i new, map-set (λ (b : MailboxView). b.capacity) boxes i new, set_same (map (λ (b : MailboxView). b.capacity) boxes) i new.capacity at) refl

-- the messages of a box
pub messages_at : (boxes : List MailboxView) (i : ℕ) (b : MailboxView) → slice_get boxes i ≡ Some b →
    slice_get (map (λ (b : MailboxView). b.messages) boxes) i ≡ Some b.messages
messages_at boxes i b there =
    slice_get-map (λ (b : MailboxView). b.messages) boxes i ∙ ap (λ (o : Option MailboxView). option_map (λ (b : MailboxView). b.messages) o) there

pub capacity_at : (boxes : List MailboxView) (i : ℕ) (b : MailboxView) → slice_get boxes i ≡ Some b →
    slice_get (map (λ (b : MailboxView). b.capacity) boxes) i ≡ Some b.capacity
capacity_at boxes i b there =
    slice_get-map (λ (b : MailboxView). b.capacity) boxes i ∙ ap (λ (o : Option MailboxView). option_map (λ (b : MailboxView). b.capacity) o) there

-- a message that is put into a box, where there is room
pub sent_where_room : (boxes : List MailboxView) (i : ℕ) (old new : MailboxView) (m : Message) (room : Bool) (code : ℕ) → i < length boxes →
    old ≡ get_or boxes i old → new ≡ (if room then record old { messages = old.messages ++ m ∷ [] } else old) →
    ((room ≡ true) × (code ≡ E_OK)) ⊎ ((room ≡ false) × (code ≡ E_OS_LIMIT)) →
    boxes_of (set boxes i new) ≡ (if code == E_OK then record (boxes_of boxes) { messages = put_last (boxes_of boxes).messages i m } else boxes_of boxes)
sent_where_room boxes i old new m room code within there is (inl there_is) =
    let at : slice_get boxes i ≡ Some old = slice_get_read boxes (length boxes) i old refl within there in
    let messages = messages_at boxes i old at in
    let pushed : new ≡ record old { messages = old.messages ++ m ∷ [] } = rw there_is.0 at is in
    rw there_is.1 (box_put boxes i old new at (ap (λ (b : MailboxView). b.capacity) pushed) ∙ (rw (messages, pushed) refl))
sent_where_room boxes i old new m room code within there is (inr full) =
    let at : slice_get boxes i ≡ Some old = slice_get_read boxes (length boxes) i old refl within there in
    let same : new ≡ old = rw full.0 at is in
    rw full.1 (ap boxes_of (ap (λ (b : MailboxView). set boxes i b) same ∙ set_same boxes i old at))

-- the first message of a box is taken out
pub received : (boxes : List MailboxView) (i : ℕ) (old new : MailboxView) → i < length boxes → old ≡ get_or boxes i old →
    new ≡ record old { messages = drop 1 old.messages } →
    boxes_of (set boxes i new) ≡ record { messages = without_first (boxes_of boxes).messages i (slice_get (boxes_of boxes).messages i); capacities = (boxes_of boxes).capacities }
received boxes i old new within there is =
    let at : slice_get boxes i ≡ Some old = slice_get_read boxes (length boxes) i old refl within there in
    box_put boxes i old new at (ap (λ (b : MailboxView). b.capacity) is)
    ∙ ap (λ (ms : List (List Message)). record { messages = ms; capacities = (boxes_of boxes).capacities })
    (ap (λ (b : MailboxView). set (boxes_of boxes).messages i b.messages) is ∙ taken old.messages (messages_at boxes i old at))
  where
    taken : (ms : List Message) → slice_get (boxes_of boxes).messages i ≡ Some ms →
        set (boxes_of boxes).messages i (drop 1 ms) ≡ without_first (boxes_of boxes).messages i (slice_get (boxes_of boxes).messages i)
    taken [] e = rw e (set_same (boxes_of boxes).messages i [] e)
    taken (first ∷ rest) e = rw e refl

-- empty boxes
pub empty_boxes_of : (capacities : List ℕ) (boxes : List MailboxView) (n : ℕ) →
    boxes ≡ map (λ (capacity : ℕ). record { messages = []; capacity = capacity }) (take n capacities) → length capacities ≤ n →
    boxes_of boxes ≡ record { messages = replicate (length capacities) []; capacities = capacities }
empty_boxes_of capacities boxes n is all =
    let whole : boxes ≡ map empty_box capacities = is ∙ ap (map empty_box) (take_all n capacities all) in
    ap boxes_of whole ∙ rw (messages capacities, sizes capacities) refl
  where
    empty_box : ℕ → MailboxView
    empty_box capacity = record { messages = []; capacity = capacity }

    messages : (cs : List ℕ) → map (λ (b : MailboxView). b.messages) (map empty_box cs) ≡ replicate (length cs) []
    messages [] = refl
    messages (c ∷ cs) = ap (λ ms. [] ∷ ms) (messages cs)

    sizes : (cs : List ℕ) → map (λ (b : MailboxView). b.capacity) (map empty_box cs) ≡ cs
    sizes [] = refl
    sizes (c ∷ cs) = ap (λ xs. c ∷ xs) (sizes cs)

-- the first boxes are copied, and the capacities are the same
pub record IsCopied (xs ys : List MailboxView) (i : ℕ) : Type 0 where
  pub first : take i xs ≡ take i ys
  pub capacities : map (λ (b : MailboxView). b.capacity) xs ≡ map (λ (b : MailboxView). b.capacity) ys

pub copied_number : (xs ys : List MailboxView) (i : ℕ) → IsCopied xs ys i → length xs ≡ length ys
copied_number xs ys i so =
    sym (length-map xs (λ (b : MailboxView). b.capacity)) ∙ ap length so.capacities ∙ length-map ys (λ (b : MailboxView). b.capacity)

-- the box and its copy have the same capacity
pub copied_capacity : (xs ys : List MailboxView) (i : ℕ) (old new : MailboxView) → IsCopied xs ys i → i < length ys →
    old ≡ get_or xs i old → new ≡ get_or ys i new → old.capacity ≡ new.capacity
copied_capacity xs ys i old new so within there other =
    let number : length xs ≡ length ys = copied_number xs ys i so in
    let x : slice_get xs i ≡ Some old = slice_get_read xs (length xs) i old refl (omega arith) there in
    let y : slice_get ys i ≡ Some new = slice_get_read ys (length ys) i new refl within other in
    same_Some old.capacity new.capacity
    (sym (capacity_at xs i old x) ∙ ap (λ (cs : List ℕ). slice_get cs i) so.capacities ∙ capacity_at ys i new y)

-- one box more
pub copied_more : (xs ys : List MailboxView) (i : ℕ) (new : MailboxView) → IsCopied xs ys i → i < length ys → new ≡ get_or ys i new →
    IsCopied (set xs i new) ys (i + 1)
copied_more xs ys i new so within other =
    let number : length xs ≡ length ys = copied_number xs ys i so in
    let inside : i < length xs = omega arith in
    let y : slice_get ys i ≡ Some new = slice_get_read ys (length ys) i new refl within other in
    let at : slice_get (map (λ (b : MailboxView). b.capacity) xs) i ≡ Some new.capacity =
    ap (λ (cs : List ℕ). slice_get cs i) so.capacities ∙ capacity_at ys i new y in
    record {
      first = take_more_same (set xs i new) ys i new (omega (arith, length-set xs i new)) within
          (take-set xs i new ∙ so.first) (get_or-set_same xs i new new inside ∙ other);
      capacities = map-set (λ (b : MailboxView). b.capacity) xs i new
          ∙ set_same (map (λ (b : MailboxView). b.capacity) xs) i new.capacity at ∙ so.capacities;
    }

-- all boxes are copied
pub copied_all : (xs ys : List MailboxView) (i : ℕ) → IsCopied xs ys i → length ys ≤ i → xs ≡ ys
copied_all xs ys i so past =
    let number : length xs ≡ length ys = copied_number xs ys i so in
    sym (take_all i xs (omega arith)) ∙ so.first ∙ take_all i ys past
