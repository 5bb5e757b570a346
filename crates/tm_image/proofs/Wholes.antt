-- What is read to its end is an image.
use Rattle.std.proofs.Common.{◌≡◌, ℕ, ◌<◌, Bool, true, false, ◌||◌, List, length, map, Ok, Err, refl, sym, subst, arith, eqb, set, if◌then◌else◌}
use Rattle.std.specs.List.{list_any}
use Rattle.std.proofs.lemmas.Bool.{eqb-false}
use Rattle.std.proofs.lemmas.Bool.Decides.{nat_tests}
use Rattle.std.proofs.lemmas.List.{length-map, length-set, map-set}
use Rattle.std.proofs.lemmas.List.Elements.{All-map, All-set, All-weaker}
use Rattle.tm_marker.specs.Shape.{IsWordCount, IsShape}
use Rattle.tm_lines.specs.declared.fault.Reason.TheVariants.{Range, Missing}
use Rattle.tm_lines.specs.Steps.{◌>>=◌, on_line}
use Rattle.tm_rv.specs.declared.instr.Set.{Set}
use Rattle.tm_lines.specs.Lines.{pieces, lines_on}
use Rattle.tm_image.specs.Load.{Load, has_no_text, is_outside}
use Rattle.tm_image.specs.Draft.{Draft, empty_draft, image_line, whole}
use Rattle.tm_image.specs.Image.{ImageView, IsLoad, IsImage, replaced, shape_of, Below, below, draft_of, image_with}
use Rattle.tm_lines.proofs.Steps.{bound, on_line_gave, both_not}
use Rattle.tm_lines.proofs.Keeping.{lines_keep}
use Rattle.tm_image.proofs.Sets.{HasSet, own_set, lines_have}
use Rattle.tm_image.proofs.Kept.{IsLoadSoFar, IsSoFar, any_false, line_keeps, none_so_far}

-- a whole draft passed both tests
pub whole_passed : (missing outside : Bool) (d t : Draft)
    → (if missing then Err Missing else (if outside then Err Range else Ok d)) ≡ Ok t
    → (missing ≡ false) × (outside ≡ false) × (d ≡ t)
whole_passed true outside d t e = cc e
whole_passed false true d t e = cc e
whole_passed false false d t e = (refl, refl, cc e)

load_is : (load : Load) → IsLoadSoFar load → has_no_text load ≡ false → is_outside load ≡ false → IsLoad load
load_is load so text entry = record {
  some_text = grind (arith, nat_tests, text);
  short_text = so.short_text;
  some_words = so.some_words;
  few_words = so.few_words;
  aligned = so.aligned;
  inside = grind (arith, nat_tests, entry);
}

whole_is : (digest : List ℕ) (d t : Draft)
    → length digest ≡ 32
    → IsSoFar d
    → HasSet d.set d
    → whole d ≡ Ok t
    → IsImage (image_with digest t)
whole_is digest d t long so own e =
    let p = whole_passed (eqb (length d.loads) 0 || list_any has_no_text d.loads) (list_any is_outside d.loads) d t e in
    let missing = both_not (eqb (length d.loads) 0) (list_any has_no_text d.loads) p.0 in
    let some : 0 < length d.loads = omega (arith, eqb-false _ _ missing.0) in
    subst (λ (x : Draft). IsImage (image_with digest x)) p.2 (record {
      digest = long;
      spec = record {
        some_task = omega (arith, so.loads.all, some);
        few_tasks = so.tasks.few;
        priorities = so.tasks.priorities;
        small = so.tasks.small;
        distinct = so.tasks.distinct;
        few_resources = so.users.few;
        users = so.users.masks;
        few_alarms = so.alarms.few;
        alarms = so.alarms.actions;
        few_boxes = so.boxes.few;
        boxes = so.boxes.capacities;
        lines = so.lines.actions;
      };
      lines = so.lines.all;
      loads = so.loads.all;
      each = λ k x h.
          load_is _ (so.loads.each k x h)
          (any_false has_no_text d.loads missing.1 k x h)
          (any_false is_outside d.loads p.1 k x h);
      sets = own.loads;
      caps = so.caps;
    })

-- what the lines of a text make, with a digest of 32 bytes, is an image
pub image_is : (bytes digest : List ℕ) (d : Draft)
    → draft_of bytes ≡ Ok d
    → length digest ≡ 32
    → IsImage (image_with digest d)
unfolding draft_of
image_is bytes digest d e long =
    let body = bound (below (pieces bytes)) (λ (body : Set × Below). lines_on image_line body.1.0 (empty_draft body.0) body.1.1 >>= (λ (last : ℕ × Draft). on_line last.0 (whole last.1))) d e in
    let last = bound (lines_on image_line body.0.1.0 (empty_draft body.0.0) body.0.1.1) (λ (last : ℕ × Draft). on_line last.0 (whole last.1)) d body.1.1 in
    let so : IsSoFar last.0.1 = lines_keep IsSoFar image_line line_keeps body.0.1.0 body.0.1.1 (empty_draft body.0.0) last.0 last.1.0 (none_so_far body.0.0) in
    whole_is digest last.0.1 d long so (own_set (lines_have body.0.0 body.0.1.0 body.0.1.1 last.0 last.1.0)) (on_line_gave last.0.0 (whole last.0.1) d last.1.1)

-- the shape of an image is one that a recorder can have
pub shape_is : (image : ImageView) → IsImage image → IsShape (shape_of image)
shape_is image is =
    let count = length-map image.loads (λ load. length load.words) in
    record {
      image = is.digest;
      caps = is.caps;
      some_task = omega (arith, count, is.loads, is.spec.some_task);
      few_tasks = omega (arith, count, is.loads, is.spec.few_tasks);
      words =
          All-map IsWordCount (λ load. length load.words) image.loads
          (All-weaker IsLoad (λ load. IsWordCount (length load.words)) (λ load l. record { some = l.some_words; few = l.few_words }) image.loads is.each);
    }

-- an image of whose tasks one is replaced is an image
pub replaced_is : (image : ImageView) (task : ℕ) (load : Load) → IsImage image → IsLoad load → load.set ≡ image.set → IsImage (replaced image task load)
replaced_is image task load is sound same = record {
  digest = is.digest;
  spec = is.spec;
  lines = is.lines;
  loads = rw length-set is.loads;
  each = All-set IsLoad _ _ _ sound is.each;
  sets = All-set (λ (l : Load). l.set ≡ image.set) _ _ _ same is.sets;
  caps = is.caps;
}

-- how many data words each task has, one of which is replaced
pub counts_set : (counts : List ℕ) (loads : List Load) (task count : ℕ) (load : Load)
    → counts ≡ map (λ load. length load.words) loads
    → count ≡ length load.words
    → set counts task count ≡ map (λ load. length load.words) (set loads task load)
counts_set counts loads task count load is same = rw (is, same) (sym (map-set (λ load. length load.words) loads task load))
