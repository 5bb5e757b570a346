-- Where a task starts whose checkpoint is kept.
use Rattle.std.proofs.Common.{◌≡◌, ℕ, ◌-◌, ◌%◌, ◌<◌, ◌≤◌, length, Option, Some, None, slice_get, refl, ap, sym, subst, ◌∙◌, arith, All}
use Rattle.std.specs.Prelude.{unwrap_or, option_map, []}
use Rattle.std.proofs.lemmas.Grind.{common_steps}
use Rattle.std.proofs.lemmas.Option.{slice_get_within, get_or_from_slice_get}
use Rattle.tm_marker.specs.declared.body.Body.{Body}
use Rattle.tm_marker.specs.declared.entries.DataEntry.{DataEntry}
use Rattle.tm_marker.specs.declared.shape.Shape.{Shape}
use Rattle.tm_ring.specs.Kept.{Kept, first_of}
use Rattle.tm_check.specs.Checkpoint.{Checkpoint, KeptChecks, check_of, first_epoch, IsChecks, AreSized}
use Rattle.tm_check.specs.Ref.{ref_of}
use Rattle.tm_check.specs.declared.checks.CheckRef.{CheckRef}
use Rattle.tm_image.specs.Image.{ImageView, entry_of, text_of}
use Rattle.tm_log.specs.Window.{WindowView, log_of, checks_of}
use Rattle.tm_log.specs.WellFormed.{IsWellFormed, IsCheckpoint}
use Rattle.tm_points.specs.Finder.{lost_of_check, lost_of_epoch}
use Rattle.tm_task.specs.Place.{start_place}
use Rattle.tm_task.specs.Standing.{IsTask}
use Rattle.tm_system.specs.Replaying.{alone_in, no_checkpoint}
use Rattle.tm_replay.specs.declared.walker.Walker.{Walker}
use Rattle.tm_replay.specs.Starting.{StartsAt, check_at}
use Rattle.tm_replay.specs.Walking.{alone_of, place_of}

-- the checkpoint of an epoch, with all the task's data entries since
pub record IsStart (w : WindowView) (task epoch : ℕ) : Type 0 where
  pub check : Checkpoint
  pub is : check_of (checks_of w task) epoch ≡ Some check
  pub kept : first_of (log_of w task) ≤ check.data_number
  pub made : check.data_number ≤ (log_of w task).total
  pub aligned : check.body.pc % 4 ≡ 0

there : (task epoch first : ℕ) (o : Option Checkpoint) → lost_of_check task epoch first o ≡ None →
    (c : Checkpoint) × ((o ≡ Some c) × (first ≤ c.data_number))
there task epoch first None none = absurd (cc)
there task epoch first (Some c) none = (c, (refl, grind (arith, common_steps)))

in_place : (checks : KeptChecks) (epoch : ℕ) (c : Checkpoint) → check_of checks epoch ≡ Some c →
    slice_get checks.items (epoch - first_epoch checks) ≡ Some c
in_place checks epoch c is = grind (arith, common_steps)

kept_well : (checks : KeptChecks) (epoch entries switches : ℕ) (c : Checkpoint) → All (IsCheckpoint entries switches) checks.items →
    check_of checks epoch ≡ Some c → IsCheckpoint entries switches c
kept_well checks epoch entries switches c all is =
    let at : slice_get checks.items (epoch - first_epoch checks) ≡ Some c = in_place checks epoch c is in
    subst (IsCheckpoint entries switches) (get_or_from_slice_get checks.items (epoch - first_epoch checks) c c at)
    (all (epoch - first_epoch checks) c (slice_get_within checks.items (epoch - first_epoch checks) c at))

pub start_kept : (w : WindowView) (shape : Shape) (task epoch : ℕ) → IsWellFormed w shape → task < length w.shape.words →
    lost_of_epoch w task epoch ≡ None → IsStart w task epoch
start_kept w shape task epoch formed below none =
    let c : (c : Checkpoint) × ((check_of (checks_of w task) epoch ≡ Some c) × (first_of (log_of w task) ≤ c.data_number)) =
    there task epoch (first_of (log_of w task)) (check_of (checks_of w task) epoch) none in
    let well : IsCheckpoint (log_of w task).total w.control.total c.0 =
    kept_well (checks_of w task) epoch (log_of w task).total w.control.total c.0 (formed.tasks task below).bodies c.1.0 in
    record { check = c.0; is = c.1.0; kept = c.1.1; made = well.data_number; aligned = well.aligned }

-- what was looked up of it
pub record IsFound (w : WindowView) (task epoch : ℕ) (checks : KeptChecks) (r : CheckRef) (body : Body) : Type 0 where
  pub start : IsStart w task epoch
  pub number : r.data_no ≡ start.check.data_number
  pub own : body ≡ start.check.body
  pub words : length body.words ≡ checks.words

some_is : {X : Type 0} (x y : X) → Some x ≡ Some y → x ≡ y
some_is x y e = cc

pub found : (w : WindowView) (shape : Shape) (task epoch : ℕ) (checks : KeptChecks) (r : CheckRef) (o : Option CheckRef) (body : Body) →
    IsWellFormed w shape → task < length w.shape.words → lost_of_epoch w task epoch ≡ None → checks ≡ checks_of w task → IsChecks checks →
    o ≡ option_map (ref_of epoch) (check_of checks epoch) → o ≡ Some r →
    option_map (λ (c : Checkpoint). c.body) (check_of checks r.epoch) ≡ Some body → IsFound w task epoch checks r body
found w shape task epoch checks r o body formed below none same well looked there read =
    let start : IsStart w task epoch = start_kept w shape task epoch formed below none in
    let is : check_of checks epoch ≡ Some start.check = ap (λ k. check_of k epoch) same ∙ start.is in
    let ref : r ≡ ref_of epoch start.check = some_is r (ref_of epoch start.check) (sym there ∙ looked ∙ ap (option_map (ref_of epoch)) is) in
    let own : body ≡ start.check.body =
    some_is body start.check.body
    (sym read ∙ ap (λ (x : CheckRef). option_map (λ (c : Checkpoint). c.body) (check_of checks x.epoch)) ref ∙ ap (option_map (λ (c : Checkpoint). c.body)) is) in
    record {
      start = start;
      number = ap (λ (x : CheckRef). x.data_no) ref;
      own = own;
      words =
          ap (λ (b : Body). length b.words) own
          ∙ sized checks epoch start.check well.sized is;
    }
  where
    sized : (checks : KeptChecks) (epoch : ℕ) (c : Checkpoint) → AreSized checks.words checks.items → check_of checks epoch ≡ Some c →
        length c.body.words ≡ checks.words
    sized checks epoch c all is =
        let at : slice_get checks.items (epoch - first_epoch checks) ≡ Some c = in_place checks epoch c is in
        subst (λ (x : Checkpoint). length x.body.words ≡ checks.words) (get_or_from_slice_get checks.items (epoch - first_epoch checks) c c at)
        (all (epoch - first_epoch checks) c (slice_get_within checks.items (epoch - first_epoch checks) c at))

-- a walker made of it
pub starts_at : (image : ImageView) (w : WindowView) (task epoch : ℕ) (walker : Walker) (start : IsStart w task epoch) → walker.number ≡ task →
    walker.task.entry ≡ entry_of image task → walker.text.now ≡ text_of image task → walker.log.now ≡ log_of w task →
    walker.first ≡ start.check.data_number → walker.task.standing ≡ record { body = start.check.body; epoch = epoch; count = 0 } →
    walker.used ≡ 0 → walker.made ≡ [] → 0 < length walker.text.now.words → length walker.text.now.words ≤ 16384 → IsTask walker.task →
    StartsAt image w task epoch walker
starts_at image w task epoch walker start number entry text log first standing used made some few is =
    let check : check_at w task epoch ≡ start.check = ap (λ o. unwrap_or o no_checkpoint) start.is in
    let one : alone_of walker ≡ alone_in image task (log_of w task) start.check.data_number = alone_same walker image task (log_of w task) start.check.data_number number entry text log first in
    let two : place_of walker ≡ start_place start.check.body epoch = place_same walker start.check.body epoch standing used made in
    record {
      number = number;
      alone = one ∙ ap (λ (c : Checkpoint). alone_in image task (log_of w task) c.data_number) (sym check);
      place = two ∙ ap (λ (c : Checkpoint). start_place c.body epoch) (sym check);
      sound = record {
        walker = record { few = few; task = is };
        some = some;
        kept = rw (log, first) start.kept;
        used = rw (log, first, used) (omega (arith, start.made));
      };
    }
  where
    alone_same : (walker : Walker) (image : ImageView) (task : ℕ) (log : Kept DataEntry) (number : ℕ) → walker.number ≡ task →
        walker.task.entry ≡ entry_of image task → walker.text.now ≡ text_of image task → walker.log.now ≡ log → walker.first ≡ number →
        alone_of walker ≡ alone_in image task log number
    alone_same walker image task log number a b c d e = cc

    place_same : (walker : Walker) (body : Body) (epoch : ℕ) → walker.task.standing ≡ record { body = body; epoch = epoch; count = 0 } →
        walker.used ≡ 0 → walker.made ≡ [] → place_of walker ≡ start_place body epoch
    place_same walker body epoch a b c = cc
