-- A task that does not run stands still, and where no control entry is made the same task runs on.
use Rattle.std.proofs.Common.{◌≡◌, ◌≢◌, ℕ, ◌<◌, Bool, true, false, ◌||◌, not, ◌==◌, List, [], ◌∷◌, length, refl, ap, sym, ◌∙◌, arith, is_some, slice_get}
use Rattle.std.proofs.lemmas.Bool.{eqb-true}
use Rattle.tm_marker.specs.declared.body.Body.{Body}
use Rattle.tm_kernel.specs.State.{nobody}
use Rattle.tm_kernel.proofs.Keeping.{slice_get_set_other}
use Rattle.tm_image.specs.Image.{ImageView, IsImage}
use Rattle.tm_system.specs.History.{Deed, Arrives, Steps, Answers, Faulted, Moment, History}
use Rattle.tm_system.specs.Run.{now, running_at}
use Rattle.tm_system.specs.Marks.{standing_at}
use Rattle.tm_system.specs.Controls.{is_switch}
use Rattle.tm_system.specs.Follows.{Follows, DidDeed}
use Rattle.tm_system.proofs.Marking.{IsApart, rests_at, arrives_apart, steps_apart, answers_apart, faulted_apart}

-- what a deed leaves of a task: its marks and its body
record IsLeft (image : ImageView) (h : History) (m : Moment) (t : ℕ) (deed : Deed) : Type 0 where
  marks : IsApart t deed
  body : slice_get m.after.bodies t ≡ slice_get (now image h).bodies t

left_by : (image : ImageView) (h : History) (m : Moment) (t : ℕ) → running_at image h ≢ t → (deed : Deed) → DidDeed image h m deed →
    IsLeft image h m t deed
left_by image h m t rests (Arrives mask ports) did =
    record { marks = arrives_apart t mask ports; body = ap (λ (bs : List Body). slice_get bs t) did.bodies }
left_by image h m t rests (Steps task back) did =
    let other : t ≢ task = λ e. rests (did.turn.runs ∙ sym e) in
    record {
      marks = steps_apart t task back other;
      body = ap (λ (bs : List Body). slice_get bs t) did.bodies ∙ slice_get_set_other (now image h).bodies task t _ other;
    }
left_by image h m t rests (Answers task entry output) did =
    let other : t ≢ task = λ e. rests (did.turn.runs ∙ sym e) in
    record {
      marks = answers_apart t task entry output other;
      body = ap (λ (bs : List Body). slice_get bs t) did.bodies ∙ slice_get_set_other (now image h).bodies task t _ other;
    }
left_by image h m t rests (Faulted task cause) did =
    record { marks = faulted_apart t task cause; body = ap (λ (bs : List Body). slice_get bs t) did.bodies }

pub stands_still : (image : ImageView) (h : History) (m : Moment) (t : ℕ) → Follows image h m → running_at image h ≢ t →
    standing_at image (m ∷ h) t ≡ standing_at image h t
stands_still image h m t f rests =
    let left : IsLeft image h m t m.deed = left_by image h m t rests m.deed f.did in
    rests_at image m h t left.marks left.body

-- without a control entry the same task runs on, or nobody
same_by : (left : Bool) (from to : ℕ) → (left || not (from == to)) ≡ false → to ≡ from
same_by true from to e = cc
same_by false from to e = go (from == to) refl e
  where
    go : (b : Bool) → (from == to) ≡ b → not b ≡ false → to ≡ from
    go true same e = sym (eqb-true from to same)
    go false same e = cc

pub runs_on : (image : ImageView) (h : History) (m : Moment) → is_switch image m h ≡ false → running_at image (m ∷ h) ≡ running_at image h
runs_on image h m e = same_by (is_some m.leaves) (running_at image h) m.after.kernel.running e

-- nobody is no task of an image, and nobody runs at boot
pub not_nobody : (image : ImageView) (t : ℕ) → IsImage image → t < length image.loads → t ≢ nobody
not_nobody image t i below e = omega (arith, i.loads, i.spec.few_tasks, below, e)

pub rests_at_boot : (image : ImageView) (t : ℕ) → IsImage image → t < length image.loads → running_at image [] ≢ t
rests_at_boot image t i below e = not_nobody image t i below (sym e)
