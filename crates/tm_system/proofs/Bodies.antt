-- Every task of a run has a body that it can have.
use Rattle.std.proofs.Common.{◌≡◌, ◌≢◌, ℕ, zero, suc, ◌<◌, Bool, true, false, ◌==◌, if◌then◌else◌, List, [], ◌∷◌, length, slice_set, slice_get, unwrap_or, refl, sym, ◌∙◌, subst, arith, inl, inr, length-set}
use Rattle.std.proofs.lemmas.Bool.{cases_Bool, eqb-true, eqb-false}
use Rattle.std.proofs.lemmas.List.{get_or-set_same, get_or-set_other, length-map}
use Rattle.std.proofs.lemmas.Option.{unwrap_or-slice_get}
use Rattle.tm_marker.specs.declared.body.Body.{Body}
use Rattle.tm_marker.specs.declared.entries.Slice.{Slice}
use Rattle.tm_marker.specs.declared.entries.DataEntry.{DataEntry}
use Rattle.tm_task.specs.Exec.{Exec, Faults, Calls, Goes, exec}
use Rattle.tm_task.specs.Follows.{IsOrderly}
use Rattle.tm_task.specs.Standing.{reply, restarted, resumed, is_end, args_of}
use Rattle.tm_task.proofs.Following.{exec_follows}
use Rattle.tm_kernel.specs.State.{nobody}
use Rattle.tm_kernel.specs.Service.{answer}
use Rattle.tm_image.specs.Image.{ImageView, IsImage, IsLoad, load_of, entry_of, text_of}
use Rattle.tm_system.specs.History.{Whole, History}
use Rattle.tm_system.specs.Run.{now, running_at, body_at, no_body, arrives, moment_by, next_moment, turned, turns, sliced, played}
use Rattle.tm_system.proofs.Booting.{load_sound, body_booted}
use Rattle.tm_system.specs.Bodies.{IsBodyOf, HaveBodies}

-- a list of bodies that the image's tasks can have
record BodiesFit (image : ImageView) (bodies : List Body) : Type 0 where
  number : length bodies ≡ length image.loads
  each : (t : ℕ) → t < length image.loads → IsBodyOf (load_of image t) (unwrap_or (slice_get bodies t) no_body)

-- one body for another
put_fits : (image : ImageView) (bodies : List Body) (r : ℕ) (next : Body) → BodiesFit image bodies →
    (r < length image.loads → IsBodyOf (load_of image r) next) → BodiesFit image (slice_set bodies r next)
put_fits image bodies r next fit body = record {
  number = length-set bodies r next ∙ fit.number;
  each = λ t below. elim (cases_Bool (t == r)) [
    | inl e ↦
        let same : t ≡ r = eqb-true t r e in
        subst (λ (k : ℕ). IsBodyOf (load_of image k) (unwrap_or (slice_get (slice_set bodies r next) k) no_body)) (sym same)
        (subst (λ (b : Body). IsBodyOf (load_of image r) b)
        (sym (unwrap_or-slice_get (slice_set bodies r next) r no_body ∙ get_or-set_same bodies r next no_body (omega (arith, fit.number, same, below))))
        (body (omega (arith, same, below))))
    | inr e ↦
        let other : t ≢ r = eqb-false t r e in
        subst (λ (b : Body). IsBodyOf (load_of image t) b)
        (unwrap_or-slice_get bodies t no_body ∙ sym (get_or-set_other bodies r t next no_body other) ∙ sym (unwrap_or-slice_get (slice_set bodies r next) t no_body))
        (fit.each t below)
  ];
}

-- a reply leaves a body that the task can have
picked_body : (image : ImageView) (r : ℕ) (test : Bool) (b c : Body) → IsBodyOf (load_of image r) b → IsBodyOf (load_of image r) c →
    IsBodyOf (load_of image r) (if test then b else c)
picked_body image r true b c left right = left
picked_body image r false b c left right = right

reply_fits : (image : ImageView) (r : ℕ) (b : Body) (d : DataEntry) → IsLoad (load_of image r) → IsBodyOf (load_of image r) b →
    IsBodyOf (load_of image r) (reply (entry_of image r) b d)
reply_fits image r b d load body =
    picked_body image r (is_end d) (restarted (entry_of image r) b) (resumed b d)
    (record { aligned = load.aligned; words = body.words })
    (record { aligned = omega (arith, body.aligned); words = body.words })

-- an instruction leaves bodies that the tasks can have
moment_fits : (image : ImageView) (w : Whole) (r : ℕ) (b : Body) (e : Exec) → IsImage image → BodiesFit image w.bodies →
    (r < length image.loads → IsBodyOf (load_of image r) b) → (r < length image.loads → IsOrderly (text_of image r).words b e) →
    BodiesFit image (moment_by (entry_of image r) w r b e).after.bodies
moment_fits image w r b (Goes next back) i fit body orderly =
    put_fits image w.bodies r next fit (λ below. record { aligned = (orderly below).aligned; words = (orderly below).words ∙ (body below).words })
moment_fits image w r b (Calls service) i fit body orderly =
    put_fits image w.bodies r (reply (entry_of image r) b (answer w.kernel r service (args_of b)).entry) fit
    (λ below. reply_fits image r b (answer w.kernel r service (args_of b)).entry (load_sound image r i below) (body below))
moment_fits image w r b (Faults cause) i fit body orderly = fit

fit_of : (image : ImageView) (h : History) → HaveBodies image h → BodiesFit image (now image h).bodies
fit_of image h b = record { number = b.number; each = b.each }

pub next_bodies : (image : ImageView) (h : History) → IsImage image → HaveBodies image h → HaveBodies image (next_moment image h ∷ h)
next_bodies image h i b =
    let r : ℕ = running_at image h in
    let fit : BodiesFit image (next_moment image h).after.bodies =
    moment_fits image (now image h) r (body_at image h r) (exec (text_of image r) (body_at image h r)) i (fit_of image h b)
    (λ below. b.each r below)
    (λ below. exec_follows (text_of image r) (body_at image h r) (load_sound image r i below).short_text (b.each r below).aligned) in
    record { number = fit.number; each = fit.each }

pub turned_bodies : (image : ImageView) (h : History) → IsImage image → HaveBodies image h → HaveBodies image (turned image h)
turned_bodies image h i b =
    elim (cases_Bool (running_at image h == nobody)) [
      | inl e ↦ rw e b
      | inr e ↦ rw e (next_bodies image h i b)
    ]

pub turns_bodies : (image : ImageView) (n : ℕ) (h : History) → IsImage image → HaveBodies image h → HaveBodies image (turns image n h)
unfolding turns
turns_bodies image zero h i b = b
turns_bodies image (suc n) h i b = turned_bodies image (turns image n h) i (turns_bodies image n h i b)

pub arrives_bodies : (image : ImageView) (mask : ℕ) (ports : List ℕ) (h : History) → HaveBodies image h → HaveBodies image (arrives image mask ports h)
arrives_bodies image mask ports h b =
    elim (cases_Bool ((now image h).kernel.ended == 0)) [
      | inl e ↦ rw e (record { number = b.number; each = b.each })
      | inr e ↦ rw e b
    ]

pub boot_bodies : (image : ImageView) → IsImage image → HaveBodies image []
boot_bodies image i = record {
  number = length-map image.loads _;
  each = λ t below. subst (λ (b : Body). IsBodyOf (load_of image t) b) (sym (body_booted image t below))
      (record { aligned = (load_sound image t i below).aligned; words = refl });
}

pub played_bodies : (image : ImageView) (script : List Slice) (h : History) → IsImage image → HaveBodies image h → HaveBodies image (played image h script)
played_bodies image [] h i b = b
played_bodies image (s ∷ ss) h i b =
    played_bodies image ss (sliced image h s) i (turns_bodies image s.length (arrives image s.mask s.ports h) i (arrives_bodies image s.mask s.ports h b))
