-- Where each task stands at a point, by the control entries from the point on. A task that does not run
-- stands still, so the first entry that resumes it tells where it stood at the point.
use Rattle.std.proofs.Common.{◌≡◌, ◌≢◌, ℕ, ◌-◌, ◌<◌, ◌≤◌, ◌==◌, ◌⊎◌, List, [], ◌∷◌, ◌++◌, length, drop, refl, ap, sym, ◌∙◌, subst, arith, inl, inr, Some, None, unwrap_or}
use Rattle.std.specs.Option.{option_or}
use Rattle.std.proofs.Math.Seq.{drop-nil}
use Rattle.std.proofs.lemmas.Bool.{cases_Bool, cases_eq, cases_lt, eq-eqb, ne_eqb}
use Rattle.tm_marker.specs.declared.entries.Switch.{Switch}
use Rattle.tm_task.specs.Standing.{Standing, marker_of}
use Rattle.tm_kernel.specs.State.{nobody}
use Rattle.tm_image.specs.Image.{ImageView, IsImage}
use Rattle.tm_system.specs.History.{Moment, History}
use Rattle.tm_system.specs.Run.{running_at}
use Rattle.tm_system.specs.Marks.{standing_at, marker_at}
use Rattle.tm_system.specs.Controls.{controls, is_switch, switch_at}
use Rattle.tm_system.specs.Telling.{upto}
use Rattle.tm_system.specs.Follows.{Follows, IsRun, Boots, GoesOn}
use Rattle.tm_log.specs.Points.{resumed_in}
use Rattle.tm_fidelity.proofs.Still.{stands_still, runs_on, not_nobody, rests_at_boot}
use Rattle.tm_fidelity.proofs.Upto.{upto_before, upto_here, boot_upto, no_controls, here, later_stay, later_more}

-- one more entry at the end
resumed_more : (entries : List Switch) (entry : Switch) (t : ℕ) →
    resumed_in (entries ++ entry ∷ []) t ≡ option_or (resumed_in entries t) (resumed_in (entry ∷ []) t)
resumed_more [] entry t = refl
resumed_more (first ∷ rest) entry t = elim (cases_Bool (first.to == t)) [
  | inl e ↦ rw e refl
  | inr e ↦ rw e (resumed_more rest entry t)
]

resumed_here : (entry : Switch) (t : ℕ) → entry.to ≡ t → resumed_in (entry ∷ []) t ≡ Some entry.to_at
resumed_here entry t e = rw (eq-eqb entry.to t e) refl

resumed_not : (entry : Switch) (t : ℕ) → entry.to ≢ t → resumed_in (entry ∷ []) t ≡ None
resumed_not entry t other = rw (ne_eqb entry.to t other) refl

-- a task that stood so at a point: the entries from the point on resume it there, or none does, and it
-- has not run since
pub record IsWaiting (image : ImageView) (h : History) (entries : List Switch) (t : ℕ) (standing : Standing) : Type 0 where
  pub none : resumed_in entries t ≡ None
  pub rests : running_at image h ≢ t
  pub same : standing_at image h t ≡ standing

abbrev pub Waits : ImageView → History → List Switch → ℕ → Standing → Type 0
Waits image h entries t standing =
    (resumed_in entries t ≡ Some (marker_of standing)) ⊎ IsWaiting image h entries t standing

-- the marker of a task in a control entry is that of where it stands
pub marker_is : (image : ImageView) (h : History) (t : ℕ) → IsImage image → t < length image.loads →
    marker_at image h t ≡ marker_of (standing_at image h t)
marker_is image h t i below = rw (ne_eqb t nobody (not_nobody image t i below)) refl

-- right after a control entry: the entry resumes the task, or it does not run
waits_here : (image : ImageView) (m : Moment) (h : History) (t : ℕ) → IsImage image → t < length image.loads →
    Waits image (m ∷ h) (switch_at image m h ∷ []) t (standing_at image (m ∷ h) t)
waits_here image m h t i below = elim (cases_eq m.after.kernel.running t) [
  | inl e ↦ inl (resumed_here (switch_at image m h) t e ∙ ap (λ k. Some (marker_at image (m ∷ h) k)) e ∙ ap Some (marker_is image (m ∷ h) t i below))
  | inr other ↦ inr (record { none = resumed_not (switch_at image m h) t other; rests = other; same = refl })
]

-- one moment on
waits_more : (image : ImageView) (m : Moment) (h : History) (entries : List Switch) (t : ℕ) (standing : Standing) →
    standing_at image (m ∷ h) t ≡ standing_at image h t → IsImage image → t < length image.loads → IsWaiting image h entries t standing →
    Waits image (m ∷ h) (entries ++ switch_at image m h ∷ []) t standing
waits_more image m h entries t standing still i below w =
    let now : standing_at image (m ∷ h) t ≡ standing = still ∙ w.same in
    let more : resumed_in (entries ++ switch_at image m h ∷ []) t ≡ resumed_in (switch_at image m h ∷ []) t =
    resumed_more entries (switch_at image m h) t ∙ ap (λ o. option_or o (resumed_in (switch_at image m h ∷ []) t)) w.none in
    elim (subst (Waits image (m ∷ h) (switch_at image m h ∷ []) t) now (waits_here image m h t i below)) [
      | inl resumed ↦ inl (more ∙ resumed)
      | inr waiting ↦ inr (record { none = more ∙ waiting.none; rests = waiting.rests; same = waiting.same })
    ]

waits_on : (image : ImageView) (m : Moment) (h : History) (p t : ℕ) (standing : Standing) → IsImage image → Follows image h m →
    t < length image.loads → p ≤ length (controls image h) →
    Waits image h (drop p (controls image h)) t standing → Waits image (m ∷ h) (drop p (controls image (m ∷ h))) t standing
waits_on image m h p t standing i f below before (inl resumed) = elim (cases_Bool (is_switch image m h)) [
  | inl e ↦ inl (ap (λ l. resumed_in l t) (later_more image p m h e before) ∙ resumed_more (drop p (controls image h)) (switch_at image m h) t
      ∙ ap (λ o. option_or o (resumed_in (switch_at image m h ∷ []) t)) resumed)
  | inr e ↦ inl (ap (λ l. resumed_in l t) (later_stay image p m h e) ∙ resumed)
]
waits_on image m h p t standing i f below before (inr w) =
    let still : standing_at image (m ∷ h) t ≡ standing_at image h t = stands_still image h m t f w.rests in
    elim (cases_Bool (is_switch image m h)) [
      | inl e ↦ subst (λ l. Waits image (m ∷ h) l t standing) (sym (later_more image p m h e before))
          (waits_more image m h (drop p (controls image h)) t standing still i below w)
      | inr e ↦ inr (record {
        none = ap (λ l. resumed_in l t) (later_stay image p m h e) ∙ w.none;
        rests = λ q. w.rests (sym (runs_on image h m e) ∙ q);
        same = still ∙ w.same;
      })
    ]

-- from a point on, at each moment of a run
pub waits : (image : ImageView) (h : History) (p t : ℕ) → IsImage image → IsRun image h → p ≤ length (controls image h) → t < length image.loads →
    Waits image h (drop (p - 1) (controls image h)) t (standing_at image (upto image p h) t)
waits image [] p t i Boots reached below =
    let none : drop (p - 1) (controls image []) ≡ [] = ap (drop (p - 1)) (no_controls image) ∙ drop-nil (p - 1) in
    inr (record {
      none = ap (λ l. resumed_in l t) none;
      rests = rests_at_boot image t i below;
      same = ap (λ g. standing_at image g t) (sym (boot_upto image p));
    })
waits image (m ∷ h) p t i (GoesOn r f) reached below = elim (cases_lt (length (controls image h)) p) [
  | inl later ↦
      let own = here image p m h later reached in
      subst (λ (g : History). Waits image (m ∷ h) (drop (p - 1) (controls image (m ∷ h))) t (standing_at image g t)) (sym (upto_here image p m h later))
      (subst (λ (l : List Switch). Waits image (m ∷ h) l t (standing_at image (m ∷ h) t)) (sym own.own) (waits_here image m h t i below))
  | inr before ↦
      subst (λ (g : History). Waits image (m ∷ h) (drop (p - 1) (controls image (m ∷ h))) t (standing_at image g t)) (sym (upto_before image p m h before))
      (waits_on image m h (p - 1) t (standing_at image (upto image p h) t) i f below (omega (arith, before)) (waits image h p t i r before below))
]

-- the marker of a task at a point
resumed_by : (image : ImageView) (h : History) (entries : List Switch) (t : ℕ) (standing : Standing) → Waits image h entries t standing →
    unwrap_or (resumed_in entries t) (marker_of (standing_at image h t)) ≡ marker_of standing
resumed_by image h entries t standing (inl resumed) = ap (λ o. unwrap_or o (marker_of (standing_at image h t))) resumed
resumed_by image h entries t standing (inr w) = ap (λ o. unwrap_or o (marker_of (standing_at image h t))) w.none ∙ ap marker_of w.same

pub stood_at : (image : ImageView) (h : History) (p t : ℕ) → IsImage image → IsRun image h → p ≤ length (controls image h) → t < length image.loads →
    unwrap_or (resumed_in (drop (p - 1) (controls image h)) t) (marker_of (standing_at image h t)) ≡ marker_of (standing_at image (upto image p h) t)
stood_at image h p t i r reached below =
    resumed_by image h (drop (p - 1) (controls image h)) t (standing_at image (upto image p h) t) (waits image h p t i r reached below)
