-- A teller that hears a moment goes on with the history.
use Rattle.std.proofs.Common.{Result, OnOk, ◌≡◌, ℕ, ◌+◌, ◌*◌, ◌^◌, ◌<◌, ◌≤◌, List, [], ◌∷◌, length, length-take, take, get_or, subst, sym, ap, ◌∙◌, arith, IfSome, All, inl, inr, refl}
use Rattle.std.proofs.lemmas.Bool.{cases_Bool}
use Rattle.std.proofs.lemmas.List.{take_more}
use Rattle.std.proofs.lemmas.List.Elements.{All-take}
use Rattle.tm_marker.specs.declared.entries.Slice.{Slice}
use Rattle.tm_image.specs.Image.{ImageView, IsImage}
use Rattle.tm_image.specs.Plan.{IsSlice}
use Rattle.tm_system.specs.declared.machine.Told.{Told}
use Rattle.tm_system.specs.History.{Moment, History}
use Rattle.tm_system.specs.Run.{running_at, run, sliced}
use Rattle.tm_system.specs.Controls.{is_switch}
use Rattle.tm_system.specs.Machine.{MachineView, IsAt, IsMachine, told_of}
use Rattle.tm_system.specs.Parts.{IsTaskOrNobody}
use Rattle.tm_system.specs.Hearing.{IsNext, Turns, Comes, IsNews, CanHear, StandAt, AreYoung}
use Rattle.tm_system.proofs.Bodies.{boot_bodies, played_bodies}
use Rattle.tm_system.proofs.Hearing.{on_ok}
use Rattle.tm_system.proofs.Lengths.{played_short}
use Rattle.tm_system.proofs.Playing.{played_more}
use Rattle.tm_system.proofs.Texts.{controls_few}
use Rattle.tm_prog.specs.Teller.{TellerView, Tells, HasTold, after_telling}
use Rattle.tm_prog.proofs.Noting.{IsOwn, noted, next_own}

-- an image has at most 16 tasks where a machine stands on it
pub few_loads : (image : ImageView) (h : History) (machine : MachineView) → IsMachine machine → IsAt image machine h → length image.loads ≤ 16
few_loads image h machine sound at = omega (arith, sound.tasks, at.tasks, sound.kernel.spec.few_tasks)

pub few_tasks : (image : ImageView) → IsImage image → length image.loads ≤ 16
few_tasks image sound = omega (arith, sound.loads, sound.spec.few_tasks)

-- who a told control entry comes from
told_from : (image : ImageView) (m : Moment) (h : History) (n : ℕ) → IsTaskOrNobody n (running_at image h) →
    IfSome (told_of image m h).switch (λ s. IsTaskOrNobody n s.from)
told_from image m h n whose =
    elim (cases_Bool (is_switch image m h)) [ inl e ↦ rw e whose | inr e ↦ rw e tt ]

pub news_from : (image : ImageView) (h : History) (m : Moment) (machine : MachineView) (task : ℕ) (told : Told) → IsNews image h m machine task told →
    IfSome told.switch (λ s. IsTaskOrNobody (length machine.tasks) s.from)
news_from image h m machine task told news =
    let whose : IsTaskOrNobody (length machine.tasks) (running_at image h) =
    rw news.at.tasks (subst (λ (r : ℕ). IsTaskOrNobody (length image.loads) r) news.turn news.whose) in
    subst (λ (t : Told). IfSome t.switch (λ s. IsTaskOrNobody (length machine.tasks) s.from)) (sym news.tells)
    (told_from image m h (length machine.tasks) whose)

-- the counts have room
pub entries_few : (machine : MachineView) (task : ℕ) (told : Told) (teller : TellerView) → CanHear HasTold machine task told teller → teller.entries < 2 ^ 53
entries_few machine task told teller c = omega (arith, c.stood.entries, controls_few c.image c.history, c.few)

-- the outputs of a moment are the running task's
news_own : (image : ImageView) (h : History) (m : Moment) → IsNext image h m → IsOwn image h m
news_own image h m (Turns somebody) = next_own image h
news_own image h m (Comes mask ports) = refl

-- what is told of a moment, told on
pub news_told : (image : ImageView) (h : History) (m : Moment) (machine : MachineView) (task : ℕ) (told : Told) (teller : TellerView) →
    IsNews image h m machine task told → HasTold image h teller → HasTold image (m ∷ h) (after_telling machine task told teller)
news_told image h m machine task told teller news tells =
    subst (λ (t : Told). Tells image (after_telling machine task t teller) (m ∷ h)) (sym news.tells)
    (noted image m h machine task teller (few_loads image (m ∷ h) machine news.sound news.at) news.at tells (news_own image h m news.next)
    (subst (λ (r : ℕ). IsTaskOrNobody (length image.loads) r) news.turn news.whose))

-- where the slices of a script have led, the counts have room for one more slice
short_slices : (slices : List Slice) (i : ℕ) → All IsSlice slices → All (λ s. s.length ≤ 1048576) (take i slices)
short_slices slices i all = λ k d within. (All-take IsSlice i slices all k d within).short

pub script_young : (image : ImageView) (slices : List Slice) (i : ℕ) (machine : MachineView) (teller : TellerView) → IsImage image → All IsSlice slices →
    i < length slices → length slices < 2 ^ 32 → StandAt HasTold image machine teller (run image (take i slices)) →
    AreYoung HasTold image machine teller 1048577
script_young image slices i machine teller sound sliced there few standing =
    let so_far : length (run image (take i slices)) ≤ 0 + 1048577 * length (take i slices) = played_short image (take i slices) [] (short_slices slices i sliced) in
    let taken : length (take i slices) ≤ i = omega (arith, length-take i slices) in
    record {
      history = run image (take i slices);
      standing = standing;
      bodies = played_bodies image (take i slices) [] sound (boot_bodies image sound);
      few = omega (arith, so_far, taken);
    }

pub told_ok : {T E : Type 0} (r : Result T E) (image : ImageView) (h : History) (m : Moment) (machine : MachineView) (task : ℕ) (told : Told)
    (old new : TellerView) → IsNews image h m machine task told → HasTold image h old → OnOk r (new ≡ after_telling machine task told old) →
    OnOk r (HasTold image (m ∷ h) new)
told_ok r image h m machine task told old new news tells ok =
    on_ok r (new ≡ after_telling machine task told old) (HasTold image (m ∷ h) new)
    (λ is. subst (λ (t : TellerView). HasTold image (m ∷ h) t) (sym is) (news_told image h m machine task told old news tells)) ok

-- the run of one slice more
pub run_next : (image : ImageView) (slices : List Slice) (i : ℕ) (s : Slice) → i < length slices → s ≡ get_or slices i s →
    run image (take (i + 1) slices) ≡ sliced image (run image (take i slices)) s
run_next image slices i s there is =
    ap (λ (xs : List Slice). run image xs) (take_more slices i s there) ∙ played_more image (take i slices) (get_or slices i s) [] ∙
    ap (λ (x : Slice). sliced image (run image (take i slices)) x) (sym is)
