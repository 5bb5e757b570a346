-- A machine and one who listens to it stand where the run has come, and have what the slice makes of them.
use Rattle.std.proofs.Common.{Result, Ok, Err, OnOk, ◌≡◌, ◌≢◌, ℕ, zero, suc, ◌+◌, ◌^◌, ◌<◌, ◌≤◌, Bool, true, false, ◌==◌, if◌then◌else◌, List, ◌∷◌, length, slice_get, IfSome, refl, ap, sym, ◌∙◌, subst, arith, inl, inr, add-one, add-zero}
use Rattle.std.proofs.lemmas.Bool.{cases_Bool, eq-eqb, ne_eqb}
use Rattle.tm_marker.specs.declared.entries.Slice.{Slice}
use Rattle.tm_kernel.specs.State.{KernelState, nobody}
use Rattle.tm_image.specs.Image.{ImageView, IsImage}
use Rattle.tm_system.specs.declared.machine.Told.{Told}
use Rattle.tm_system.specs.History.{Moment, History}
use Rattle.tm_system.specs.Run.{now, running_at, arrival, arrives, next_moment, turned, turns}
use Rattle.tm_system.specs.Machine.{MachineView, IsAt, IsMachine, told_of, told_going_on, arrival_told, IsQuiet}
use Rattle.tm_system.specs.Parts.{IsTaskOrNobody}
use Rattle.tm_system.specs.Moving.{whole_in, next_in, told_in, Does, DoesQuietly}
use Rattle.tm_system.specs.Quiet.{AddsNothing}
use Rattle.tm_system.specs.Bodies.{HaveBodies}
use Rattle.tm_system.specs.Hearing.{Heard, heard, Hears, after_moment, after_arrival, after_turn, after_turns, after_slice, IsNext, IsNews, Turns, Comes, Stands, CanHear, StandAt, AreYoung}
use Rattle.tm_system.specs.Gaining.{Gains}
use Rattle.tm_system.proofs.Gaining.{turns_gain, arrivals_gain}
use Rattle.tm_system.proofs.Bodies.{next_bodies, turned_bodies, turns_bodies, arrives_bodies}
use Rattle.tm_system.proofs.Lengths.{epochs_few, turns_short, arrives_short}
use Rattle.tm_system.proofs.Doing.{quietly_runs}
use Rattle.tm_system.proofs.Playing.{turned_on}
use Rattle.tm_system.proofs.Quieting.{quiet_turns}
use Rattle.tm_system.proofs.Stepping.{runs_here, somebody_at}
use Rattle.tm_system.proofs.Turning.{runner_within, arrives_goes, arrival_told_goes}

-- who runs in a machine that is where a history is
pub whose_turn : (image : ImageView) (machine : MachineView) (h : History) → IsMachine machine → IsAt image machine h →
    IsTaskOrNobody (length image.loads) (running_at image h)
whose_turn image machine h sound at =
    let same : machine.kernel.running ≡ running_at image h = ap (λ (k : KernelState). k.running) at.kernel in
    subst (λ (r : ℕ). IsTaskOrNobody (length image.loads) r) same
    (subst (λ (n : ℕ). IsTaskOrNobody n machine.kernel.running) at.tasks (runner_within machine sound))

-- the epochs have room
pub epoch_few : {L : Type 0} (stands : Stands L) (image : ImageView) (machine : MachineView) (listener : L) (n : ℕ) →
    AreYoung stands image machine listener n → IsMachine machine → machine.kernel.running ≢ nobody →
    IfSome (slice_get machine.tasks machine.kernel.running) (λ task. task.standing.epoch < 2 ^ 53)
epoch_few stands image machine listener n y sound somebody =
    let there = (runs_here image machine y.history sound y.standing.at somebody).there in
    rw (y.standing.at.each machine.kernel.running there) (omega (arith, epochs_few machine.kernel.running y.history, y.few))

-- what is told of an instruction, and of an arrival, is news
pub turn_news : (image : ImageView) (h : History) (before after : MachineView) (task : ℕ) (told : Told) → IsMachine before → IsAt image before h →
    before.kernel.running ≢ nobody → task ≡ before.kernel.running → IsAt image after (turned image h) → IsMachine after →
    told ≡ told_of image (next_moment image h) h → IsNews image h (next_moment image h) after task told
turn_news image h before after task told before_sound at somebody runs later sound is =
    let same : task ≡ running_at image h = runs ∙ ap (λ (k : KernelState). k.running) at.kernel in
    record {
      next = Turns (somebody_at image before h at somebody);
      at = subst (λ (g : History). IsAt image after g) (turned_on image h (somebody_at image before h at somebody)) later;
      sound = sound;
      turn = same;
      whose = subst (λ (r : ℕ). IsTaskOrNobody (length image.loads) r) (sym same) (whose_turn image before h before_sound at);
      tells = is;
    }

pub arrival_news : (image : ImageView) (mask : ℕ) (ports : List ℕ) (h : History) (before after : MachineView) (task : ℕ) (told : Told) →
    IsMachine before → IsAt image before h → before.kernel.ended ≡ 0 → task ≡ before.kernel.running →
    IsAt image after (arrives image mask ports h) → IsMachine after → told ≡ arrival_told image mask ports h →
    IsNews image h (arrival (now image h) mask ports) after task told
arrival_news image mask ports h before after task told before_sound at goes runs later sound is =
    let same : task ≡ running_at image h = runs ∙ ap (λ (k : KernelState). k.running) at.kernel in
    let ended : (now image h).kernel.ended ≡ 0 = sym (ap (λ (k : KernelState). k.ended) at.kernel) ∙ goes in
    record {
      next = Comes mask ports;
      at = subst (λ (g : History). IsAt image after g) (arrives_goes image h mask ports ended) later;
      sound = sound;
      turn = same;
      whose = subst (λ (r : ℕ). IsTaskOrNobody (length image.loads) r) (sym same) (whose_turn image before h before_sound at);
      tells = is ∙ arrival_told_goes image h mask ports ended;
    }

-- and it can be heard
pub turn_heard_of : {L : Type 0} (stands : Stands L) (image : ImageView) (before after : MachineView) (task : ℕ) (told : Told) (listener : L) →
    IsImage image → (y : AreYoung stands image before listener 0) → IsNews image y.history (next_moment image y.history) after task told →
    CanHear stands after task told listener
turn_heard_of stands image before after task told listener i y news = record {
  image = image;
  history = y.history;
  moment = next_moment image y.history;
  news = news;
  stood = y.standing.stood;
  bodies = next_bodies image y.history i y.bodies;
  few = omega (arith, y.few);
}

pub arrival_heard_of : {L : Type 0} (stands : Stands L) (image : ImageView) (mask : ℕ) (ports : List ℕ) (before after : MachineView) (task : ℕ) (told : Told)
    (listener : L) → (y : AreYoung stands image before listener 0) → before.kernel.ended ≡ 0 →
    IsNews image y.history (arrival (now image y.history) mask ports) after task told → CanHear stands after task told listener
arrival_heard_of stands image mask ports before after task told listener y goes news = record {
  image = image;
  history = y.history;
  moment = arrival (now image y.history) mask ports;
  news = news;
  stood = y.standing.stood;
  bodies = record { number = y.bodies.number; each = y.bodies.each };
  few = omega (arith, y.few);
}

-- in the midst of instructions there is room for those that are left
pub turns_young : {L : Type 0} (stands : Stands L) (image : ImageView) (h : History) (i n left : ℕ) (machine : MachineView) (listener : L) →
    IsImage image → HaveBodies image h → length h + n + 2 < 2 ^ 53 → i + left ≤ n → StandAt stands image machine listener (turns image i h) →
    AreYoung stands image machine listener left
turns_young stands image h i n left machine listener image_is b few within standing = record {
  history = turns image i h;
  standing = standing;
  bodies = turns_bodies image i h image_is b;
  few = omega (arith, turns_short image i h);
}

-- after the arrival of a slice there is room for its instructions
pub arrived_young : {L : Type 0} (stands : Stands L) (image : ImageView) (before after : MachineView) (old new : L) (mask : ℕ) (ports : List ℕ) (n : ℕ) →
    (y : AreYoung stands image before old 1048577) → n ≤ 1048576 → StandAt stands image after new (arrives image mask ports y.history) →
    AreYoung stands image after new n
arrived_young stands image before after old new mask ports n y short standing = record {
  history = arrives image mask ports y.history;
  standing = standing;
  bodies = arrives_bodies image mask ports y.history y.bodies;
  few = omega (arith, y.few, arrives_short image mask ports y.history);
}

-- instructions that add to no list keep them where the history is
pub quiet_stood : {L : Type 0} (stands : Stands L) (image : ImageView) (h : History) (n : ℕ) (before after : MachineView) (listener : L) →
    ((g k : History) → AddsNothing image g k → stands image g listener → stands image k listener) →
    StandAt stands image before listener h → before.kernel.running ≢ nobody → IsAt image after (turns image n h) →
    ((i : ℕ) → i < n → IsQuiet image (turns image i h)) → StandAt stands image after listener (turns image n h)
quiet_stood stands image h n before after listener rests standing somebody at quiet = record {
  at = at;
  stood = rests h (turns image n h) (quiet_turns image n h (somebody_at image before h standing.at somebody) quiet) standing.stood;
}

-- a machine and one who listens after a moment, as functions of those before
moment_heard : {L : Type 0} (hears : Hears L) (before after : MachineView) (old new : L) (task : ℕ) (told : Told) (m : Moment) →
    task ≡ before.kernel.running → Does before m told after → new ≡ hears after task told old →
    heard after new ≡ after_moment hears m (heard before old)
moment_heard hears before after old new task told m turn d is =
    ap (λ x. heard after x) is
    ∙ ap (λ (q : ℕ). heard after (hears after q told old)) turn
    ∙ ap (λ (t : Told). heard after (hears after before.kernel.running t old)) d.tells
    ∙ ap (λ (x : MachineView). heard x (hears x before.kernel.running (told_in before m) old)) d.machine

-- a machine and one who listens after an instruction, as functions of those before
turn_heard : {L : Type 0} (hears : Hears L) (image : ImageView) (before after : MachineView) (old new : L) (task : ℕ) (told : Told) →
    before.kernel.running ≢ nobody → task ≡ before.kernel.running → Does before (next_in image before) told after →
    new ≡ hears after task told old → heard after new ≡ after_turn hears image (heard before old)
unfolding after_turn
turn_heard hears image before after old new task told somebody turn d is =
    let m : Moment = next_in image before in
    let goes : (before.kernel.running == nobody) ≡ false = ne_eqb _ _ somebody in
    moment_heard hears before after old new task told m turn d is
    ∙ ap (λ (b : Bool). if b then heard before old else after_moment hears m (heard before old)) (sym goes)

-- and after an arrival
arrival_heard : {L : Type 0} (hears : Hears L) (mask : ℕ) (ports : List ℕ) (before after : MachineView) (old new : L) (task : ℕ) (told : Told) →
    before.kernel.ended ≡ 0 → task ≡ before.kernel.running → Does before (arrival (whole_in before) mask ports) told after →
    new ≡ hears after task told old → heard after new ≡ after_arrival hears mask ports (heard before old)
unfolding after_arrival
arrival_heard hears mask ports before after old new task told goes turn d is =
    let m : Moment = arrival (whole_in before) mask ports in
    let still : (before.kernel.ended == 0) ≡ true = eq-eqb _ _ goes in
    moment_heard hears before after old new task told m turn d is
    ∙ ap (λ (b : Bool). if b then after_moment hears m (heard before old) else heard before old) (sym still)

-- where the run has ended, nothing comes
pub none_heard : {L : Type 0} (hears : Hears L) (mask : ℕ) (ports : List ℕ) (machine : MachineView) (listener : L) → machine.kernel.ended ≢ 0 →
    heard machine listener ≡ after_arrival hears mask ports (heard machine listener)
unfolding after_arrival
none_heard hears mask ports machine listener ended = rw (ne_eqb _ _ ended) refl

pub none_arrives : (image : ImageView) (mask : ℕ) (ports : List ℕ) (machine : MachineView) (h : History) → IsAt image machine h →
    machine.kernel.ended ≢ 0 → arrives image mask ports h ≡ h
none_arrives image mask ports machine h at ended =
    rw (ne_eqb (now image h).kernel.ended 0 (λ e. ended (ap (λ (k : KernelState). k.ended) at.kernel ∙ e))) refl

-- several instructions
pub after_none : {L : Type 0} (hears : Hears L) (image : ImageView) (x : Heard L) → after_turns hears image 0 x ≡ x
unfolding after_turns
after_none hears image x = refl

pub after_more : {L : Type 0} (hears : Hears L) (image : ImageView) (n : ℕ) (x : Heard L) →
    after_turns hears image (n + 1) x ≡ after_turn hears image (after_turns hears image n x)
unfolding after_turns
after_more hears image n x = rw add-one refl

-- some instructions, and one more
pub then_heard : {L : Type 0} (hears : Hears L) (image : ImageView) (n : ℕ) (first middle last : Heard L) → middle ≡ after_turns hears image n first →
    last ≡ after_turn hears image middle → last ≡ after_turns hears image (n + 1) first
then_heard hears image n first middle last so_far one = one ∙ ap (after_turn hears image) so_far ∙ sym (after_more hears image n first)

-- where nobody runs, no instruction follows
pub after_idle : {L : Type 0} (hears : Hears L) (image : ImageView) (n k : ℕ) (x : Heard L) →
    (after_turns hears image n x).machine.kernel.running ≡ nobody → after_turns hears image (n + k) x ≡ after_turns hears image n x
unfolding after_turn
after_idle hears image n zero x idle = ap (λ m. after_turns hears image m x) (add-zero n)
after_idle hears image n (suc k) x idle =
    let same = after_idle hears image n k x idle in
    let next : after_turns hears image (n + suc k) x ≡ after_turn hears image (after_turns hears image (n + k) x) =
    ap (λ m. after_turns hears image m x) (omega arith) ∙ after_more hears image (n + k) x in
    next ∙ ap (after_turn hears image) same ∙ rw (eq-eqb _ _ idle) refl

-- some instructions, and then some more
pub after_add : {L : Type 0} (hears : Hears L) (image : ImageView) (a b : ℕ) (x : Heard L) →
    after_turns hears image (a + b) x ≡ after_turns hears image b (after_turns hears image a x)
after_add hears image a zero x = ap (λ n. after_turns hears image n x) (add-zero a) ∙ sym (after_none hears image (after_turns hears image a x))
after_add hears image a (suc b) x =
    let last : a + suc b ≡ (a + b) + 1 = omega arith in
    let more : b + 1 ≡ suc b = omega arith in
    ap (λ n. after_turns hears image n x) last ∙ after_more hears image (a + b) x ∙ ap (after_turn hears image) (after_add hears image a b x) ∙
    sym (after_more hears image b (after_turns hears image a x)) ∙ ap (λ n. after_turns hears image n (after_turns hears image a x)) more

-- instructions that add to no list are not heard
pub quiet_heard : {L : Type 0} (hears : Hears L) (image : ImageView) (n : ℕ) (before after : MachineView) (listener : L) →
    ((machine : MachineView) (task : ℕ) → hears machine task told_going_on listener ≡ listener) → before.kernel.running ≢ nobody →
    DoesQuietly image n before after → heard after listener ≡ after_turns hears image n (heard before listener)
unfolding after_turns DoesQuietly
quiet_heard hears image zero before after listener unheard somebody same = ap (λ (m : MachineView). heard m listener) same
quiet_heard hears image (suc n) before after listener unheard somebody (between, (so_far, d)) =
    turn_heard hears image between after listener listener between.kernel.running told_going_on
    (λ e. somebody (sym (quietly_runs n image before between so_far) ∙ e)) refl d (sym (unheard after between.kernel.running)) ∙
    ap (after_turn hears image) (quiet_heard hears image n before between listener unheard somebody so_far)

-- what holds where one who listened did not refuse
pub on_ok : {T E : Type 0} (r : Result T E) (P Q : Type 0) → (P → Q) → OnOk r P → OnOk r Q
on_ok (Ok x) P Q f p = f p
on_ok (Err e) P Q f p = tt

-- where the machine has come by a moment that was heard
pub turn_stood : {L : Type 0} (stands : Stands L) (image : ImageView) (h : History) (before after : MachineView) (new : L) → IsAt image before h →
    before.kernel.running ≢ nobody → IsAt image after (turned image h) → stands image (next_moment image h ∷ h) new →
    StandAt stands image after new (turned image h)
turn_stood stands image h before after new at somebody later stood = record {
  at = later;
  stood = subst (λ (g : History). stands image g new) (sym (turned_on image h (somebody_at image before h at somebody))) stood;
}

pub arrival_stood : {L : Type 0} (stands : Stands L) (image : ImageView) (mask : ℕ) (ports : List ℕ) (h : History) (before after : MachineView) (new : L) →
    IsAt image before h → before.kernel.ended ≡ 0 → IsAt image after (arrives image mask ports h) →
    stands image (arrival (now image h) mask ports ∷ h) new → StandAt stands image after new (arrives image mask ports h)
arrival_stood stands image mask ports h before after new at goes later stood = record {
  at = later;
  stood = subst (λ (g : History). stands image g new)
      (sym (arrives_goes image h mask ports (sym (ap (λ (k : KernelState). k.ended) at.kernel) ∙ goes))) stood;
}

-- a slice is its arrival and its instructions
slice_is : {L : Type 0} (hears : Hears L) (image : ImageView) (s : Slice) (x : Heard L) →
    after_turns hears image s.length (after_arrival hears s.mask s.ports x) ≡ after_slice hears image s x
unfolding after_slice
slice_is hears image s x = refl

-- where one who listened did not refuse
pub turn_heard_ok : {L T E : Type 0} (r : Result T E) (hears : Hears L) (image : ImageView) (before after : MachineView) (old new : L)
    (task : ℕ) (told : Told) → before.kernel.running ≢ nobody → task ≡ before.kernel.running → Does before (next_in image before) told after →
    OnOk r (new ≡ hears after task told old) → OnOk r (heard after new ≡ after_turn hears image (heard before old))
turn_heard_ok r hears image before after old new task told somebody turn d ok =
    on_ok r (new ≡ hears after task told old) (heard after new ≡ after_turn hears image (heard before old))
    (λ is. turn_heard hears image before after old new task told somebody turn d is) ok

pub arrival_heard_ok : {L T E : Type 0} (r : Result T E) (hears : Hears L) (mask : ℕ) (ports : List ℕ) (before after : MachineView) (old new : L)
    (task : ℕ) (told : Told) → before.kernel.ended ≡ 0 → task ≡ before.kernel.running → Does before (arrival (whole_in before) mask ports) told after →
    OnOk r (new ≡ hears after task told old) → OnOk r (heard after new ≡ after_arrival hears mask ports (heard before old))
arrival_heard_ok r hears mask ports before after old new task told goes turn d ok =
    on_ok r (new ≡ hears after task told old) (heard after new ≡ after_arrival hears mask ports (heard before old))
    (λ is. arrival_heard hears mask ports before after old new task told goes turn d is) ok

-- instructions after an arrival are a slice
pub slice_heard_ok : {L T E : Type 0} (r : Result T E) (hears : Hears L) (image : ImageView) (s : Slice) (first middle last : Heard L) →
    middle ≡ after_arrival hears s.mask s.ports first → OnOk r (last ≡ after_turns hears image s.length middle) →
    OnOk r (last ≡ after_slice hears image s first)
slice_heard_ok r hears image s first middle last arrived ok =
    on_ok r (last ≡ after_turns hears image s.length middle) (last ≡ after_slice hears image s first)
    (λ is. is ∙ ap (after_turns hears image s.length) arrived ∙ slice_is hears image s first) ok

-- the lists of the run gain what is told
next_gain : (image : ImageView) (h : History) (m : Moment) → IsNext image h m → Gains image m h (told_of image m h) (running_at image h)
next_gain image h m (Turns somebody) = turns_gain image h
next_gain image h m (Comes mask ports) = arrivals_gain image h mask ports (running_at image h)

pub news_gain : (image : ImageView) (h : History) (m : Moment) (machine : MachineView) (task : ℕ) (told : Told) → IsNews image h m machine task told →
    Gains image m h told task
news_gain image h m machine task told news =
    subst (λ (k : ℕ). Gains image m h told k) (sym news.turn)
    (subst (λ (t : Told). Gains image m h t (running_at image h)) (sym news.tells) (next_gain image h m news.next))
