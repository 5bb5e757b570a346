-- One moment keeps machine and window where the history is.
use Rattle.std.proofs.Common.{◌≡◌, ◌≢◌, ℕ, ◌+◌, ◌^◌, ◌<◌, Bool, true, false, if◌then◌else◌, [], ◌∷◌, ◌++◌, length, get_or, unwrap_or, Option, Some, None, IfSome, refl, ap, sym, ◌∙◌, subst, arith, inl, inr}
use Rattle.std.proofs.lemmas.List.{get_or-map, length-map}
use Rattle.std.proofs.lemmas.Option.{unwrap_or-slice_get}
use Rattle.tm_marker.specs.declared.body.Body.{Body}
use Rattle.tm_marker.specs.declared.shape.Shape.{Shape}
use Rattle.tm_marker.specs.declared.entries.Switch.{Switch}
use Rattle.tm_marker.specs.declared.entries.DataEntry.{DataEntry}
use Rattle.tm_marker.specs.declared.entries.OutputEntry.{OutputEntry}
use Rattle.tm_task.specs.Exec.{Exec, Faults, Calls, Goes, exec}
use Rattle.tm_task.specs.Standing.{TaskView, task_view, boot_body}
use Rattle.tm_kernel.specs.State.{nobody}
use Rattle.tm_image.specs.Image.{Load, ImageView, load_of, entry_of, text_of, shape_of}
use Rattle.tm_ring.specs.Kept.{Holds}
use Rattle.tm_check.specs.Checkpoint.{checkpoint, KeptChecks, kept_checks, HoldsChecks}
use Rattle.tm_log.specs.Window.{WindowView, IsWindow, log_of, checks_of}
use Rattle.tm_system.specs.declared.machine.Told.{Told}
use Rattle.tm_system.specs.History.{Steps, Whole, Moment, History}
use Rattle.tm_system.specs.Run.{now, running_at, body_at, moment_by, next_moment}
use Rattle.tm_system.specs.Marks.{is_start, backs}
use Rattle.tm_system.specs.Controls.{controls, entries, outputs, checkpoints}
use Rattle.tm_system.specs.Gaining.{Gains, checkpoint_at, gained_check}
use Rattle.tm_system.specs.Machine.{MachineView, IsAt, told_of, checkpoint_told}
use Rattle.tm_system.specs.Moving.{task_in}
use Rattle.tm_system.specs.Bodies.{HaveBodies}
use Rattle.tm_system.specs.Hearing.{IsNext, Turns, Comes, IsNews, CanHear}
use Rattle.tm_system.proofs.Hearing.{news_gain}
use Rattle.tm_system.proofs.Texts.{controls_few}
use Rattle.tm_record.specs.Window.{HoldsLists}
use Rattle.tm_record.specs.Recording.{checkpoint_now, noted, entry_noted, check_noted, output_noted, switch_noted, HasRoom, Concerns, IsNoted}
use Rattle.tm_record.proofs.Lists.{Keeps, keeps_entry, keeps_check, keeps_output, keeps_switch}
use Rattle.tm_system.proofs.Counts.{entries_few, outputs_few, checkpoints_few}

-- a window's shape has as many tasks as the image, and so have its lists
pub shape_tasks : (image : ImageView) (w : WindowView) → w.shape ≡ shape_of image → length w.shape.words ≡ length image.loads
shape_tasks image w s = ap (λ (x : Shape). length x.words) s ∙ length-map image.loads _

-- the lists of a window that holds those of a history
lists_kept : (image : ImageView) (w : WindowView) (h : History) → IsWindow w → w.shape ≡ shape_of image → HoldsLists image w h →
    Keeps w (length image.loads) (controls image h) (outputs h) (λ t. entries t h) (λ t. checkpoints image t h)
lists_kept image w h i s l = record {
  logs_number = i.logs ∙ shape_tasks image w s;
  checks_number = i.checks ∙ shape_tasks image w s;
  control = l.control;
  outputs = l.outputs;
  logs = l.logs;
  checks = l.checks;
}

-- the task's body in a machine that is where the history is
pub task_is : (image : ImageView) (machine : MachineView) (h : History) (t : ℕ) → IsAt image machine h → t < length image.loads →
    (task_in machine t).standing.body ≡ body_at image h t
task_is image machine h t at below =
    ap (λ (o : Option TaskView). (unwrap_or o (task_view 0 (boot_body 0 []) 0 0)).standing.body) (at.each t below)

same_checkpoint : (b c : Body) (d e n m : ℕ) → b ≡ c → d ≡ e → n ≡ m → checkpoint b d n ≡ checkpoint c e m
same_checkpoint b c d e n m p q r = cc

-- the checkpoint that is taken at a moment is that of the run
check_is : (image : ImageView) (machine : MachineView) (w : WindowView) (m : Moment) (h : History) (t : ℕ) → IsAt image machine (m ∷ h) →
    t < length image.loads → Holds (log_of w t) (entries t (m ∷ h)) → Holds w.control (controls image h) →
    checkpoint_now machine w t ≡ checkpoint_at image t m h
check_is image machine w m h t at below log control =
    same_checkpoint _ _ _ _ _ _ (task_is image machine (m ∷ h) t at below) log.total control.total

-- what is told of a moment, written into the window, keeps its lists those of the run
pub noted_lists : (image : ImageView) (machine : MachineView) (w : WindowView) (m : Moment) (h : History) (task : ℕ) (told : Told) →
    IsWindow w → w.shape ≡ shape_of image → HoldsLists image w h → IsAt image machine (m ∷ h) → Gains image m h told task →
    HoldsLists image (noted machine task told w) (m ∷ h)
noted_lists image machine w m h task told i s l at g =
    let n : ℕ = length image.loads in
    let first = keeps_entry w n task told.entry _ _ _ _ (lists_kept image w h i s l) in
    let w1 : WindowView = entry_noted task told.entry w in
    let second = keeps_check machine w1 n told.checkpoint _ _ _ _ first in
    let w2 : WindowView = check_noted machine told.checkpoint w1 in
    let third = keeps_output w2 n told.output _ _ _ _ second in
    let w3 : WindowView = output_noted told.output w2 in
    let last = keeps_switch w3 n told.switch _ _ _ _ third in
    record {
      control = subst (λ cs. Holds (noted machine task told w).control cs) (sym g.controls) last.control;
      outputs = subst (λ os. Holds (noted machine task told w).outputs os) (sym g.outputs) last.outputs;
      logs = λ t below. subst (λ es. Holds (log_of (noted machine task told w) t) es) (sym (g.entries t)) (last.logs t below);
      checks = λ t below.
          let log : Holds (log_of w1 t) (entries t (m ∷ h)) = subst (λ es. Holds (log_of w1 t) es) (sym (g.entries t)) (first.logs t below) in
          let is : checkpoint_now machine w1 t ≡ checkpoint_at image t m h = check_is image machine w1 m h t at below log first.control in
          subst (λ ks. HoldsChecks (checks_of (noted machine task told w) t) ks)
          (ap (λ k. checkpoints image t h ++ gained_check t told.checkpoint k) is ∙ sym (g.checkpoints t)) (last.checks t below);
    }

-- a moment's notes leave the shape
pub noted_shape : (machine : MachineView) (w : WindowView) (task : ℕ) (told : Told) → (noted machine task told w).shape ≡ w.shape
noted_shape machine w task told = by_parts told.entry told.checkpoint told.output told.switch
  where
    by_parts : (e : Option DataEntry) (c : Option ℕ) (o : Option OutputEntry) (s : Option Switch) →
        (switch_noted s (output_noted o (check_noted machine c (entry_noted task e w)))).shape ≡ w.shape
    by_parts None None None None = refl
    by_parts None None None (Some s) = refl
    by_parts None None (Some o) None = refl
    by_parts None None (Some o) (Some s) = refl
    by_parts None (Some c) None None = refl
    by_parts None (Some c) None (Some s) = refl
    by_parts None (Some c) (Some o) None = refl
    by_parts None (Some c) (Some o) (Some s) = refl
    by_parts (Some e) None None None = refl
    by_parts (Some e) None None (Some s) = refl
    by_parts (Some e) None (Some o) None = refl
    by_parts (Some e) None (Some o) (Some s) = refl
    by_parts (Some e) (Some c) None None = refl
    by_parts (Some e) (Some c) None (Some s) = refl
    by_parts (Some e) (Some c) (Some o) None = refl
    by_parts (Some e) (Some c) (Some o) (Some s) = refl

-- the checkpoints of a task have the number of data words of the image's task
pub check_size : (image : ImageView) (w : WindowView) (t : ℕ) → IsWindow w → w.shape ≡ shape_of image → t < length image.loads →
    (checks_of w t).words ≡ length (load_of image t).words
check_size image w t i s below =
    let many : length w.checks ≡ length image.loads = i.checks ∙ shape_tasks image w s in
    let no_load : Load = record { entry = 0; text = []; set = image.set; words = [] } in
    ap (λ (c : KeptChecks). c.words) (unwrap_or-slice_get w.checks t (kept_checks [] 0 0 0))
    ∙ sym (get_or-map (λ (c : KeptChecks). c.words) w.checks t (kept_checks [] 0 0 0) 0 (omega arith))
    ∙ ap (λ l. get_or l t 0) (i.check_words ∙ ap (λ (x : Shape). x.words) s)
    ∙ get_or-map (λ (l : Load). length l.words) image.loads t no_load 0 below
    ∙ ap (λ (l : Load). length l.words) (sym (unwrap_or-slice_get image.loads t no_load))

-- every list has room for one more item
pub has_room : (image : ImageView) (machine : MachineView) (w : WindowView) (g h : History) → IsWindow w → w.shape ≡ shape_of image →
    HoldsLists image w g → IsAt image machine h → HaveBodies image h → length g + 2 < 2 ^ 53 → HasRoom machine w
has_room image machine w g h i s l at b few = record {
  tasks = shape_tasks image w s ∙ sym at.tasks;
  control = omega (arith, l.control.total, controls_few image g);
  outputs = omega (arith, l.outputs.total, outputs_few g);
  logs = λ t below. omega (arith, (l.logs t (rw (sym at.tasks) below)).total, entries_few t g);
  checks = λ t below. omega (arith, (l.checks t (rw (sym at.tasks) below)).total, checkpoints_few image t g);
  sizes = λ t below.
      let there : t < length image.loads = rw (sym at.tasks) below in
      ap (λ (b : Body). length b.words) (task_is image machine h t at there) ∙ (b.each t there).words ∙ sym (check_size image w t i s there);
}

picked_concerns : (b : Bool) (r n : ℕ) → r < n → IfSome (if b then Some r else None) (λ o. o < n)
picked_concerns true r n below = below
picked_concerns false r n below = tt

-- a checkpoint is taken of the task whose turn it is
checkpoint_concerns : (entry : ℕ) (w : Whole) (r : ℕ) (b : Body) (e : Exec) (h : History) (n : ℕ) → r < n →
    IfSome (checkpoint_told (moment_by entry w r b e).deed h) (λ o. o < n)
checkpoint_concerns entry w r b (Goes next back) h n below = picked_concerns (is_start r (Steps r back) (backs r h)) r n below
checkpoint_concerns entry w r b (Calls service) h n below =
    picked_concerns (is_start r (moment_by entry w r b (Calls service)).deed (backs r h)) r n below
checkpoint_concerns entry w r b (Faults cause) h n below = tt

if_some_any : {A : Type 0} (o : Option A) (P : Type 0) → P → IfSome o (λ x. P)
if_some_any None P p = tt
if_some_any (Some x) P p = p

-- what an instruction tells concerns the task that runs, and what an arrival tells concerns no task
told_concerns : (image : ImageView) (h : History) (m : Moment) (n : ℕ) → IsNext image h m → (running_at image h ≢ nobody → running_at image h < n) →
    Concerns n (running_at image h) (told_of image m h)
told_concerns image h m n (Turns somebody) there = record {
  entry = if_some_any (told_of image (next_moment image h) h).entry (running_at image h < n) (there somebody);
  checkpoint = checkpoint_concerns (entry_of image (running_at image h)) (now image h) (running_at image h) (body_at image h (running_at image h))
      (exec (text_of image (running_at image h)) (body_at image h (running_at image h))) h n (there somebody);
}
told_concerns image h m n (Comes mask ports) there = record { entry = tt; checkpoint = tt }

pub news_concerns : (image : ImageView) (h : History) (m : Moment) (machine : MachineView) (task : ℕ) (told : Told) → IsNews image h m machine task told →
    Concerns (length machine.tasks) task told
news_concerns image h m machine task told news =
    subst (λ (k : ℕ). Concerns (length machine.tasks) k told) (sym news.turn)
    (subst (λ (t : Told). Concerns (length machine.tasks) (running_at image h) t) (sym news.tells)
    (told_concerns image h m (length machine.tasks) news.next (λ somebody.
    elim news.whose [ inl e ↦ absurd (somebody (sym news.turn ∙ e)) | inr below ↦ rw (sym news.turn) (rw news.at.tasks below) ])))

-- what is told of a moment, noted
pub news_noted : (image : ImageView) (h : History) (m : Moment) (machine : MachineView) (w : WindowView) (task : ℕ) (told : Told) → IsWindow w →
    IsNews image h m machine task told → IsNoted image h w → IsNoted image (m ∷ h) (noted machine task told w)
news_noted image h m machine w task told i news n = record {
  shape = noted_shape machine w task told ∙ n.shape;
  lists = noted_lists image machine w m h task told i n.shape n.lists news.at (news_gain image h m machine task told news);
}

-- there is room for what is told
pub news_room : (machine : MachineView) (task : ℕ) (told : Told) (w : WindowView) → IsWindow w → CanHear IsNoted machine task told w → HasRoom machine w
news_room machine task told w i c =
    has_room c.image machine w c.history (c.moment ∷ c.history) i c.stood.shape c.stood.lists c.news.at c.bodies c.few
