-- What adds to no list changes nothing that a teller told, nor what it has to tell.
use Rattle.std.proofs.Common.{◌≡◌, ℕ, [], ◌++◌, length, ap, sym, ◌∙◌, zero-le, Some, List}
use Rattle.std.proofs.lemmas.List.{append-nil}
use Rattle.std.specs.Prelude.{flat_map}
use Rattle.tm_kernel.specs.State.{nobody}
use Rattle.tm_spelling.specs.Story.{Block, start_text, block_text}
use Rattle.tm_image.specs.Image.{ImageView}
use Rattle.tm_system.specs.History.{History}
use Rattle.tm_system.specs.Run.{running_at}
use Rattle.tm_system.specs.Telling.{below, start_at, pending}
use Rattle.tm_system.specs.Machine.{MachineView, told_going_on}
use Rattle.tm_system.specs.Quiet.{AddsNothing}
use Rattle.tm_prog.specs.Teller.{TellerView, HasTold, after_telling}

pub nothing_told : (machine : MachineView) (task : ℕ) (teller : TellerView) → after_telling machine task told_going_on teller ≡ teller
nothing_told machine task teller = ap (λ o. (let t : TellerView = record teller { pending = o } in t)) (append-nil teller.pending)

pub still_told : (image : ImageView) (h g : History) (teller : TellerView) → AddsNothing image h g → HasTold image h teller → HasTold image g teller
still_told image h g teller nothing t = record {
  text = t.text ∙ ap (λ (bs : List Block). start_text 0 nobody (below (length image.loads) (start_at image [])) ++ flat_map block_text bs) (sym (nothing.blocks 0));
  entries = t.entries ∙ ap length (sym nothing.controls);
  tasks = t.tasks;
  printed = λ task within. t.printed task within ∙ ap Some (sym (nothing.printed 0 task zero-le));
  pending = t.pending ∙ sym (nothing.pending (running_at image h)) ∙ ap (λ (r : ℕ). pending image r g) (sym nothing.running);
}
