use Rattle.std.proofs.Common.{◌≡◌, ℕ, ◌+◌, List, [], ◌∷◌, ◌++◌, refl, sym, ap, ◌∙◌, subst, arith}
use Rattle.tm_marker.specs.declared.entries.Slice.{Slice}
use Rattle.tm_record.specs.StandsFor.{RecorderView, StandsFor}
use Rattle.tm_make.specs.Script.{next_number, number_after, slice_by, slices_from}
use Rattle.tm_make.proofs.Slices.{no_slices, number_more, slices_more}
use Rattle.tm_make.proofs.recorded.play.Goals as goal

pub loop-init : goal.loop-init
unfolding number_after
loop-init c = record {
  last = refl;
  counted = c.requires.booted;
  stands = λ image stood. subst (λ (script : List Slice). StandsFor image c.args.recorder.now script) (sym (no_slices c.args.number)) stood;
}

pub loop-preserved : goal.loop-preserved
loop-preserved c =
    let before = c.loop.invariant in
    let last : c.next_number-last.result ≡ number_after c.args.number (c.loop.counter + 1) =
    c.next_number-last.ensures ∙ ap next_number before.last ∙ sym (number_more c.args.number c.loop.counter) in
    let one : slices_from c.args.number c.loop.counter ++ c.slice_by.result ∷ [] ≡ slices_from c.args.number (c.loop.counter + 1) =
    ap (λ s. slices_from c.args.number c.loop.counter ++ s ∷ []) (c.slice_by.ensures.slice ∙ ap slice_by last) ∙
    sym (slices_more c.args.number c.loop.counter) in
    let counted : c.slice.new.self.slices ≡ c.loop.recorder.slices + 1 = ap (λ (r : RecorderView). r.slices) c.slice.ensures.stepped in
    record {
      last = last;
      counted = omega (arith, counted, before.counted);
      stands = λ image stood. subst (λ (script : List Slice). StandsFor image c.slice.new.self script) one
          (c.slice.ensures.stands image (slices_from c.args.number c.loop.counter) (before.stands image stood));
    }

pub returns : goal.returns
returns c = λ image stood.
    let all : c.loop.counter ≡ 20000 = omega (arith, c.loop.auto.counter-end, c.loop-test.false) in
    subst (λ (n : ℕ). StandsFor image c.loop.recorder (slices_from c.args.number n)) all (c.loop.invariant.stands image stood)
