use Rattle.std.proofs.Common.{◌≡◌, ◌-◌, length, slice_index, ◌∙◌, arith, rules}
use Rattle.tm_image_text.proofs.Used.{used_less}
use Rattle.tm_image_text.proofs.lines.used.Goals as goal

pub loop-used-preserved : goal.loop-used-preserved
loop-used-preserved c =
    let last : slice_index c.loop-used.used.now (length c.loop-used.used.now - 1) ≡ 0 = search rules in
    record {
      same = used_less c.loop-used.used.now (omega arith) last ∙ c.loop-used.invariant.same;
      few = search rules;
    }
