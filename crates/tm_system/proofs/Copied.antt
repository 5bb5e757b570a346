-- Tasks of equal sizes, one by one.
use Rattle.std.proofs.Common.{◌≡◌, ℕ, ◌<◌, List, length, get_or, ap, sym, ◌∙◌, arith}
use Rattle.std.proofs.lemmas.List.{length-map, get_or-map}
use Rattle.tm_task.specs.Standing.{TaskView}
use Rattle.tm_system.specs.Parts.{word_counts}

abbrev count : TaskView → ℕ
count t = length t.standing.body.words

pub same_numbers : (one other : List TaskView) → word_counts one ≡ word_counts other → length one ≡ length other
same_numbers one other same = sym (length-map one count) ∙ ap length same ∙ length-map other count

pub same_counts : (one other : List TaskView) → word_counts one ≡ word_counts other →
    (k : ℕ) (d e : TaskView) → k < length other → count (get_or one k d) ≡ count (get_or other k e)
same_counts one other same k d e below =
    let long : length one ≡ length other = same_numbers one other same in
    sym (get_or-map count one k d 0 (omega arith)) ∙ ap (λ l. get_or l k 0) same ∙ get_or-map count other k e 0 below
