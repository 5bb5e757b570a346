-- No plant's answer is want of memory.
use Rattle.std.proofs.Common.{ℕ, ◌+◌, false, ◌||◌, List, [], ◌∷◌, Ok, ltb, eqb}
use Rattle.std.specs.Prelude.{codes}
use Rattle.tm_lines.specs.Steps.{◌>>=◌}
use Rattle.tm_lines.specs.Lines.{pieces, header, from_header, lines_on}
use Rattle.tm_lines.specs.Laws.{NeverMemory}
use Rattle.tm_lines.proofs.Calm.{IsCalm, ok, form, choice, then_on, tests, number_calm, from_number, gives, goes_on, header_never, lines_never}
use Rattle.tm_plant.specs.declared.plant.Act.{Act}
use Rattle.tm_plant.specs.declared.plant.Act.TheVariants as act
use Rattle.tm_plant.specs.declared.said.Keyword.{Keyword}
use Rattle.tm_plant.specs.declared.said.Keyword.TheVariants.{Device, Raise, Set, Hold}
use Rattle.tm_plant.specs.Said.{keyword_in, device_in, raise_in, set_in, hold_in}
use Rattle.tm_plant.specs.declared.said.RaiseLine.{RaiseLine}
use Rattle.tm_plant.specs.declared.said.SetLine.{SetLine}
use Rattle.tm_plant.specs.declared.said.HoldLine.{HoldLine}
use Rattle.tm_plant.specs.Plant.{raises_in, with_act, is_no_device, is_full, new_device, new_raise, new_set, new_hold, words_on, plant_line, plant_of}

keyword_calm : (token : List ℕ) → IsCalm (keyword_in token)
keyword_calm token = search (choice, ok, form) depth 12

device_calm : (words : List (List ℕ)) → IsCalm (device_in words)
device_calm [] = form
device_calm (a ∷ []) = number_calm a
device_calm (a ∷ b ∷ rest) = form

raise_calm : (words : List (List ℕ)) → IsCalm (raise_in words)
raise_calm [] = form
raise_calm (a ∷ []) = form
raise_calm (a ∷ b ∷ []) = form
raise_calm (a ∷ b ∷ c ∷ []) = from_number a _ (λ d. from_number b _ (λ l. from_number c _ (λ t. ok _)))
raise_calm (a ∷ b ∷ c ∷ d ∷ rest) = form

set_calm : (words : List (List ℕ)) → IsCalm (set_in words)
set_calm [] = form
set_calm (a ∷ []) = form
set_calm (a ∷ b ∷ []) = form
set_calm (a ∷ b ∷ c ∷ []) = from_number a _ (λ d. from_number b _ (λ p. from_number c _ (λ v. ok _)))
set_calm (a ∷ b ∷ c ∷ d ∷ rest) = form

hold_calm : (words : List (List ℕ)) → IsCalm (hold_in words)
hold_calm [] = form
hold_calm (a ∷ []) = form
hold_calm (a ∷ b ∷ []) = form
hold_calm (a ∷ b ∷ c ∷ []) = from_number a _ (λ d. from_number b _ (λ l. from_number c _ (λ t. ok _)))
hold_calm (a ∷ b ∷ c ∷ d ∷ rest) = form

new_raise_calm : (devices : List (List Act)) (r : RaiseLine) → IsCalm (new_raise devices r)
new_raise_calm devices r =
    tests (is_no_device devices r.device || ltb 15 r.line || eqb r.times 0) false (is_full devices || ltb 1048576 (raises_in devices + r.times))
    (with_act devices r.device (act.Raise r.line r.times))

new_set_calm : (devices : List (List Act)) (s : SetLine) → IsCalm (new_set devices s)
new_set_calm devices s =
    tests (is_no_device devices s.device || ltb 3 s.port) false (is_full devices) (with_act devices s.device (act.Set s.port s.value))

new_hold_calm : (devices : List (List Act)) (h : HoldLine) → IsCalm (new_hold devices h)
new_hold_calm devices h =
    tests (is_no_device devices h.device || ltb 15 h.line || ltb 65536 h.turns) false (is_full devices)
    (with_act devices h.device (act.Hold h.line h.turns))

words_calm : (devices : List (List Act)) (keyword : Keyword) (words : List (List ℕ)) → IsCalm (words_on devices keyword words)
words_calm devices Device words = then_on (device_in words) (new_device devices) (device_calm words) (λ d. tests _ _ _ _)
words_calm devices Raise words = then_on (raise_in words) (new_raise devices) (raise_calm words) (new_raise_calm devices)
words_calm devices Set words = then_on (set_in words) (new_set devices) (set_calm words) (new_set_calm devices)
words_calm devices Hold words = then_on (hold_in words) (new_hold devices) (hold_calm words) (new_hold_calm devices)

line_calm : (devices : List (List Act)) (words : List (List ℕ)) → IsCalm (plant_line devices words)
line_calm devices [] = form
line_calm devices (first ∷ words) = then_on (keyword_in first) _ (keyword_calm first) (λ keyword. words_calm devices keyword words)

pub plant_never : (bytes : List ℕ) → NeverMemory (plant_of bytes)
unfolding plant_of
plant_never bytes =
    goes_on (from_header (header (codes "tmplant") (codes "1")) 1 (pieces bytes)) (λ (body : ℕ × List (List ℕ)). lines_on plant_line body.0 [] body.1 >>= (λ (last : ℕ × List (List Act)). Ok last.1))
    (header_never (header (codes "tmplant") (codes "1")) 1 (pieces bytes))
    (λ body. goes_on (lines_on plant_line body.0 [] body.1) (λ (last : ℕ × List (List Act)). Ok last.1) (lines_never plant_line body.0 [] body.1 line_calm) (λ last. gives last.1))
