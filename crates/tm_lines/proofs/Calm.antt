-- No definition's answer is want of memory.
use Rattle.std.proofs.Common.{◌≡◌, ℕ, ◌+◌, ◌*◌, Bool, true, false, List, [], ◌∷◌, Result, Ok, Err, ap, if◌then◌else◌}
use Rattle.tm_lines.specs.declared.fault.Reason.{Reason}
use Rattle.tm_lines.specs.declared.fault.Reason.TheVariants.{Form, Number, Range, Missing, Memory}
use Rattle.tm_lines.specs.declared.fault.Fault.{Fault}
use Rattle.tm_lines.specs.Steps.{◌>>=◌, on_line, tested}
use Rattle.tm_lines.specs.Lines.{said, Header, is_opened, opening, from_header, go_on, step, lines_on}
use Rattle.tm_lines.specs.Numbers.{digit_in, hex_digit_in, digits_on, narrow, decimal_in, hex_in, number_in, word_in, all_in}
use Rattle.tm_lines.specs.Laws.{NeverMemory}

-- what a line gives is never want of memory
pub record IsCalm {A : Type 0} (answer : Result A Reason) : Type 0 where
  pub calm : answer ≡ Err Memory → ⊥

pub ok : {A : Type 0} (x : A) → IsCalm (Ok x)
ok x = record { calm = λ e. cc e }

pub form : {A : Type 0} → IsCalm {A = A} (Err Form)
form = record { calm = λ e. cc e }

pub number : {A : Type 0} → IsCalm {A = A} (Err Number)
number = record { calm = λ e. cc e }

pub range : {A : Type 0} → IsCalm {A = A} (Err Range)
range = record { calm = λ e. cc e }

pub missing : {A : Type 0} → IsCalm {A = A} (Err Missing)
missing = record { calm = λ e. cc e }

pub choice : {A : Type 0} (test : Bool) (yes' no' : Result A Reason) → IsCalm yes' → IsCalm no' → IsCalm (if test then yes' else no')
choice true yes' no' y n = y
choice false yes' no' y n = n

pub then_on : {A B : Type 0} (first : Result A Reason) (next : A → Result B Reason)
    → IsCalm first
    → ((x : A) → IsCalm (next x))
    → IsCalm (first >>= next)
then_on (Ok x) next f more = more x
then_on (Err reason) next f more = record { calm = λ e. f.calm (cc e) }

pub tests : {A : Type 0} (out again over : Bool) (made : A) → IsCalm (tested out again over made)
tests true again over made = record { calm = λ e. cc e }
tests false true over made = record { calm = λ e. cc e }
tests false false true made = record { calm = λ e. cc e }
tests false false false made = ok made

pub digit_calm : (c : ℕ) → IsCalm (digit_in c)
digit_calm c = choice _ _ _ (ok _) number

pub hex_digit_calm : (c : ℕ) → IsCalm (hex_digit_in c)
hex_digit_calm c = search (choice, ok, digit_calm)

pub digits_calm : (digit : ℕ → Result ℕ Reason) (base n : ℕ) (cs : List ℕ)
    → ((c : ℕ) → IsCalm (digit c))
    → IsCalm (digits_on digit base n cs)
digits_calm digit base n [] each = ok n
digits_calm digit base n (c ∷ cs) each =
    then_on (digit c) (λ d. digits_on digit base (base * n + d) cs) (each c)
    (λ d. digits_calm digit base (base * n + d) cs each)

pub narrow_calm : (n : ℕ) → IsCalm (narrow n)
narrow_calm n = choice _ _ _ (ok _) number

pub decimal_calm : (digits : List ℕ) → IsCalm (decimal_in digits)
decimal_calm digits =
    choice _ _ _
    (then_on (digits_on digit_in 10 0 digits) narrow (digits_calm digit_in 10 0 digits digit_calm) narrow_calm)
    number

pub hex_calm : (least most : ℕ) (digits : List ℕ) → IsCalm (hex_in least most digits)
hex_calm least most digits = choice _ _ _ (digits_calm hex_digit_in 16 0 digits hex_digit_calm) number

pub number_calm : (token : List ℕ) → IsCalm (number_in token)
unfolding number_in
number_calm [] = decimal_calm []
number_calm (c ∷ []) = decimal_calm (c ∷ [])
number_calm (c ∷ x ∷ digits) = choice _ _ _ (hex_calm 1 8 digits) (decimal_calm (c ∷ x ∷ digits))

pub word_calm : (token : List ℕ) → IsCalm (word_in token)
unfolding word_in
word_calm token = hex_calm 8 8 token

pub all_calm : (spelled : List ℕ → Result ℕ Reason) (tokens : List (List ℕ))
    → ((token : List ℕ) → IsCalm (spelled token))
    → IsCalm (all_in spelled tokens)
all_calm spelled [] each = ok []
all_calm spelled (token ∷ rest) each =
    then_on (spelled token) (λ n. all_in spelled rest >>= (λ ns. Ok (n ∷ ns))) (each token)
    (λ n. then_on (all_in spelled rest) (λ ns. Ok (n ∷ ns)) (all_calm spelled rest each) (λ ns. ok _))

-- a number, and what goes on with it
pub from_number : {B : Type 0} (token : List ℕ) (next : ℕ → Result B Reason) → ((n : ℕ) → IsCalm (next n)) → IsCalm (number_in token >>= next)
from_number token next more = then_on (number_in token) next (number_calm token) more

pub said_calm : (line : List ℕ) → IsCalm (said line)
said_calm line = choice _ _ _ (ok _) form

pub opened_calm : (name : Header) (found : List (List ℕ)) → IsCalm (is_opened name found)
opened_calm name [] = ok false
opened_calm name (first ∷ rest) = choice _ _ _ (ok true) form

pub opening_calm : (name : Header) (line : List ℕ) → IsCalm (opening name line)
opening_calm name line = then_on (said line) (is_opened name) (said_calm line) (opened_calm name)

pub go_on_calm : {S : Type 0} (next : S → List (List ℕ) → Result S Reason) (s : S) (found : List (List ℕ))
    → ((s : S) (words : List (List ℕ)) → IsCalm (next s words))
    → IsCalm (go_on next s found)
go_on_calm next s [] each = ok s
go_on_calm next s (first ∷ rest) each = each s (first ∷ rest)

pub step_calm : {S : Type 0} (next : S → List (List ℕ) → Result S Reason) (s : S) (line : List ℕ)
    → ((s : S) (words : List (List ℕ)) → IsCalm (next s words))
    → IsCalm (step next s line)
step_calm next s line each = then_on (said line) (go_on next s) (said_calm line) (λ found. go_on_calm next s found each)

-- the same of a file
abbrev failed : (A : Type 0) → Fault → Result A Fault
failed A fault = Err fault

-- two faults of one reason
pub reason_is : (line n : ℕ) (reason : Reason) (A : Type 0)
    → failed A (record { line = n; reason = reason }) ≡ failed A (record { line = line; reason = Memory })
    → reason ≡ Memory
reason_is line n reason A e =
    let told : Fault = record { line = n; reason = reason } in
    let want : Fault = record { line = line; reason = Memory } in
    let same : told ≡ want = cc e in
    ap (λ (f : Fault). f.reason) same

pub gives : {A : Type 0} (x : A) → NeverMemory (Ok x)
gives x = record { never = λ line e. cc e }

pub on_line_never : {A : Type 0} (n : ℕ) (r : Result A Reason) → IsCalm r → NeverMemory (on_line n r)
on_line_never n (Ok x) calm = gives x
on_line_never {A = A} n (Err reason) calm = record { never = λ line e. calm.calm (cc (reason_is line n reason A e)) }

pub goes_on : {A B : Type 0} (first : Result A Fault) (next : A → Result B Fault)
    → NeverMemory first
    → ((x : A) → NeverMemory (next x))
    → NeverMemory (first >>= next)
goes_on (Ok x) next f more = more x
goes_on (Err fault) next f more = record { never = λ line e. f.never line (cc e) }

pub header_never : (name : Header) (n : ℕ) (lines : List (List ℕ)) → NeverMemory (from_header name n lines)
header_never name n [] = record { never = λ line e. cc (reason_is line n Missing (ℕ × List (List ℕ)) e) }
header_never name n (line ∷ rest) =
    goes_on (on_line n (opening name line)) (λ (opened : Bool). if opened then Ok (n + 1, rest) else from_header name (n + 1) rest)
    (on_line_never n (opening name line) (opening_calm name line))
    (λ opened. either opened n rest (header_never name (n + 1) rest))
  where
    either : (opened : Bool) (n : ℕ) (rest : List (List ℕ)) → NeverMemory (from_header name (n + 1) rest) → NeverMemory (if opened then Ok (n + 1, rest) else from_header name (n + 1) rest)
    either true n rest more = gives (n + 1, rest)
    either false n rest more = more

pub lines_never : {S : Type 0} (next : S → List (List ℕ) → Result S Reason) (n : ℕ) (s : S) (lines : List (List ℕ))
    → ((s : S) (words : List (List ℕ)) → IsCalm (next s words))
    → NeverMemory (lines_on next n s lines)
lines_never next n s [] each = gives (n, s)
lines_never next n s (line ∷ rest) each =
    goes_on (on_line n (step next s line)) (λ t. lines_on next (n + 1) t rest)
    (on_line_never n (step next s line) (step_calm next s line each))
    (λ t. lines_never next (n + 1) t rest each)
