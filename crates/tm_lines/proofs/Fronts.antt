-- What is found so far stands before what is still to come.
use Rattle.std.proofs.Common.{ℕ, List, ◌++◌, Result, Ok, Err}

abbrev pub with_front : {E : Type 0} → List ℕ → Result (List ℕ) E → Result (List ℕ) E
with_front front (Err e) = Err e
with_front front (Ok rest) = Ok (front ++ rest)
