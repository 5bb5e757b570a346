-- What holds of the table as a whole.
use Rattle.std.specs.Prelude.{◌≡◌, ℕ, Some, slice_get, IsTrue}
use Rattle.tm_rv.specs.declared.instr.Set.{Set}
use Rattle.tm_rv.specs.Table.{Row, rows, belongs}

-- no word belongs to two rows of a set's table: where it belongs to the rows of two places, the places are one
abbrev pub NoWordInTwoRows : Type 0
NoWordInTwoRows =
    (set : Set) (word i j : ℕ) (r s : Row) →
    slice_get (rows set) i ≡ Some r → slice_get (rows set) j ≡ Some s → IsTrue (belongs word r) → IsTrue (belongs word s) → i ≡ j
