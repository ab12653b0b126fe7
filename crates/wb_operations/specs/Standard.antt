-- The sixteen standard operations: the name, the kinds and the meaning of each, by its number.
use Rattle.std.specs.Prelude.{◌+ℤ◌, ◌-ℤ◌, ◌*ℤ◌, ◌&&◌, ◌||◌, ℕ, pos, neg_ℤ, not, List, [], ◌∷◌, length, map, codes, int_lt, slice_index_or}
use Rattle.std.specs.Ordering.{int_eq}
use Rattle.std.specs.Str.{bytes_eq}
use Rattle.std.specs.Fmt.{signed_decimal}
use Rattle.wb_base.specs.declared.symbol.Kind.{Kind}
use Rattle.wb_base.specs.declared.symbol.Kind.TheVariants as kind
use Rattle.wb_values.specs.Tree.{Plain, int, bool, text}
use Rattle.wb_operations.specs.Given.{Given, gives, fails}
use Rattle.wb_operations.specs.Operations.{OperationSignature}
use Rattle.wb_operations.specs.Takes.{one_int, two_ints, one_bool, two_bools, one_text, two_texts}
use Rattle.wb_operations.specs.Takes.{of_int, of_ints, of_bool, of_bools, of_text, of_texts}
use Rattle.wb_operations.specs.Rows.{inside, quotient, remainder, joined, number_of}

-- an operation: its signature, and what it gives
pub record StandardOperation : Type 0 where
  pub signature : OperationSignature
  pub given : List Plain → Given

-- the operation of this name, which takes and gives these kinds
abbrev pub row : List ℕ → List Kind → Kind → (List Plain → Given) → StandardOperation
row name takes kind given = record { signature = record { name = name; takes = takes; gives = kind }; given = given }

-- the standard operations, by their numbers
unfoldable pub standard_operations : List StandardOperation
standard_operations =
    row (codes "add") two_ints kind.Int (of_ints (λ x y. inside (x +ℤ y)))
    ∷ row (codes "sub") two_ints kind.Int (of_ints (λ x y. inside (x -ℤ y)))
    ∷ row (codes "mul") two_ints kind.Int (of_ints (λ x y. inside (x *ℤ y)))
    ∷ row (codes "div") two_ints kind.Int (of_ints quotient)
    ∷ row (codes "rem") two_ints kind.Int (of_ints remainder)
    ∷ row (codes "neg") one_int kind.Int (of_int (λ x. inside (neg_ℤ x)))
    ∷ row (codes "eq") two_ints kind.Bool (of_ints (λ x y. gives (bool (int_eq x y))))
    ∷ row (codes "less") two_ints kind.Bool (of_ints (λ x y. gives (bool (int_lt x y))))
    ∷ row (codes "same") two_texts kind.Bool (of_texts (λ x y. gives (bool (bytes_eq x y))))
    ∷ row (codes "not") one_bool kind.Bool (of_bool (λ x. gives (bool (not x))))
    ∷ row (codes "and") two_bools kind.Bool (of_bools (λ x y. gives (bool (x && y))))
    ∷ row (codes "or") two_bools kind.Bool (of_bools (λ x y. gives (bool (x || y))))
    ∷ row (codes "concat") two_texts kind.Text (of_texts joined)
    ∷ row (codes "length") one_text kind.Int (of_text (λ x. gives (int (pos (length x)))))
    ∷ row (codes "to_text") one_int kind.Text (of_int (λ x. gives (text (signed_decimal x))))
    ∷ row (codes "to_int") one_text kind.Int (of_text number_of)
    ∷ []

-- the operation of a number, and one that fails past the end
unfoldable pub standard_at : ℕ → StandardOperation
standard_at number = slice_index_or standard_operations number (row [] [] kind.Int (λ values. fails 0))

-- the signature of the operation of a number
abbrev pub standard_signature : ℕ → OperationSignature
standard_signature number = (standard_at number).signature

-- what the operation of a number gives
abbrev pub standard : ℕ → List Plain → Given
standard number = (standard_at number).given

-- the signatures of the standard operations
abbrev pub standard_signatures : List OperationSignature
standard_signatures = map (λ (o : StandardOperation). o.signature) standard_operations
