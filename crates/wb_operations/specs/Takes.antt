-- Lists of kinds that operations take, and the plain values of such lists.
use Rattle.std.specs.Prelude.{ℕ, ℤ, Bool, List, [], ◌∷◌}
use Rattle.wb_base.specs.declared.symbol.Kind.{Kind}
use Rattle.wb_base.specs.declared.symbol.Kind.TheVariants as kind
use Rattle.wb_values.specs.Tree.{Plain, int, bool, text}
use Rattle.wb_operations.specs.Given.{Given, fails}

-- an int
abbrev pub one_int : List Kind
one_int = kind.Int ∷ []

-- two ints
abbrev pub two_ints : List Kind
two_ints = kind.Int ∷ kind.Int ∷ []

-- a truth value
abbrev pub one_bool : List Kind
one_bool = kind.Bool ∷ []

-- two truth values
abbrev pub two_bools : List Kind
two_bools = kind.Bool ∷ kind.Bool ∷ []

-- a text
abbrev pub one_text : List Kind
one_text = kind.Text ∷ []

-- two texts
abbrev pub two_texts : List Kind
two_texts = kind.Text ∷ kind.Text ∷ []

-- what is given for an int; of other values it doesn't matter what is given
abbrev pub of_int : (ℤ → Given) → List Plain → Given
of_int given (int x ∷ []) = given x
of_int given _ = fails 0

-- what is given for two ints
abbrev pub of_ints : (ℤ → ℤ → Given) → List Plain → Given
of_ints given (int x ∷ int y ∷ []) = given x y
of_ints given _ = fails 0

-- what is given for a truth value
abbrev pub of_bool : (Bool → Given) → List Plain → Given
of_bool given (bool x ∷ []) = given x
of_bool given _ = fails 0

-- what is given for two truth values
abbrev pub of_bools : (Bool → Bool → Given) → List Plain → Given
of_bools given (bool x ∷ bool y ∷ []) = given x y
of_bools given _ = fails 0

-- what is given for a text
abbrev pub of_text : (List ℕ → Given) → List Plain → Given
of_text given (text x ∷ []) = given x
of_text given _ = fails 0

-- what is given for two texts
abbrev pub of_texts : (List ℕ → List ℕ → Given) → List Plain → Given
of_texts given (text x ∷ text y ∷ []) = given x y
of_texts given _ = fails 0
