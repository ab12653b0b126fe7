-- The terminals of trees that are written.
use Rattle.std.specs.Prelude.{ℕ, List, [], ◌∷◌}
use Rattle.wb_explain_readings.specs.declared.piece.Piece.{Piece}
use Rattle.wb_explain_readings.specs.declared.piece.Piece.TheVariants.{Open, Leaf, Close}

-- those of the leaves, from left to right
abbrev pub leaves : List Piece → List ℕ
leaves [] = []
leaves (Leaf t ∷ rest) = t ∷ leaves rest
leaves (Open p ∷ rest) = leaves rest
leaves (Close ∷ rest) = leaves rest
