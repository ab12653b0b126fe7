-- Derivation trees as they are written in one line, and the terminals of their leaves.
use Rattle.std.specs.Prelude.{ℕ, List, [], ◌∷◌, ◌++◌}
use Rattle.wb_grammar_theory.specs.Trees.{Forest, nothing, leaf, node}
use Rattle.wb_explain_readings.specs.declared.piece.Piece.{Piece}
use Rattle.wb_explain_readings.specs.declared.piece.Piece.TheVariants.{Open, Leaf, Close}

-- trees one after another: a leaf by its terminal; a node by its production, what its children are written as, and a closing bracket
abbrev pub written : Forest → List Piece
written nothing = []
written (leaf t text rest) = Leaf t ∷ written rest
written (node p a children rest) = Open p ∷ (written children ++ Close ∷ written rest)

-- the terminals of the leaves, from left to right
abbrev pub terminals : Forest → List ℕ
terminals nothing = []
terminals (leaf t text rest) = t ∷ terminals rest
terminals (node p a children rest) = terminals children ++ terminals rest
