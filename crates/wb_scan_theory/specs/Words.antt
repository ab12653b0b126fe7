-- The words of leaves: what a text shows of them.
use Rattle.std.specs.Prelude.{ℕ, List, [], ◌∷◌}
use Rattle.wb_grammar_theory.specs.Trees.{Leaf}

-- the terminals of leaves with their texts, and without their left contexts
abbrev pub words_of : List Leaf → List (ℕ × List ℕ)
words_of [] = []
words_of (x ∷ xs) = (x.terminal, x.text) ∷ words_of xs
