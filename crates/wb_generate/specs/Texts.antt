-- The texts of leaves: each the least of its expression, with the least of the layout between two.
use Rattle.std.specs.Prelude.{◌≡◌, ℕ, List, Option, Some, None, [], ◌∷◌, ◌++◌, slice_index_or}
use Rattle.std.specs.List.{AllZip}
use Rattle.wb_regex.specs.Tree.{Tree}
use Rattle.wb_automata.specs.Overlaps.{IsLeastMatch}

-- the text at a place
abbrev pub text_at : List (List ℕ) → ℕ → List ℕ
text_at texts t = slice_index_or texts t []

-- the text between two leaves: nothing where there is no layout
abbrev pub between_of : List (List ℕ) → Option ℕ → List ℕ
between_of texts None = []
between_of texts (Some layout) = text_at texts layout

-- the texts of further leaves, each after one between
abbrev pub further : List (List ℕ) → List ℕ → List ℕ → List ℕ
further texts between [] = []
further texts between (t ∷ made) = between ++ text_at texts t ++ further texts between made

-- the texts of leaves with one between each two
abbrev pub joined_texts : List (List ℕ) → List ℕ → List ℕ → List ℕ
joined_texts texts between [] = []
joined_texts texts between (t ∷ made) = text_at texts t ++ further texts between made

-- the text of leaves of these terminals, by the expressions and the place of the layout among them
pub record IsWritten (expressions : List Tree) (layout : Option ℕ) (made text : List ℕ) : Type 0 where
  pub texts : List (List ℕ)
  pub least : AllZip IsLeastMatch expressions texts
  pub is : text ≡ joined_texts texts (between_of texts layout) made
