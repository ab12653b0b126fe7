-- Lists of leaves that share their beginnings.
use Rattle.std.specs.Prelude.{◌≡◌, ◌≤◌, ℕ, Some, List, [], ◌∷◌, ◌++◌, slice_get}
use Rattle.wb_automata_positions.specs.Rows.{row}
use Rattle.wb_automata.specs.declared.chains.Link.{Link}

-- a list with a leaf after it
abbrev pub list_by : List (List ℕ) → Link → List ℕ
list_by lists link = row lists link.before ++ link.leaf ∷ []

-- more lists, each made from one before it
abbrev pub lengthened : List (List ℕ) → List Link → List (List ℕ)
lengthened lists [] = lists
lengthened lists (link ∷ links) = lengthened (lists ++ list_by lists link ∷ []) links

-- the lists of links, after the empty one
unfoldable pub lists_of : List Link → List (List ℕ)
lists_of links = lengthened ([] ∷ []) links

-- each link comes after a list of an earlier one, or after the empty list
abbrev pub AreLinks : List Link → Type 0
AreLinks links = (j : ℕ) (link : Link) → slice_get links j ≡ Some link → link.before ≤ j

-- the list with the leaf after it has this number, and the lists before are as they were
pub record IsGone (old : List (List ℕ)) (before leaf : ℕ) (new : List (List ℕ)) (number : ℕ) : Type 0 where
  pub here : slice_get new number ≡ Some (row old before ++ leaf ∷ [])
  pub keeps : (j : ℕ) (list : List ℕ) → slice_get old j ≡ Some list → slice_get new j ≡ Some list
