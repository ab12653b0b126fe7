-- Numbered lists by what they come from: what was there before, and then what a file declares.
use Rattle.std.specs.Prelude.{◌⊎◌, ◌++◌, List, [], ◌∷◌, map}
use Rattle.std.proofs.Common.{inl, inr}
use Rattle.std.specs.List.{AllZip}

-- what was there before and what the file declares, in order
abbrev pub sources : {A B : Type 0} → List A → List B → List (A ⊎ B)
sources before declared = map inl before ++ map inr declared

-- it comes from what was there by the first relation, and from what is declared by the second
abbrev pub IsFrom : {A B C : Type 0} → (A → C → Type 0) → (B → C → Type 0) → A ⊎ B → C → Type 0
IsFrom IsMoved IsWritten (inl x) y = IsMoved x y
IsFrom IsMoved IsWritten (inr x) y = IsWritten x y

-- the second list has those of the first that lead, and the third has the others, each in their order
pub data Splits {X : Type 0} (IsLeading : X → Type 0) : List X → List X → List X → Type 0 where
  nothing : Splits IsLeading [] [] []
  leads : {x : X} {xs leading following : List X} → IsLeading x → Splits IsLeading xs leading following
      → Splits IsLeading (x ∷ xs) (x ∷ leading) following
  follows : {x : X} {xs leading following : List X} → ¬ IsLeading x → Splits IsLeading xs leading following
      → Splits IsLeading (x ∷ xs) leading (x ∷ following)

-- the rows are those of the elements: first of those that lead, and then of the others
pub record AreGrouped {X Y : Type 0} (IsLeading : X → Type 0) (IsRow : X → Y → Type 0) (xs : List X) (rows : List Y) : Type 0 where
  pub leading : List X
  pub following : List X
  pub splits : Splits IsLeading xs leading following
  pub are_rows : AllZip IsRow (leading ++ following) rows
