-- What a table of keys and places knows of a list of declarations, of which some are covered.
use Rattle.std.specs.Prelude.{◌≡◌, ◌⊎◌, ◌<◌, ℕ, Bool, true, false, List, Some, length, Contains, slice_get}
use Rattle.wb_names_theory.specs.declared.declaration.Declaration.{Declaration}
use Rattle.wb_names_theory.specs.declared.declaration.Declaration.TheVariants as d
use Rattle.wb_names_theory.specs.Duplicate.{AreSame, Counts}
use Rattle.wb_names_rules.specs.declared.table.Pass.{Pass}
use Rattle.wb_names_rules.specs.declared.table.Pass.TheVariants.{Symbols, Others}
use Rattle.wb_names_rules.specs.Keys.{key_of}

-- the declaration of a symbol
abbrev pub is_symbol : Declaration → Bool
is_symbol (d.Symbol name is) = true
is_symbol other = false

-- a declaration at this place was passed over, where a pass has come up to some place
abbrev pub IsCovered : Pass → ℕ → ℕ → Declaration → Type 0
IsCovered Symbols upto at declaration = (is_symbol declaration ≡ true) × (at < upto)
IsCovered Others upto at declaration = (is_symbol declaration ≡ true) ⊎ (at < upto)

-- this place is kept for the key
pub record IsKept (keys : List (List ℕ)) (places : List ℕ) (key : List ℕ) (place : ℕ) : Type 0 where
  pub number : ℕ
  pub at_key : slice_get keys number ≡ Some key
  pub at_place : slice_get places number ≡ Some place

-- a declaration at this place has the key, was passed over, and counts
pub record HasKey (declared : List Declaration) (pass : Pass) (upto : ℕ) (key : List ℕ) (place : ℕ) : Type 0 where
  pub declaration : Declaration
  pub at : slice_get declared place ≡ Some declaration
  pub is_key : key ≡ key_of declaration
  pub covered : IsCovered pass upto place declaration
  pub counts : Counts declared declaration

-- the table has the keys of all declarations that were passed over and count, which are of different things
pub record IsIndexed (declared : List Declaration) (keys : List (List ℕ)) (places : List ℕ) (pass : Pass) (upto : ℕ) : Type 0 where
  pub len : length places ≡ length keys
  pub sound : (key : List ℕ) (place : ℕ) → IsKept keys places key place → HasKey declared pass upto key place
  pub complete : (at : ℕ) (one : Declaration) → slice_get declared at ≡ Some one → IsCovered pass upto at one → Counts declared one
      → Contains keys (key_of one)
  pub once : (i j : ℕ) (one other : Declaration) → slice_get declared i ≡ Some one → slice_get declared j ≡ Some other
      → IsCovered pass upto i one → IsCovered pass upto j other → Counts declared one → AreSame one other → i ≡ j
