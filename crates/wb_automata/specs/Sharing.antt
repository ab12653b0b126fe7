-- The texts that two regular expressions of a list share, and expressions that match one text alone.
use Rattle.std.specs.Prelude.{◌≡◌, ◌<◌, ◌↔◌, ℕ, Bool, true, Option, Some, None, List, All, Contains, length, slice_get}
use Rattle.wb_regex.specs.Tree.{Tree}
use Rattle.wb_regex.specs.Matches.{Matches}
use Rattle.wb_automata.specs.Automata.{IsMatch}
use Rattle.wb_automata.specs.Order.{IsAtMost}
use Rattle.wb_automata.specs.declared.shared.SharedText.{SharedText}

-- both numbers of each pair are below the count
abbrev pub ArePairsBelow : ℕ → List (ℕ × ℕ) → Type 0
ArePairsBelow count pairs = All (λ (pair : ℕ × ℕ). (pair.0 < count) × (pair.1 < count)) pairs

-- the two expressions of the pair both match the text
abbrev pub BothMatch : List Tree → ℕ × ℕ → List ℕ → Type 0
BothMatch terminals pair text = IsMatch terminals pair.0 text × IsMatch terminals pair.1 text

-- the two expressions of some pair of the list both match the text
pub record IsShared (terminals : List Tree) (pairs : List (ℕ × ℕ)) (text : List ℕ) : Type 0 where
  pub pair : ℕ × ℕ
  pub listed : Contains pairs pair
  pub both : BothMatch terminals pair text

-- a pair of the list, whose two expressions both match the text, and no text that those of some pair both match is before it
pub record IsLeastSharedText (terminals : List Tree) (pairs : List (ℕ × ℕ)) (shared : SharedText) : Type 0 where
  pub listed : Contains pairs (shared.left, shared.right)
  pub both : BothMatch terminals (shared.left, shared.right) shared.text
  pub least : (text : List ℕ) → IsShared terminals pairs text → IsAtMost shared.text text

-- the least text that the two expressions of some pair share, or that those of no pair share one
abbrev pub IsSharedText : List Tree → List (ℕ × ℕ) → Option SharedText → Type 0
IsSharedText terminals pairs None = (text : List ℕ) → ¬ IsShared terminals pairs text
IsSharedText terminals pairs (Some shared) = IsLeastSharedText terminals pairs shared

-- the two expressions of the pair both match some text
pub record Share (terminals : List Tree) (pair : ℕ × ℕ) : Type 0 where
  pub text : List ℕ
  pub both : BothMatch terminals pair text

-- there is a flag for each pair, which is set exactly where its two expressions share a text
pub record AreSharing (terminals : List Tree) (pairs : List (ℕ × ℕ)) (flags : List Bool) : Type 0 where
  pub len : length flags ≡ length pairs
  pub each : (place : ℕ) (pair : ℕ × ℕ) (flag : Bool) → slice_get pairs place ≡ Some pair → slice_get flags place ≡ Some flag
      → (flag ≡ true) ↔ Share terminals pair

-- the expression matches the text, and no other
pub record IsOnlyMatch (tree : Tree) (text : List ℕ) : Type 0 where
  pub matches : Matches tree text
  pub only : (other : List ℕ) → Matches tree other → other ≡ text
