-- Conflicts of items with sets of lookaheads, and of a set of terminals that can be shifted.
use Rattle.std.specs.Prelude.{◌≡◌, ◌<◌, ℕ, Bool, List, [], Option, Some, None, Contains, length, slice_get}
use Rattle.wb_base.specs.Grammar.{GrammarView}
use Rattle.wb_grammar_theory.specs.Items.{after_dot}
use Rattle.wb_items.specs.declared.item_lookahead.ItemLookahead.{ItemLookahead}
use Rattle.wb_termset.specs.Sets.{IsMember}
use Rattle.wb_determinism.specs.declared.conflict.ActionPair.{ActionPair}
use Rattle.wb_determinism.specs.Conflicts.{IsShiftConflict, IsPairConflict, HasNoConflictAt}

-- the reduction of a listed item, with a shift of the terminal
pub record IsFoundShift (g : GrammarView) (shifts : List Bool) (row : List ItemLookahead) (t second : ℕ) : Type 0 where
  pub looks : ItemLookahead
  pub listed : Contains row looks
  pub second_is : second ≡ looks.item.production
  pub conflict : IsShiftConflict g shifts looks t

-- the reductions of two listed items
pub record IsFoundReduction (g : GrammarView) (row : List ItemLookahead) (t first second : ℕ) : Type 0 where
  pub one : ItemLookahead
  pub other : ItemLookahead
  pub one_listed : Contains row one
  pub other_listed : Contains row other
  pub first_is : first ≡ one.item.production
  pub second_is : second ≡ other.item.production
  pub conflict : IsPairConflict g one other t

-- two reductions
abbrev pub IsFoundPair : GrammarView → List ItemLookahead → ActionPair → Type 0
IsFoundPair g row pair = (first : ℕ) × (pair.first ≡ Some first) × IsFoundReduction g row pair.terminal first pair.second

-- a shift and a reduction, or two reductions
abbrev pub IsFoundBy : GrammarView → List Bool → List ItemLookahead → ℕ → Option ℕ → ℕ → Type 0
IsFoundBy g shifts row t None second = IsFoundShift g shifts row t second
IsFoundBy g shifts row t (Some first) second = IsFoundReduction g row t first second

abbrev pub IsFound : GrammarView → List Bool → List ItemLookahead → ActionPair → Type 0
IsFound g shifts row pair = IsFoundBy g shifts row pair.terminal pair.first pair.second

-- none of the set's members was taken, and now all are, beside what was taken
pub record TakesSet (set old new : List Bool) : Type 0 where
  pub len : length new ≡ length old
  pub keeps : (t : ℕ) → IsMember old t → IsMember new t
  pub added : (t : ℕ) → IsMember set t → (¬ IsMember old t) × IsMember new t

-- so it is with the lookaheads of an item, where it is complete; else all stays
pub record TakesItem (g : GrammarView) (looks : ItemLookahead) (old new : List Bool) : Type 0 where
  pub len : length new ≡ length old
  pub keeps : (t : ℕ) → IsMember old t → IsMember new t
  pub added : after_dot g looks.item ≡ [] → (t : ℕ) → IsMember looks.set t → (¬ IsMember old t) × IsMember new t

-- what can be shifted and the lookaheads of the complete ones among the first items are taken, and these have no conflict
pub record AreTaken (g : GrammarView) (shifts : List Bool) (row : List ItemLookahead) (place : ℕ) (taken : List Bool) : Type 0 where
  pub len : length taken ≡ length shifts
  pub shifts_in : (t : ℕ) → IsMember shifts t → IsMember taken t
  pub sets_in : (j : ℕ) (one : ItemLookahead) → j < place → slice_get row j ≡ Some one → after_dot g one.item ≡ [] → (t : ℕ)
      → IsMember one.set t → IsMember taken t
  pub apart : (p : ℕ) → p < place → HasNoConflictAt g shifts row p
