-- Conflicts of items with sets of lookaheads.
use Rattle.std.specs.Prelude.{◌≡◌, ◌≢◌, ◌<◌, ℕ, Bool, List, [], Some, length, slice_get}
use Rattle.wb_base.specs.Grammar.{GrammarView}
use Rattle.wb_grammar_theory.specs.Items.{after_dot}
use Rattle.wb_items.specs.declared.item_lookahead.ItemLookahead.{ItemLookahead}
use Rattle.wb_termset.specs.Sets.{IsMember}

-- the item is complete, and the terminal, which is its lookahead, is one of the set
pub record IsShiftConflict (g : GrammarView) (shifts : List Bool) (looks : ItemLookahead) (t : ℕ) : Type 0 where
  pub complete : after_dot g looks.item ≡ []
  pub shift : IsMember shifts t
  pub reduce : IsMember looks.set t

-- the items are complete and of different productions, and the terminal is a lookahead of both
pub record IsPairConflict (g : GrammarView) (one other : ItemLookahead) (t : ℕ) : Type 0 where
  pub differ : one.item.production ≢ other.item.production
  pub complete : after_dot g one.item ≡ []
  pub conflict : IsShiftConflict g one.set other t

-- a pair with one that is listed before
abbrev pub AreApartBefore : GrammarView → List ItemLookahead → ℕ → ItemLookahead → Type 0
AreApartBefore g row place looks =
    (j : ℕ) (one : ItemLookahead) → j < place → slice_get row j ≡ Some one → (t : ℕ) → ¬ IsPairConflict g one looks t

-- the item at the place has no conflict with a shift, nor with an item before it
pub record HasNoConflictAt (g : GrammarView) (shifts : List Bool) (row : List ItemLookahead) (place : ℕ) : Type 0 where
  pub shift : (looks : ItemLookahead) → slice_get row place ≡ Some looks → (t : ℕ) → ¬ IsShiftConflict g shifts looks t
  pub pairs : (looks : ItemLookahead) → slice_get row place ≡ Some looks → AreApartBefore g row place looks

-- nor has any
abbrev pub HasNoConflictIn : GrammarView → List Bool → List ItemLookahead → Type 0
HasNoConflictIn g shifts row = (place : ℕ) → place < length row → HasNoConflictAt g shifts row place
