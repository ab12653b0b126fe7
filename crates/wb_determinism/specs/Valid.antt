-- Terminals after dots, and lookaheads of complete items.
use Rattle.std.specs.Prelude.{◌≡◌, ◌↔◌, ◌⊎◌, ◌<◌, ℕ, Bool, List, [], ◌∷◌, Some, slice_get}
use Rattle.wb_base.specs.declared.symbol.Symbol.{Symbol}
use Rattle.wb_base.specs.declared.symbol.Symbol.TheVariants.{Terminal}
use Rattle.wb_base.specs.Grammar.{GrammarView}
use Rattle.wb_grammar_theory.specs.declared.item.Item.{Item}
use Rattle.wb_grammar_theory.specs.Items.{after_dot}
use Rattle.wb_items.specs.declared.item_lookahead.ItemLookahead.{ItemLookahead}
use Rattle.wb_termset.specs.Sets.{IsMember}

-- the item has its dot before the terminal
abbrev pub IsBefore : GrammarView → Item → ℕ → Type 0
IsBefore g item t = (rest : List Symbol) × (after_dot g item ≡ Terminal t ∷ rest)

-- one of the first items has its dot before the terminal
pub record IsShifted (g : GrammarView) (row : List ItemLookahead) (n t : ℕ) : Type 0 where
  pub place : ℕ
  pub looks : ItemLookahead
  pub below : place < n
  pub at : slice_get row place ≡ Some looks
  pub before : IsBefore g looks.item t

-- the terminal is a lookahead of one of the first items, which is complete
pub record IsReduced (g : GrammarView) (row : List ItemLookahead) (n t : ℕ) : Type 0 where
  pub place : ℕ
  pub looks : ItemLookahead
  pub below : place < n
  pub at : slice_get row place ≡ Some looks
  pub complete : after_dot g looks.item ≡ []
  pub has : IsMember looks.set t

-- the terminal after the item's dot was added
abbrev pub AddsShift : GrammarView → Item → List Bool → List Bool → Type 0
AddsShift g item old new = (t : ℕ) → IsMember new t ↔ (IsMember old t ⊎ IsBefore g item t)

-- the item's lookaheads below a number were added, where it is complete
abbrev pub AddsReductions : GrammarView → ItemLookahead → ℕ → List Bool → List Bool → Type 0
AddsReductions g looks below old new =
    (t : ℕ) → IsMember new t ↔ (IsMember old t ⊎ ((t < below) × (after_dot g looks.item ≡ []) × IsMember looks.set t))
