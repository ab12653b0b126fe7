-- Rows of a prefix's items, in which each complete item has its lookaheads.
use Rattle.std.specs.Prelude.{◌≡◌, ◌↔◌, ◌+◌, ◌++◌, ◌∷◌, ◌<◌, [], ℕ, Bool, List, All, Some, length, slice_get}
use Rattle.wb_base.specs.declared.symbol.Symbol.{Symbol}
use Rattle.wb_base.specs.Grammar.{GrammarView}
use Rattle.wb_determinism_lookaheads.specs.NewLookaheads.{NewLookaheadsView, set_at, slots_of}
use Rattle.wb_grammar_theory.specs.declared.item.Item.{Item}
use Rattle.wb_grammar_theory.specs.Items.{after_dot}
use Rattle.wb_grammar_theory.specs.Lookaheads.{IsLookahead}
use Rattle.wb_items.specs.Apart.{BelongTogether}
use Rattle.wb_items.specs.declared.item_lookahead.ItemLookahead.{ItemLookahead}
use Rattle.wb_items.specs.Kernels.{ListsItems}
use Rattle.wb_items.specs.Lookaheads.{items_in}
use Rattle.wb_termset.specs.Sets.{IsMember}

-- one of the first items that have a set belongs with the item, and the terminal is in its set
abbrev pub ListsBefore : GrammarView → NewLookaheadsView → ℕ → Item → ℕ → ℕ → Type 0
ListsBefore k sets i item n t =
    (j : ℕ) × (one : Item) × (j < n) × (slice_get (slots_of sets i) j ≡ Some one) × BelongTogether k one item × IsMember (set_at sets i j) t

-- the set has these terminals, and room for all and the end of a text
pub record IsListedUpTo (k : GrammarView) (sets : NewLookaheadsView) (i : ℕ) (item : Item) (n : ℕ) (set : List Bool) : Type 0 where
  pub len : length set ≡ k.terminals + 1
  pub each : (t : ℕ) → IsMember set t ↔ ListsBefore k sets i item n t

-- the set has room for the terminals and the end of a text, and, where the item is complete, it has the item's lookaheads
pub record HasLooks (k : GrammarView) (prefix : List Symbol) (looks : ItemLookahead) : Type 0 where
  pub len : length looks.set ≡ k.terminals + 1
  pub each : after_dot k looks.item ≡ [] → (t : ℕ) → IsMember looks.set t ↔ IsLookahead k prefix looks.item t

-- the row has the items of the prefix, each with such a set
pub record IsRow (k : GrammarView) (prefix : List Symbol) (row : List ItemLookahead) : Type 0 where
  pub items : ListsItems k prefix (items_in row)
  pub sets : All (HasLooks k prefix) row

-- the item comes after the others, with such a set
pub record AddsLooks (k : GrammarView) (prefix : List Symbol) (item : Item) (old new : List ItemLookahead) : Type 0 where
  pub looks : ItemLookahead
  pub of_item : looks.item ≡ item
  pub has : HasLooks k prefix looks
  pub after : new ≡ old ++ looks ∷ []
