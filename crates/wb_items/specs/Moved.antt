-- Items that moved over a symbol, and kernels in order.
use Rattle.std.specs.Prelude.{◌≡◌, List, ◌∷◌, Contains}
use Rattle.wb_base.specs.declared.symbol.Symbol.{Symbol}
use Rattle.wb_base.specs.Grammar.{GrammarView}
use Rattle.wb_grammar_theory.specs.declared.item.Item.{Item}
use Rattle.wb_grammar_theory.specs.Items.{after_dot, advance, IsViablePrefix}
use Rattle.wb_items.specs.Kernels.{AreInOrder, ListsKernel}

-- the item moves over the symbol from an item of the list
pub record IsMoved (g : GrammarView) (items : List Item) (x : Symbol) (moved : Item) : Type 0 where
  pub item : Item
  pub rest : List Symbol
  pub listed : Contains items item
  pub before_dot : after_dot g item ≡ x ∷ rest
  pub is : moved ≡ advance item

-- the items are the kernel of the viable prefix, in order
pub record IsKernelFor (g : GrammarView) (prefix : List Symbol) (kernel : List Item) : Type 0 where
  pub viable : IsViablePrefix g prefix
  pub exact : ListsKernel g prefix kernel
  pub sorted : AreInOrder kernel
