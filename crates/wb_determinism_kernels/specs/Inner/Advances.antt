-- Items that move over symbols, in a list by the symbols.
use Rattle.std.specs.Prelude.{◌≡◌, ◌⊎◌, ℕ, ◌+◌, ◌<◌, ◌≤◌, ◌∷◌, Bool, true, false, List, length, map, Some, Contains, slice_get}
use Rattle.wb_base.specs.declared.symbol.Symbol.{Symbol}
use Rattle.wb_base.specs.declared.symbol.Symbol.TheVariants.{Terminal, Nonterminal}
use Rattle.wb_base.specs.Grammar.{GrammarView}
use Rattle.wb_grammar_theory.specs.declared.item.Item.{Item}
use Rattle.wb_grammar_theory.specs.Items.{after_dot, advance}
use Rattle.wb_determinism_kernels.specs.declared.advance.Advance.{Advance}
use Rattle.wb_items.specs.Kernels.{Precedes}
use Rattle.wb_items.specs.Order.{SymbolPrecedes}

-- the symbol of this number, a nonterminal or a terminal
abbrev pub symbol_by : Bool → ℕ → Symbol
symbol_by false n = Terminal n
symbol_by true n = Nonterminal n

-- the symbol that the item moves over
abbrev pub symbol_of : Advance → Symbol
symbol_of a = symbol_by a.nonterminal a.number

-- the items without their symbols
abbrev pub items_of : List Advance → List Item
items_of list = map (λ a. a.item) list

-- the one is before the other, by the symbol and then by the item
abbrev pub AdvancePrecedes : Advance → Advance → Type 0
AdvancePrecedes a b = SymbolPrecedes (symbol_of a) (symbol_of b) ⊎ ((symbol_of a ≡ symbol_of b) × Precedes a.item b.item)

-- none is before the one at the place before it
abbrev pub AreAdvancesRising : List Advance → Type 0
AreAdvancesRising list = (k : ℕ) (a b : Advance) → slice_get list k ≡ Some a → slice_get list (k + 1) ≡ Some b → ¬ AdvancePrecedes b a

-- the item is listed with the symbol that it moves over
pub record HasAdvance (list : List Advance) (x : Symbol) (item : Item) : Type 0 where
  pub advance : Advance
  pub listed : Contains list advance
  pub over : symbol_of advance ≡ x
  pub is : advance.item ≡ item

-- from the place to before the end all have the symbol, and those from the end on have later symbols
pub record IsRun (list : List Advance) (x : Symbol) (place end : ℕ) : Type 0 where
  pub after : place < end
  pub within : end ≤ length list
  pub same : (j : ℕ) (a : Advance) → place ≤ j → j < end → slice_get list j ≡ Some a → symbol_of a ≡ x
  pub beyond : (j : ℕ) (a : Advance) → end ≤ j → slice_get list j ≡ Some a → SymbolPrecedes x (symbol_of a)

-- the items at the first places are listed with the symbols after their dots, each with its dot after the symbol
pub record AdvancesUpTo (g : GrammarView) (closure : List Item) (list : List Advance) (n : ℕ) : Type 0 where
  pub sound : (a : Advance) → Contains list a →
      (j : ℕ) × (item : Item) × (rest : List Symbol) × (j < n) × (slice_get closure j ≡ Some item) ×
      (after_dot g item ≡ symbol_of a ∷ rest) × (a.item ≡ advance item)
  pub complete : (j : ℕ) (item : Item) (x : Symbol) (rest : List Symbol) → j < n → slice_get closure j ≡ Some item →
      after_dot g item ≡ x ∷ rest → HasAdvance list x (advance item)
