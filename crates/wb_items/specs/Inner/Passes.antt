-- Lists in the middle of a pass over another list.
use Rattle.std.specs.Prelude.{◌≡◌, ℕ, ◌<◌, ◌≤◌, List, ◌∷◌, length, Some, Contains, slice_get}
use Rattle.wb_base.specs.declared.symbol.Symbol.{Symbol}
use Rattle.wb_base.specs.Grammar.{GrammarView}
use Rattle.wb_grammar_theory.specs.declared.item.Item.{Item}
use Rattle.wb_grammar_theory.specs.Productions.{IsProduction}
use Rattle.wb_grammar_theory.specs.Items.{after_dot, advance}
use Rattle.wb_items.specs.declared.transitions.Move.{Move}
use Rattle.wb_items.specs.declared.advance.Advance.{Advance}
use Rattle.wb_items.specs.Inner.Advances.{HasAdvance, ListsAdvances, symbol_of}
use Rattle.wb_items.specs.Index.{IndexView}
use Rattle.wb_items.specs.Order.{SymbolPrecedes}
use Rattle.wb_items.specs.Table.{AreKernelsOf, AreMoves, AreMovesInOrder}
use Rattle.wb_items.specs.Inner.Growing.{Grows}

-- the items at the first places are listed with the symbols after their dots, each with its dot after the symbol
pub record AdvancesUpTo (g : GrammarView) (closure : List Item) (list : List Advance) (n : ℕ) : Type 0 where
  pub sound : (a : Advance) → Contains list a →
      (j : ℕ) × (item : Item) × (rest : List Symbol) × (j < n) × (slice_get closure j ≡ Some item) ×
      (after_dot g item ≡ symbol_of a ∷ rest) × (a.item ≡ advance item)
  pub complete : (j : ℕ) (item : Item) (x : Symbol) (rest : List Symbol) → j < n → slice_get closure j ≡ Some item →
      after_dot g item ≡ x ∷ rest → HasAdvance list x (advance item)

-- the list has the productions of the nonterminal below a number, in order
pub record ProductionsUpTo (g : GrammarView) (b : ℕ) (numbers : List ℕ) (n : ℕ) : Type 0 where
  pub below : (q : ℕ) → Contains numbers q → q < n
  pub sound : (q : ℕ) → Contains numbers q → (right : List Symbol) × IsProduction g q b right
  pub complete : (q : ℕ) (right : List Symbol) → q < n → IsProduction g q b right → Contains numbers q
  pub rising : (i j p q : ℕ) → i < j → slice_get numbers i ≡ Some p → slice_get numbers j ≡ Some q → p < q

-- each nonterminal's row has its productions below a number, in order
pub record RowsUpTo (g : GrammarView) (rows : List (List ℕ)) (n : ℕ) : Type 0 where
  pub len : length rows ≡ g.nonterminals
  pub each : (b : ℕ) (numbers : List ℕ) → slice_get rows b ≡ Some numbers → ProductionsUpTo g b numbers n

-- the moves by the symbols at the first places are there, and later places have later symbols
pub record MovesUpTo (g : GrammarView) (old now : IndexView) (list : List Advance) (s : ℕ) (row : List Move) (n : ℕ) : Type 0 where
  pub kernels : AreKernelsOf g now.prefixes now.kernels
  pub grows : Grows old now
  pub within : s < length now.kernels
  pub lists : (prefix : List Symbol) → slice_get now.prefixes s ≡ Some prefix → ListsAdvances g prefix list
  pub sound : AreMoves g now.prefixes s row
  pub ordered : AreMovesInOrder row
  pub complete : (j : ℕ) (a : Advance) → j < n → slice_get list j ≡ Some a →
      (next : ℕ) × Contains row (record { symbol = symbol_of a; state = next })
  pub apart : (move : Move) (j : ℕ) (a : Advance) → Contains row move → n ≤ j → slice_get list j ≡ Some a →
      SymbolPrecedes move.symbol (symbol_of a)
