-- Kernels as they are kept: what was found by following symbols from the kernel of the empty prefix.
use Rattle.std.specs.Prelude.{◌≡◌, ◌↔◌, ℕ, ◌<◌, List, [], ◌∷◌, ◌++◌, length, Some, Contains, slice_get}
use Rattle.wb_base.specs.declared.symbol.Symbol.{Symbol}
use Rattle.wb_base.specs.Grammar.{GrammarView}
use Rattle.wb_grammar_theory.specs.declared.item.Item.{Item}
use Rattle.wb_grammar_theory.specs.Productions.{IsProduction}
use Rattle.wb_grammar_theory.specs.Items.{after_dot, IsViablePrefix, SameKernel}
use Rattle.wb_grammar_theory.specs.Shape.{IsLive}
use Rattle.wb_items.specs.declared.transitions.Move.{Move}
use Rattle.wb_items.specs.Index.{IndexView}
use Rattle.wb_items.specs.Kernels.{AreInOrder, ListsKernel, ListsItems}
use Rattle.wb_items.specs.Order.{SymbolPrecedes}

-- both lists have the same items
abbrev pub SameItems : List Item → List Item → Type 0
SameItems items other = (item : Item) → Contains items item ↔ Contains other item

-- the numbers are those of the nonterminal's productions, in order
pub record AreProductionsOf (g : GrammarView) (b : ℕ) (numbers : List ℕ) : Type 0 where
  pub sound : (q : ℕ) → Contains numbers q → (right : List Symbol) × IsProduction g q b right
  pub complete : (q : ℕ) (right : List Symbol) → IsProduction g q b right → Contains numbers q
  pub rising : (i j p q : ℕ) → i < j → slice_get numbers i ≡ Some p → slice_get numbers j ≡ Some q → p < q

-- the numbers of productions for each nonterminal
pub record AreProductions (g : GrammarView) (rows : List (List ℕ)) : Type 0 where
  pub len : length rows ≡ g.nonterminals
  pub each : (b : ℕ) (numbers : List ℕ) → slice_get rows b ≡ Some numbers → AreProductionsOf g b numbers

-- each kernel is that of its prefix, in order, and no two are the same
pub record AreKernelsOf (g : GrammarView) (prefixes : List (List Symbol)) (kernels : List (List Item)) : Type 0 where
  pub len : length kernels ≡ length prefixes
  pub first : slice_get prefixes 0 ≡ Some []
  pub viable : (s : ℕ) (prefix : List Symbol) → slice_get prefixes s ≡ Some prefix → IsViablePrefix g prefix
  pub exact : (s : ℕ) (prefix : List Symbol) (kernel : List Item) → slice_get prefixes s ≡ Some prefix → slice_get kernels s ≡ Some kernel →
      ListsKernel g prefix kernel
  pub sorted : (s : ℕ) (kernel : List Item) → slice_get kernels s ≡ Some kernel → AreInOrder kernel
  pub once : (s t : ℕ) (kernel other : List Item) → slice_get kernels s ≡ Some kernel → slice_get kernels t ≡ Some other →
      SameItems kernel other → s ≡ t

-- the symbol leads from the one prefix to the other, up to its kernel
pub record Leads (g : GrammarView) (prefixes : List (List Symbol)) (s : ℕ) (x : Symbol) (next : ℕ) : Type 0 where
  pub prefix : List Symbol
  pub other : List Symbol
  pub at : slice_get prefixes s ≡ Some prefix
  pub to : slice_get prefixes next ≡ Some other
  pub viable : IsViablePrefix g (prefix ++ x ∷ [])
  pub same : SameKernel g other (prefix ++ x ∷ [])

-- each move leads where it says
abbrev pub AreMoves : GrammarView → List (List Symbol) → ℕ → List Move → Type 0
AreMoves g prefixes s row = (move : Move) → Contains row move → Leads g prefixes s move.symbol move.state

-- the moves are in the order of their symbols
abbrev pub AreMovesInOrder : List Move → Type 0
AreMovesInOrder row = (i j : ℕ) (a b : Move) → i < j → slice_get row i ≡ Some a → slice_get row j ≡ Some b →
    SymbolPrecedes a.symbol b.symbol

-- each move of the row leads where it says, in the order of symbols, and the row has a move by each symbol before which one of the items
-- has its dot
pub record IsRow (g : GrammarView) (prefixes : List (List Symbol)) (closure : List Item) (s : ℕ) (row : List Move) : Type 0 where
  pub sound : AreMoves g prefixes s row
  pub ordered : AreMovesInOrder row
  pub complete : (item : Item) (x : Symbol) (rest : List Symbol) → Contains closure item → after_dot g item ≡ x ∷ rest →
      (next : ℕ) × Contains row (record { symbol = x; state = next })

-- the kernels of the first numbers have been followed: their items and their rows of moves are there
pub record AreFollowed (g : GrammarView) (prefixes : List (List Symbol)) (closures : List (List Item))
    (rows : List (List Move)) : Type 0 where
  pub len : length rows ≡ length closures
  pub exact : (s : ℕ) (prefix : List Symbol) (closure : List Item) → slice_get prefixes s ≡ Some prefix →
      slice_get closures s ≡ Some closure → ListsItems g prefix closure
  pub sorted : (s : ℕ) (closure : List Item) → slice_get closures s ≡ Some closure → AreInOrder closure
  pub moves : (s : ℕ) (closure : List Item) (row : List Move) → slice_get closures s ≡ Some closure → slice_get rows s ≡ Some row →
      IsRow g prefixes closure s row

-- all kernels have been found and followed
pub record IsTable (g : GrammarView) (found : IndexView) (closures : List (List Item)) (rows : List (List Move)) : Type 0 where
  pub live : IsLive g
  pub kernels : AreKernelsOf g found.prefixes found.kernels
  pub followed : AreFollowed g found.prefixes closures rows
  pub closures_len : length closures ≡ length found.kernels
