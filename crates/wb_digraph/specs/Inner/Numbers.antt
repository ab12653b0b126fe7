-- Numbers of the items of kernels, and what stays while lookaheads are found.
use Rattle.std.specs.Prelude.{◌≡◌, ◌≢◌, ◌⊎◌, ◌↔◌, ◌<◌, ◌≤◌, ◌+◌, ℕ, List, [], Some, drop, length, slice_get, slice_index}
use Rattle.wb_base.specs.declared.symbol.Symbol.{Symbol}
use Rattle.wb_base.specs.declared.symbol.Symbol.TheVariants.{Nonterminal}
use Rattle.wb_base.specs.Grammar.{GrammarView, IsGrammar}
use Rattle.wb_grammar.specs.Facts.{AreFacts, FactsView}
use Rattle.wb_grammar_theory.specs.declared.item.Item.{Item}
use Rattle.wb_grammar_theory.specs.Derives.{Derives}
use Rattle.wb_grammar_theory.specs.Items.{initial_item, start_item}
use Rattle.wb_grammar_theory.specs.Productions.{IsProduction}
use Rattle.wb_items.specs.Apart.{Opens}
use Rattle.wb_items.specs.Kernels.{AreKernels, KernelsView, LeadsTo, closure_of, count_of}
use Rattle.wb_items.specs.Table.{AreProductions}

-- the numbers of each kernel's items begin where those of the kernel before it end, the first with 0
pub record AreBasesUpTo (kernels : KernelsView) (n : ℕ) (bases : List ℕ) : Type 0 where
  pub len : length bases ≡ n + 1
  pub first : slice_index bases 0 ≡ 0
  pub next : (s : ℕ) → s < n → slice_index bases (s + 1) ≡ slice_index bases s + length (closure_of kernels s)

-- those of all kernels
abbrev pub AreBases : KernelsView → List ℕ → Type 0
AreBases kernels bases = AreBasesUpTo kernels (count_of kernels) bases

-- the item is the initial item of the nonterminal's first production
abbrev pub IsFirstOpened : List (List ℕ) → ℕ → Item → Type 0
IsFirstOpened rows b item =
    (numbers : List ℕ) × (q : ℕ) × (slice_get rows b ≡ Some numbers) × (slice_get numbers 0 ≡ Some q) × (item ≡ initial_item q)

-- the one item stands for the other: the first of those that a nonterminal opens for each of them, and any other item for itself
abbrev pub StandsFor : GrammarView → List (List ℕ) → Item → Item → Type 0
StandsFor g rows one item =
    ((b : ℕ) × Opens g b item × IsFirstOpened rows b one) ⊎ (((b : ℕ) → ¬ Opens g b item) × (one ≡ item))

-- the number of an item is that of the place of the item that stands for it
pub record HasNumber (kernels : KernelsView) (rows : List (List ℕ)) (bases : List ℕ) (s : ℕ) (item : Item) (n : ℕ) : Type 0 where
  pub within : s < count_of kernels
  pub one : Item
  pub place : ℕ
  pub stands : StandsFor kernels.grammar rows one item
  pub at : slice_get (closure_of kernels s) place ≡ Some one
  pub is : n ≡ slice_index bases s + place

-- for each production the first place from which on the symbols of its right side derive the empty text
pub record AreTailsUpTo (g : GrammarView) (n : ℕ) (tails : List ℕ) : Type 0 where
  pub len : length tails ≡ n
  pub each : (p b : ℕ) (right : List Symbol) → p < n → IsProduction g p b right → (k : ℕ) → k ≤ length right →
      (slice_index tails p ≤ k) ↔ Derives g (drop k right) []

-- what stays while lookaheads are found: the kernels of the grammar, its facts, the productions of each nonterminal, where the numbers of
-- each kernel's items begin, and from where on productions derive the empty text
pub record IsContext (kernels : KernelsView) (g : GrammarView) (facts : FactsView) (rows : List (List ℕ)) (bases tails : List ℕ) : Type 0
  where
    pub are_kernels : AreKernels kernels
    pub of_grammar : kernels.grammar ≡ g
    pub in_range : IsGrammar kernels.grammar
    pub are_facts : AreFacts kernels.grammar facts
    pub are_productions : AreProductions kernels.grammar rows
    pub are_bases : AreBases kernels bases
    pub are_tails : AreTailsUpTo kernels.grammar (length kernels.grammar.productions) tails

-- the number of the set that an item has at first: that of what is read after the nonterminal, where it is the first that one opens; that of
-- the end, where it is the start item; and else that of the empty set
pub data IsFirst (kernels : KernelsView) (rows : List (List ℕ)) (reads : List ℕ) (end s : ℕ) (item : Item) (m : ℕ) : Type 0 where
  opened : (b next : ℕ) → Opens kernels.grammar b item → IsFirstOpened rows b item → LeadsTo kernels s (Nonterminal b) next →
      slice_get reads next ≡ Some m → IsFirst kernels rows reads end s item m
  starts : item ≡ start_item kernels.grammar → m ≡ end → IsFirst kernels rows reads end s item m
  none : ((b : ℕ) → Opens kernels.grammar b item → ¬ IsFirstOpened rows b item) → item ≢ start_item kernels.grammar → m ≡ 0 →
      IsFirst kernels rows reads end s item m

-- the numbers of the items of the first kernels have those of their first sets
pub record AreFirstsUpTo (kernels : KernelsView) (rows : List (List ℕ)) (bases reads : List ℕ) (end n : ℕ) (firsts : List ℕ) : Type 0 where
  pub len : length firsts ≡ slice_index bases n
  pub each : (s place m : ℕ) (item : Item) → s < n → slice_get (closure_of kernels s) place ≡ Some item →
      slice_get firsts (slice_index bases s + place) ≡ Some m → IsFirst kernels rows reads end s item m
  pub covers : (v m : ℕ) → slice_get firsts v ≡ Some m → (s : ℕ) × (place : ℕ) × (item : Item) × (s < n) ×
      (slice_get (closure_of kernels s) place ≡ Some item) × (v ≡ slice_index bases s + place)
