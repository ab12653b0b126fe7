-- How many leaves the trees of a nonterminal have at the least.
use Rattle.std.specs.Prelude.{◌≡◌, ◌<◌, ◌≤◌, ◌+◌, ◌⊎◌, ℕ, List, [], ◌∷◌, length, slice_index}
use Rattle.wb_base.specs.declared.symbol.Symbol.{Symbol}
use Rattle.wb_base.specs.declared.symbol.Symbol.TheVariants.{Terminal, Nonterminal}
use Rattle.wb_base.specs.Grammar.{GrammarView}
use Rattle.wb_grammar_theory.specs.Trees.{Forest, IsTree}
use Rattle.wb_scan_theory.specs.Bounds.{count}

-- a tree of the nonterminal with so many leaves
pub record HasTree (g : GrammarView) (a n : ℕ) : Type 0 where
  pub tree : Forest
  pub is : IsTree g a tree
  pub many : count tree ≡ n

-- the least number of leaves that a tree of the nonterminal has, or the limit where none has fewer
pub record IsLeast (g : GrammarView) (limit a n : ℕ) : Type 0 where
  pub most : n ≤ limit
  pub lower : (tree : Forest) → IsTree g a tree → n ≤ count tree
  pub reached : (n ≡ limit) ⊎ HasTree g a n

-- this number for each nonterminal
pub record AreLeast (g : GrammarView) (limit : ℕ) (counts : List ℕ) : Type 0 where
  pub len : length counts ≡ g.nonterminals
  pub each : (a : ℕ) → a < g.nonterminals → IsLeast g limit a (slice_index counts a)

-- the count of a symbol: a terminal is one leaf
abbrev pub least_of : List ℕ → Symbol → ℕ
least_of counts (Terminal t) = 1
least_of counts (Nonterminal a) = slice_index counts a

-- the sum of the counts of symbols
abbrev pub total : List ℕ → List Symbol → ℕ
total counts [] = 0
total counts (x ∷ w) = least_of counts x + total counts w
