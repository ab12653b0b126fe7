-- How many nodes a stack of trees has at most, where no nonterminal derives itself and none is hidden left recursive.
use Rattle.std.specs.Prelude.{◌<◌, ◌≤◌, ◌+◌, ℕ, List, length, zero, suc}
use Rattle.wb_base.specs.declared.symbol.Symbol.{Symbol}
use Rattle.wb_base.specs.Grammar.{GrammarView}
use Rattle.wb_grammar_theory.specs.Productions.{IsProduction}
use Rattle.wb_grammar_theory.specs.Cycles.{HasNoUnitCycle, HasNoHiddenLeftRecursion}
use Rattle.wb_grammar_theory.specs.Trees.{Forest, nothing, leaf, node}

-- left sides are below the first number, and right sides no longer than the second
pub record IsSized (g : GrammarView) (many wide : ℕ) : Type 0 where
  pub left : (p a : ℕ) (right : List Symbol) → IsProduction g p a right → a < many
  pub right : (p a : ℕ) (right : List Symbol) → IsProduction g p a right → length right ≤ wide

-- neither a unit cycle nor hidden left recursion
pub record HasNoCycle (g : GrammarView) : Type 0 where
  pub unit : HasNoUnitCycle g
  pub hidden : HasNoHiddenLeftRecursion g

-- how many nodes trees have
abbrev pub nodes : Forest → ℕ
nodes nothing = 0
nodes (leaf t lexeme rest) = nodes rest
nodes (node p a children rest) = 1 + nodes children + nodes rest

-- how many leaves trees have
abbrev pub count : Forest → ℕ
count nothing = 0
count (leaf t lexeme rest) = 1 + count rest
count (node p a children rest) = count children + count rest

-- so many times the first number
abbrev pub copies : ℕ → ℕ → ℕ
copies w zero = 0
copies w (suc n) = w + copies w n

-- the nodes of a tree below which the leaves are as many down to so many levels, and then fewer
abbrev pub row : ℕ → ℕ → ℕ → ℕ
row wide less zero = 0
row wide less (suc d) = 1 + copies (less + row wide less d) wide

-- the nodes of a tree with fewer than m leaves
abbrev pub fewer : ℕ → ℕ → ℕ → ℕ
fewer many wide zero = 0
fewer many wide (suc m) = row wide (fewer many wide m) many

-- the levels of items over m leaves
abbrev pub levels : ℕ → ℕ → ℕ
levels many zero = 0
levels many (suc m) = suc (many + levels many m)

-- the nodes of a stack of trees with m leaves or fewer
abbrev pub limit : ℕ → ℕ → ℕ → ℕ
limit many wide m = copies (fewer many wide (suc m)) (suc (copies wide (levels many m + many)))
