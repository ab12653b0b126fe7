-- The lookahead rule, in examples of where it fails: at a kernel that is the host's, the extension adds a lookahead to an item.
use Rattle.std.specs.Prelude.{◌≡◌, ℕ, List}
use Rattle.wb_base.specs.declared.symbol.Symbol.{Symbol}
use Rattle.wb_base.specs.Grammar.{GrammarView}
use Rattle.wb_grammar_theory.specs.declared.item.Item.{Item}
use Rattle.wb_grammar_theory.specs.Items.{IsKernelItem}
use Rattle.wb_grammar_theory.specs.Lookaheads.{IsLookahead}
use Rattle.wb_compose_theory.specs.Numbered.{IsHostKernel}
use Rattle.wb_determinism.specs.declared.numbers.Numbers.{Numbers}
use Rattle.wb_determinism.specs.Numbers.{item_up, up_by}

-- g is a host's grammar and k that of the host with an extension, both with holes; and the relation says for which terminal of g one of k
-- stands: a marker for a hole, and a host's for itself
module _ (g k : GrammarView) (m : Numbers) (StandsFor : ℕ → ℕ → Type 0) where
  -- the prefix has a host's kernel, the item is one of its items, and the terminal is a lookahead of the item there that stands for none
  -- that it has in g
  pub record IsLookaheadFault (prefix : List Symbol) (item : Item) (t : ℕ) : Type 0 where
    pub host : List Symbol
    pub own : Item
    pub kernel : IsHostKernel g k (up_by m) prefix host
    pub has : IsKernelItem g host own
    pub is : item ≡ item_up m own
    pub lookahead : IsLookahead k prefix item t
    pub beyond : (u : ℕ) → StandsFor t u → ¬ IsLookahead g host own u
