-- Closures of sets of items and moves between kernels, without lookaheads.
use Rattle.std.specs.Prelude.{◌≡◌, ℕ, List, ◌∷◌}
use Rattle.wb_base.specs.declared.symbol.Symbol.{Symbol}
use Rattle.wb_base.specs.declared.symbol.Symbol.TheVariants.{Nonterminal}
use Rattle.wb_base.specs.Grammar.{GrammarView}
use Rattle.wb_grammar_theory.specs.declared.item.Item.{Item}
use Rattle.wb_grammar_theory.specs.Productions.{IsProduction}
use Rattle.wb_grammar_theory.specs.Items.{after_dot, advance, initial_item}

-- the item is in the closure of the set: a member, or the initial item of a production before whose left side an item of the closure has
-- its dot
pub data InClosure (g : GrammarView) (Kernel : Item → Type 0) : Item → Type 0 where
  kernel : {item : Item} → Kernel item → InClosure g Kernel item
  opened : (item : Item) (b : ℕ) (rest : List Symbol) (q : ℕ) (right : List Symbol) → InClosure g Kernel item →
      after_dot g item ≡ Nonterminal b ∷ rest → IsProduction g q b right → InClosure g Kernel (initial_item q)

-- the item is in the kernel after one more symbol: an item of the closure moves over the symbol to it
pub record MovesTo (g : GrammarView) (Kernel : Item → Type 0) (x : Symbol) (moved : Item) : Type 0 where
  pub item : Item
  pub rest : List Symbol
  pub within : InClosure g Kernel item
  pub before_dot : after_dot g item ≡ x ∷ rest
  pub is : moved ≡ advance item
