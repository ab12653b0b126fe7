-- A closure that grows by the productions of one nonterminal after another.
use Rattle.std.specs.Prelude.{◌≡◌, ℕ, ◌<◌, Bool, List, ◌∷◌, length, Some, Contains, slice_get}
use Rattle.wb_base.specs.declared.symbol.Symbol.{Symbol}
use Rattle.wb_base.specs.declared.symbol.Symbol.TheVariants.{Nonterminal}
use Rattle.wb_base.specs.Grammar.{GrammarView}
use Rattle.wb_termset.specs.Sets.{IsMember}
use Rattle.wb_grammar_theory.specs.declared.item.Item.{Item}
use Rattle.wb_grammar_theory.specs.Productions.{IsProduction}
use Rattle.wb_grammar_theory.specs.Items.{after_dot, initial_item}
use Rattle.wb_grammar_theory.specs.Closure.{InClosure}

-- the kernel and after it the initial items of these nonterminals, among which are those after the dots at the first places; all are in the
-- closure
pub record IsClosing (g : GrammarView) (kernel : List Item) (opened : List Bool) (closure : List Item) (place : ℕ) : Type 0 where
  pub len : length opened ≡ g.nonterminals
  pub front : (item : Item) → Contains kernel item → Contains closure item
  pub complete : (b q : ℕ) (right : List Symbol) → IsMember opened b → IsProduction g q b right → Contains closure (initial_item q)
  pub sound : (p : ℕ) (item : Item) → slice_get closure p ≡ Some item → InClosure g (Contains kernel) item
  pub closed : (p : ℕ) (item : Item) (b : ℕ) (rest : List Symbol) → p < place → slice_get closure p ≡ Some item →
      after_dot g item ≡ Nonterminal b ∷ rest → IsMember opened b
