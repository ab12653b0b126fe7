-- Grammars in which every nonterminal serves: reduced ones, and what follows of them after a dot.
use Rattle.std.specs.Prelude.{◌≡◌, ◌<◌, ℕ, List, [], ◌∷◌, ◌++◌}
use Rattle.wb_base.specs.declared.symbol.Symbol.{Symbol}
use Rattle.wb_base.specs.declared.symbol.Symbol.TheVariants.{Terminal, Nonterminal}
use Rattle.wb_base.specs.Grammar.{GrammarView}
use Rattle.wb_grammar_theory.specs.declared.item.Item.{Item}
use Rattle.wb_grammar_theory.specs.Derives.{Derives, IsFirst, IsText}
use Rattle.wb_grammar_theory.specs.Items.{after_dot}

-- the start derives symbols among which the nonterminal stands
abbrev pub IsReachable : GrammarView → ℕ → Type 0
IsReachable g a = (u v : List Symbol) × Derives g (Nonterminal g.start ∷ []) (u ++ Nonterminal a ∷ v)

-- the nonterminal derives some text of terminals
abbrev pub IsProductive : GrammarView → ℕ → Type 0
IsProductive g a = (v : List Symbol) × Derives g (Nonterminal a ∷ []) v × IsText v

-- every nonterminal is reachable from the start and derives some text of terminals
pub record IsReduced (g : GrammarView) : Type 0 where
  pub reachable : (a : ℕ) → a < g.nonterminals → IsReachable g a
  pub productive : (a : ℕ) → a < g.nonterminals → IsProductive g a

-- for each item with a symbol after its dot, and each terminal: some terminal begins what the symbols after that one derive with the
-- terminal after them
abbrev pub IsLive : GrammarView → Type 0
IsLive g =
    (item : Item) (x : Symbol) (rest : List Symbol) → after_dot g item ≡ x ∷ rest → (t : ℕ) → (u : ℕ) ×
    IsFirst g (rest ++ Terminal t ∷ []) u
