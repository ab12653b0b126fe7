-- A grammar in other numbers.
use Rattle.std.specs.Prelude.{◌≡◌, ◌<◌, ℕ, List, map}
use Rattle.wb_base.specs.declared.symbol.Symbol.{Symbol}
use Rattle.wb_base.specs.Grammar.{GrammarView}
use Rattle.wb_grammar_theory.specs.Productions.{IsProduction, top_of, end_of}
use Rattle.wb_compose_theory.specs.Renamings.{Renaming, renamed}

-- the second renaming undoes the first
pub record IsUndoneBy (r s : Renaming) : Type 0 where
  pub terminal : (t : ℕ) → s.terminal (r.terminal t) ≡ t
  pub nonterminal : (a : ℕ) → s.nonterminal (r.nonterminal a) ≡ a
  pub production : (p : ℕ) → s.production (r.production p) ≡ p

-- the renaming leads from the one grammar to the other: each production has there a production of the renamed symbols, the start, `end` and
-- `S' -> S` become those of the other, and symbols become symbols
pub record GrammarLeadsTo (r : Renaming) (g k : GrammarView) : Type 0 where
  pub production : (p a : ℕ) (right : List Symbol) → IsProduction g p a right →
      IsProduction k (r.production p) (r.nonterminal a) (map (renamed r) right)
  pub start : r.nonterminal g.start ≡ k.start
  pub end_of_text : r.terminal (end_of g) ≡ end_of k
  pub top : r.production (top_of g) ≡ top_of k
  pub terminals : (t : ℕ) → t < g.terminals → r.terminal t < k.terminals
  pub nonterminals : (a : ℕ) → a < g.nonterminals → r.nonterminal a < k.nonterminals
