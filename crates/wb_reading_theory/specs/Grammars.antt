-- A grammar that begins with another.
use Rattle.std.specs.Prelude.{◌≡◌, ◌<◌, ◌≤◌, ◌↔◌, ◌++◌, ◌∷◌, ℕ, Bool, List, All}
use Rattle.wb_base.specs.declared.symbol.Symbol.{Symbol}
use Rattle.wb_base.specs.declared.symbol.Symbol.TheVariants.{Terminal}
use Rattle.wb_base.specs.Grammar.{GrammarView, Production}
use Rattle.wb_termset.specs.Sets.{IsMember}
use Rattle.wb_grammar_theory.specs.Productions.{end_of}
use Rattle.wb_grammar_theory.specs.Items.{IsViablePrefix}
use Rattle.wb_grammar_theory.specs.Lookaheads.{IsValidTerminal}

-- a further production is on a further nonterminal, or begins with a marker
pub data IsFurther (nonterminals : ℕ) (markers : List Bool) (rule : Production) : Type 0 where
  on_further : nonterminals ≤ rule.0 → IsFurther nonterminals markers rule
  on_marker : (t : ℕ) (rest : List Symbol) → IsMember markers t → rule.1 ≡ Terminal t ∷ rest → IsFurther nonterminals markers rule

-- the first grammar begins the second: its terminals, nonterminals and productions begin those of the second, with the same start; markers
-- are further terminals, and further productions are on further nonterminals or begin with markers
pub record ExtendsGrammar (g k : GrammarView) (markers : List Bool) : Type 0 where
  pub terminals : g.terminals ≤ k.terminals
  pub nonterminals : g.nonterminals ≤ k.nonterminals
  pub start : k.start ≡ g.start
  pub more : List Production
  pub productions : k.productions ≡ g.productions ++ more
  pub shape : All (IsFurther g.nonterminals markers) more
  pub marking : (t : ℕ) → IsMember markers t → (g.terminals ≤ t) × (t < k.terminals)

-- at each prefix of the first grammar the second has, besides markers, exactly the valid terminals of the first, `end` among them
pub record KeepsValid (g k : GrammarView) (markers : List Bool) : Type 0 where
  pub terminal : (prefix : List Symbol) → IsViablePrefix g prefix → (t : ℕ) → t < g.terminals →
      IsValidTerminal k prefix t ↔ IsValidTerminal g prefix t
  pub end_of_text : (prefix : List Symbol) → IsViablePrefix g prefix →
      IsValidTerminal k prefix (end_of k) ↔ IsValidTerminal g prefix (end_of g)
  pub further : (prefix : List Symbol) → IsViablePrefix g prefix → (t : ℕ) → g.terminals ≤ t → t < k.terminals → ¬ IsMember markers t →
      ¬ IsValidTerminal k prefix t
