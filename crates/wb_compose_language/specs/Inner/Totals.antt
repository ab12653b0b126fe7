-- How many symbols a union has.
use Rattle.std.specs.Prelude.{◌≡◌, ◌+◌, ◌++◌, ℕ, List, map}
use Rattle.wb_base.specs.Grammar.{GrammarView}
use Rattle.wb_compose_theory_grammar.specs.Places.{total_of}
use Rattle.wb_compose_theory_grammar.specs.Unions.{added_nonterminals, added_terminals, productions_after}

-- so many terminals and nonterminals come before what is next: those of the extensions with these grammars
pub record AreBefore (host : GrammarView) (grammars : List GrammarView) (terminals nonterminals : ℕ) : Type 0 where
  pub terminals_are : terminals ≡ total_of (map (added_terminals host) grammars)
  pub nonterminals_are : nonterminals ≡ total_of (map (added_nonterminals host) grammars)

-- a union of a host and extensions with these grammars has so many
pub record AreTotals (host : GrammarView) (grammars : List GrammarView) (terminals nonterminals : ℕ) : Type 0 where
  pub terminals_are : terminals ≡ host.terminals + total_of (map (added_terminals host) grammars)
  pub nonterminals_are : nonterminals ≡ host.nonterminals + total_of (map (added_nonterminals host) grammars)

-- the productions of extensions with these grammars were added to those of a grammar, and what comes before the next is counted
pub record AreAdded (host : GrammarView) (grammars : List GrammarView) (old made : GrammarView) (terminals nonterminals : ℕ) : Type 0 where
  pub made_is : made ≡ record old { productions = old.productions ++ productions_after host 0 0 grammars }
  pub before : AreBefore host grammars terminals nonterminals
