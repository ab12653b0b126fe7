-- The union of a host's grammar and its extensions, in numbers: the host's symbols and productions, then those of each extension.
use Rattle.std.specs.Prelude.{◌+◌, ◌-◌, ℕ, List, [], ◌∷◌, ◌++◌, drop, length, map}
use Rattle.wb_base.specs.Grammar.{GrammarView, Production}
use Rattle.wb_compose_theory.specs.Blocks.{lift}
use Rattle.wb_compose_theory.specs.Renamings.{Renaming, renamed}
use Rattle.wb_compose_theory_grammar.specs.Places.{total_of}

-- how many terminals, nonterminals and productions a grammar has beyond the host's
abbrev pub added_terminals : (host g : GrammarView) → ℕ
added_terminals host g = g.terminals - host.terminals

abbrev pub added_nonterminals : (host g : GrammarView) → ℕ
added_nonterminals host g = g.nonterminals - host.nonterminals

abbrev pub added_productions : (host g : GrammarView) → ℕ
added_productions host g = length g.productions - length host.productions

-- the host's numbers stay, and other terminals, nonterminals and productions move up by so many
abbrev pub lifted_by : GrammarView → (t a p : ℕ) → Renaming
lifted_by host t a p = record {
  terminal = lift host.terminals t;
  nonterminal = lift host.nonterminals a;
  production = lift (length host.productions) p;
}

-- the production with new numbers for its symbols
abbrev pub renamed_production : Renaming → Production → Production
renamed_production r rule = (r.nonterminal rule.0, map (renamed r) rule.1)

-- the productions that a grammar has beyond the host's
abbrev pub own_productions : (host g : GrammarView) → List Production
own_productions host g = drop (length host.productions) g.productions

-- the productions of extensions, whose own terminals and nonterminals move up by so many, and further for each later extension
abbrev pub productions_after : GrammarView → (t a : ℕ) → List GrammarView → List Production
productions_after host t a [] = []
productions_after host t a (g ∷ rest) =
    map (renamed_production (lifted_by host t a 0)) (own_productions host g) ++
    productions_after host (t + added_terminals host g) (a + added_nonterminals host g) rest

-- the union of the host and its extensions, each given by the grammar that it has with the host
abbrev pub union_of : GrammarView → List GrammarView → GrammarView
union_of host grammars = record {
  terminals = host.terminals + total_of (map (added_terminals host) grammars);
  nonterminals = host.nonterminals + total_of (map (added_nonterminals host) grammars);
  start = host.start;
  productions = host.productions ++ productions_after host 0 0 grammars;
}
