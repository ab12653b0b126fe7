-- The grammars of a host, of the host with each extension and of their union, beside the productions of their attributes.
use Rattle.std.specs.Prelude.{◌≡◌, ◌+◌, ◌++◌, List, length, map}
use Rattle.std.specs.List.{AllZip}
use Rattle.wb_base.specs.Grammar.{GrammarView, IsGrammar}
use Rattle.wb_syntax_resolved.specs.declared.production.Production.{Production}
use Rattle.wb_syntax_resolved.specs.Grammar.{IsGrammarProduction}
use Rattle.wb_compose_theory_grammar.specs.Places.{total_of}
use Rattle.wb_compose_theory_grammar.specs.Unions.{own_productions}
use Rattle.wb_compose_theory_lists.specs.Additions.{Rows, Addition}
use Rattle.wb_compose_theory_lists.specs.Joined.{joined, numbered}
use Rattle.wb_compose_theory_lists.specs.United.{host_production, own_production}

-- the grammar has the host's terminals, the nonterminals that lead, and the concrete productions
pub record IsHostGrammar (host : Rows) (g : GrammarView) : Type 0 where
  pub is_grammar : IsGrammar g
  pub terminals : g.terminals ≡ host.terminals
  pub nonterminals : g.nonterminals ≡ length host.nonterminals
  pub productions : AllZip IsGrammarProduction host.productions g.productions

-- the grammar of the host with an extension has besides what the extension adds
pub record IsAddedGrammar (host_grammar : GrammarView) (x : Addition) (g : GrammarView) : Type 0 where
  pub is_grammar : IsGrammar g
  pub terminals : g.terminals ≡ host_grammar.terminals + x.rows.terminals
  pub nonterminals : g.nonterminals ≡ host_grammar.nonterminals + length x.rows.nonterminals
  pub productions : AllZip IsGrammarProduction x.rows.productions (own_productions host_grammar g)

-- the host has this grammar, and with each extension it has the grammar of the same place
pub record AreGrammars (host : Rows) (host_grammar : GrammarView) (all : List Addition) (grammars : List GrammarView) : Type 0 where
  pub of_host : IsHostGrammar host host_grammar
  pub each : AllZip (IsAddedGrammar host_grammar) all grammars

-- the productions that lead in the union
abbrev pub leading_productions : Rows → List Addition → List Production
leading_productions host all = numbered (host_production host all) 0 host.productions
    ++ joined (numbered (λ k x. numbered (own_production host all k x) (length host.productions) x.rows.productions) 0 all)

-- the grammar has all terminals, the nonterminals that lead in the union, and its concrete productions
pub record IsUnionGrammar (host : Rows) (all : List Addition) (g : GrammarView) : Type 0 where
  pub terminals : g.terminals ≡ host.terminals + total_of (map (λ (x : Addition). x.rows.terminals) all)
  pub nonterminals : g.nonterminals ≡ length host.nonterminals + total_of (map (λ (x : Addition). length x.rows.nonterminals) all)
  pub productions : AllZip IsGrammarProduction (leading_productions host all) g.productions
