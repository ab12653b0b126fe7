-- The rows of a resolved host whose grammar this is.
use Rattle.std.specs.Prelude.{◌≡◌, [], drop, length, take}
use Rattle.wb_base.specs.Grammar.{GrammarView}
use Rattle.wb_compose_theory_lists.specs.Additions.{Rows, HaveRoles, AreOnce}
use Rattle.wb_compose_theory_lists.specs.United.{united_attribution}
use Rattle.wb_syntax_resolved.specs.declared.resolved.ResolvedParts.{ResolvedParts}

-- those of its grammar lead, and the others follow
abbrev pub rows_of : ResolvedParts → GrammarView → Rows
rows_of host g = record {
  terminals = g.terminals;
  nonterminals = take g.nonterminals host.attributes.nonterminals;
  abstract_nonterminals = drop g.nonterminals host.attributes.nonterminals;
  attributes = host.attributes.attributes;
  occurrences = host.attributes.occurrences;
  productions = take (length g.productions) host.attributes.productions;
  abstract_productions = drop (length g.productions) host.attributes.productions;
}

-- the attributes of the host are the lists of its rows, which have their roles and are there once
pub record IsOfRows (host : ResolvedParts) (g : GrammarView) : Type 0 where
  pub are : host.attributes ≡ united_attribution (rows_of host g) []
  pub roles : HaveRoles (rows_of host g)
  pub once : AreOnce (rows_of host g)
