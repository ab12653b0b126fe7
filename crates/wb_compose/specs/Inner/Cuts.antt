-- What is cut out of the attributes of a host, and of the host with an extension.
use Rattle.std.specs.Prelude.{◌≡◌, ◌+◌, ◌-◌, Some, drop, length, take}
use Rattle.wb_base.specs.Grammar.{GrammarView}
use Rattle.wb_certify.specs.Kept.{AreCertifiedBoth, ExtensionView}
use Rattle.wb_compose.specs.Written.{name_in}
use Rattle.wb_compose_theory_lists.specs.Additions.{Rows}
use Rattle.wb_syntax_resolved.specs.declared.attribution.AttributionParts.{AttributionParts}
use Rattle.wb_compose_attributes.specs.declared.addition.Addition.{Addition}
use Rattle.wb_compose_attributes.specs.Lent.{rows_in}

-- the rows of the host, whose attributes and grammar these are
abbrev pub rows_by : AttributionParts → GrammarView → Rows
rows_by a h = record {
  terminals = h.terminals;
  nonterminals = take h.nonterminals a.nonterminals;
  abstract_nonterminals = drop h.nonterminals a.nonterminals;
  attributes = a.attributes;
  occurrences = a.occurrences;
  productions = take (length h.productions) a.productions;
  abstract_productions = drop (length h.productions) a.productions;
}

-- the rows that an extension adds, where the host with it has these
abbrev pub added_by : AttributionParts → GrammarView → AttributionParts → GrammarView → Rows
added_by a h b g = record {
  terminals = g.terminals - h.terminals;
  nonterminals = drop h.nonterminals (take g.nonterminals b.nonterminals);
  abstract_nonterminals = drop (g.nonterminals + (length a.nonterminals - h.nonterminals)) b.nonterminals;
  attributes = drop (length a.attributes) b.attributes;
  occurrences = drop (length a.occurrences) b.occurrences;
  productions = drop (length h.productions) (take (length g.productions) b.productions);
  abstract_productions = drop (length g.productions + (length a.productions - length h.productions)) b.productions;
}

-- what is lent is what this certified extension adds to the host, whose attributes and grammar these are
pub record IsCut (a : AttributionParts) (h : GrammarView) (e : ExtensionView) (x : Addition) : Type 0 where
  pub grammar : GrammarView
  pub start : e.resolved.grammar ≡ Some grammar
  pub name_is : x.name.now ≡ name_in e.resolved
  pub rows_are : rows_in x.rows ≡ added_by a h e.resolved.attributes grammar
  pub written_are : x.written.now ≡ e.resolved.attributes.productions
  pub both : (host : GrammarView) → e.host.grammar ≡ Some host → AreCertifiedBoth e.host e.resolved host grammar e.operations
