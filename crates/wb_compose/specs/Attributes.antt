-- The attributes of a host with extensions, each given by the host with it alone: what an extension adds is cut out of what both are.
use Rattle.std.specs.Prelude.{◌+◌, ◌-◌, ℕ, Option, Some, None, List, [], drop, length, map, slice_get, take}
use Rattle.wb_compose_theory_lists.specs.Hosts.{rows_of}
use Rattle.wb_base.specs.Grammar.{GrammarView}
use Rattle.wb_compose.specs.Joined.{Extended}
use Rattle.wb_compose.specs.Written.{name_in}
use Rattle.wb_compose_theory_lists.specs.Additions.{Rows, Addition}
use Rattle.wb_compose_theory_lists.specs.Numbers.{locals_in}
use Rattle.wb_compose_theory_lists.specs.United.{united_attribution}
use Rattle.wb_syntax_resolved.specs.declared.attribution.AttributionParts.{AttributionParts}
use Rattle.wb_syntax_resolved.specs.declared.equation.Equation.{Equation}
use Rattle.wb_syntax_resolved.specs.declared.production.Local.{Local}
use Rattle.wb_syntax_resolved.specs.declared.production.Production.{Production}
use Rattle.wb_syntax_resolved.specs.declared.resolved.ResolvedParts.{ResolvedParts}
use Rattle.wb_compose_theory.specs.Blocks.{lift}

-- the equations of what may be a production
abbrev pub equations_in : Option Production → List Equation
equations_in None = []
equations_in (Some production) = production.equations

-- on what may be a production of the host, what comes after the host's own in what may be the same production with an extension
abbrev pub locals_after : Option Production → Option Production → List Local
locals_after None there = []
locals_after (Some production) there = drop (length production.locals) (locals_in there)

abbrev pub equations_after : Option Production → Option Production → List Equation
equations_after None there = []
equations_after (Some production) there = drop (length production.equations) (equations_in there)

module _ (host : ResolvedParts) (g : GrammarView) where
  -- how many nonterminals and productions of the host are abstract alone
  abbrev pub abstract_nonterminals : ℕ
  abstract_nonterminals = length host.attributes.nonterminals - g.nonterminals

  abbrev pub abstract_productions : ℕ
  abstract_productions = length host.attributes.productions - length g.productions

  -- the rows that an extension adds: those of its grammar come after the host's, and the others after all of the host's
  abbrev pub added_rows : Extended → Rows
  added_rows e = record {
    terminals = e.grammar.terminals - g.terminals;
    nonterminals = drop g.nonterminals (take e.grammar.nonterminals e.resolved.attributes.nonterminals);
    abstract_nonterminals = drop (e.grammar.nonterminals + abstract_nonterminals) e.resolved.attributes.nonterminals;
    attributes = drop (length host.attributes.attributes) e.resolved.attributes.attributes;
    occurrences = drop (length host.attributes.occurrences) e.resolved.attributes.occurrences;
    productions = drop (length g.productions) (take (length e.grammar.productions) e.resolved.attributes.productions);
    abstract_productions = drop (length e.grammar.productions + abstract_productions) e.resolved.attributes.productions;
  }

  -- what may be the host's production of this number, as it is with the extension
  abbrev pub written_with : Extended → ℕ → Option Production
  written_with e p = slice_get e.resolved.attributes.productions
      (lift (length g.productions) (length e.grammar.productions - length g.productions) p)

  -- what the extension adds: on a production of the host, what comes after the host's own
  abbrev pub addition_of : Extended → Addition
  addition_of e = record {
    name = name_in e.resolved;
    rows = added_rows e;
    locals = λ p. locals_after (slice_get host.attributes.productions p) (written_with e p);
    equations = λ p. equations_after (slice_get host.attributes.productions p) (written_with e p);
  }

  -- what each adds
  abbrev pub additions_of : List Extended → List Addition
  additions_of extended = map addition_of extended

  -- the attributes of all together
  abbrev pub attributes_of : List Extended → AttributionParts
  attributes_of extended = united_attribution (rows_of host g) (additions_of extended)
