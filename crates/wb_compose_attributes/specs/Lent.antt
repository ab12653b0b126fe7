-- What is lent, as the rows of a host and what extensions add to them.
use Rattle.std.specs.Prelude.{◌++◌, ℕ, List, [], Option, Some, None, drop, length, map, slice_get}
use Rattle.wb_compose_theory_lists.specs.Additions as union
use Rattle.wb_compose_theory_lists.specs.Numbers.{locals_in}
use Rattle.wb_syntax_resolved.specs.declared.equation.Equation.{Equation}
use Rattle.wb_syntax_resolved.specs.declared.production.Local.{Local}
use Rattle.wb_syntax_resolved.specs.declared.production.Production.{Production}
use Rattle.wb_compose_theory.specs.Blocks.{lift}
use Rattle.wb_compose_attributes.specs.declared.addition.Addition.{Addition}
use Rattle.wb_compose_attributes.specs.declared.addition.Rows.{Rows}

-- the rows
abbrev pub rows_in : Rows → union.Rows
rows_in r = record {
  terminals = r.terminals;
  nonterminals = r.nonterminals.now;
  abstract_nonterminals = r.abstract_nonterminals.now;
  attributes = r.attributes.now;
  occurrences = r.occurrences.now;
  productions = r.productions.now;
  abstract_productions = r.abstract_productions.now;
}

-- the equations of what may be a production
abbrev pub equations_in : Option Production → List Equation
equations_in None = []
equations_in (Some production) = production.equations

-- on what may be a production of the host, what comes after the host's own in what may be the same production with an extension
abbrev pub locals_after : Option Production → Option Production → List Local
locals_after None there = []
locals_after (Some production) there = drop (length production.locals) (locals_in there)

abbrev pub equations_after : Option Production → Option Production → List Equation
equations_after None there = []
equations_after (Some production) there = drop (length production.equations) (equations_in there)

-- what may be the host's production of this number
abbrev pub host_row : Rows → ℕ → Option Production
host_row host p = slice_get (host.productions.now ++ host.abstract_productions.now) p

-- what may be the host's production of this number, with the extension
abbrev pub written_in : Rows → Addition → ℕ → Option Production
written_in host x p = slice_get x.written.now (lift (length host.productions.now) (length x.rows.productions.now) p)

-- what the extension adds: on a production of the host what comes after the host's own
abbrev pub addition_in : Rows → Addition → union.Addition
addition_in host x = record {
  name = x.name.now;
  rows = rows_in x.rows;
  locals = λ p. locals_after (host_row host p) (written_in host x p);
  equations = λ p. equations_after (host_row host p) (written_in host x p);
}

-- all of them
abbrev pub all_in : Rows → List Addition → List union.Addition
all_in host additions = map (addition_in host) additions
