-- Lists of the union, and rules of a production, in the making.
use Rattle.std.specs.Prelude.{◌≡◌, ◌++◌, List, [], Option, length, map, option_map}
use Rattle.std.specs.List.{flat_map}
use Rattle.wb_compose_attributes.specs.declared.numbers.Numbers.{Numbers}
use Rattle.wb_compose_attributes.specs.NewNumbers.{map_of}
use Rattle.wb_syntax_resolved.specs.declared.attribution.AttributionParts.{AttributionParts}
use Rattle.wb_syntax_resolved.specs.declared.equation.Equation.{Equation}
use Rattle.wb_syntax_resolved.specs.declared.production.Forward.{Forward}
use Rattle.wb_syntax_resolved.specs.declared.production.Local.{Local}
use Rattle.wb_syntax_resolved.specs.declared.production.Production.{Production}
use Rattle.wb_syntax_resolved.specs.Numbered.{signature_of}
use Rattle.wb_compose_theory_attributes.specs.Rows.{new_forward}
use Rattle.wb_compose_attributes.specs.declared.production.Rules.{Rules}
use Rattle.wb_compose_attributes.specs.declared.lists.Lists.{Lists}
use Rattle.wb_compose_attributes.specs.declared.addition.Rows.{Rows}
use Rattle.wb_compose_attributes.specs.declared.placed.Placed.{Placed}
use Rattle.wb_compose_attributes.specs.declared.productions.Host.{Host}
use Rattle.wb_compose_attributes.specs.declared.written.Writing.{Writing}
use Rattle.wb_compose_attributes.specs.Inner.Gathered.{abstract_nonterminals_in, abstract_productions_in, attributes_by}
use Rattle.wb_compose_attributes.specs.Inner.Gathered.{gathered_attributes, gathered_occurrences, host_productions, nonterminals_by}
use Rattle.wb_compose_attributes.specs.Inner.Gathered.{nonterminals_in, occurrences_by, productions_in}
use Rattle.wb_compose_attributes.specs.Inner.Written.{Written, equations_by, locals_by, written_equations, written_locals}

-- nothing is in the lists
pub record AreEmpty (made : Lists) : Type 0 where
  pub extensions : made.extensions.items ≡ []
  pub nonterminals : made.nonterminals.items ≡ []
  pub attributes : made.attributes.items ≡ []
  pub occurrences : made.occurrences.items ≡ []
  pub productions : made.productions.items ≡ []

-- these rows have been added, but no productions
pub record RowsAdded (n : Numbers) (rows : Rows) (old new : Lists) : Type 0 where
  pub extensions : new.extensions.items ≡ old.extensions.items
  pub nonterminals : new.nonterminals.items ≡ old.nonterminals.items ++ nonterminals_by n rows.nonterminals.now
  pub attributes : new.attributes.items ≡ old.attributes.items ++ attributes_by n rows.attributes.now
  pub occurrences : new.occurrences.items ≡ old.occurrences.items ++ occurrences_by n rows.occurrences.now
  pub productions : new.productions.items ≡ old.productions.items

-- the lists have what leads of the host and of these extensions
pub record Leading (h : Host) (placed : List Placed) (made : Lists) : Type 0 where
  pub extensions : made.extensions.items ≡ []
  pub nonterminals : made.nonterminals.items ≡ nonterminals_by h.numbers.now h.rows.now.nonterminals.now ++ flat_map nonterminals_in placed
  pub attributes : made.attributes.items ≡ gathered_attributes h.numbers.now h.rows.now placed
  pub occurrences : made.occurrences.items ≡ gathered_occurrences h.numbers.now h.rows.now placed
  pub productions : made.productions.items
      ≡ host_productions h.numbers.now (length h.rows.now.productions.now) h.placed.now 0 h.rows.now.productions.now
      ++ flat_map productions_in placed

-- they have all that leads, and what follows of the host and of these extensions
pub record Following (h : Host) (placed : List Placed) (made : Lists) : Type 0 where
  pub extensions : made.extensions.items ≡ []
  pub nonterminals : made.nonterminals.items
      ≡ nonterminals_by h.numbers.now h.rows.now.nonterminals.now ++ flat_map nonterminals_in h.placed.now
      ++ nonterminals_by h.numbers.now h.rows.now.abstract_nonterminals.now ++ flat_map abstract_nonterminals_in placed
  pub attributes : made.attributes.items ≡ gathered_attributes h.numbers.now h.rows.now h.placed.now
  pub occurrences : made.occurrences.items ≡ gathered_occurrences h.numbers.now h.rows.now h.placed.now
  pub productions : made.productions.items
      ≡ host_productions h.numbers.now (length h.rows.now.productions.now) h.placed.now 0 h.rows.now.productions.now
      ++ flat_map productions_in h.placed.now
      ++ host_productions h.numbers.now (length h.rows.now.productions.now) h.placed.now (length h.rows.now.productions.now)
      h.rows.now.abstract_productions.now ++ flat_map abstract_productions_in placed

-- the lists, with the signatures of the productions
abbrev pub parts_in : Lists → AttributionParts
parts_in made = record {
  extensions = made.extensions.items;
  nonterminals = made.nonterminals.items;
  attributes = made.attributes.items;
  occurrences = made.occurrences.items;
  productions = made.productions.items;
  signatures = map (signature_of made.extensions.items) made.productions.items;
}

-- the production with these rules
abbrev pub with_rules : Production → List Local → Option Forward → List Equation → Production
with_rules production locals forward equations = record production { locals = locals; forward = forward; equations = equations }

-- nothing is in the rules
pub record AreNone (rules : Rules) : Type 0 where
  pub locals : rules.locals.items ≡ []
  pub equations : rules.equations.items ≡ []

-- a production's rules in new numbers, with what is written on it besides
pub record AreRules (n : Numbers) (row : Production) (others : List Written) (rules : Rules) : Type 0 where
  pub locals : rules.locals.items ≡ locals_by n row.locals ++ flat_map written_locals others
  pub forward : rules.forward ≡ option_map (new_forward (map_of n) 0) row.forward
  pub equations : rules.equations.items ≡ equations_by n row.equations ++ flat_map written_equations others

-- these locals and equations have been added in new numbers
pub record AreAdded (n : Numbers) (parts : Writing) (old new : Rules) : Type 0 where
  pub locals : new.locals.items ≡ old.locals.items ++ locals_by n parts.locals.now
  pub forward : new.forward ≡ old.forward
  pub equations : new.equations.items ≡ old.equations.items ++ equations_by n parts.equations.now

-- what an extension writes has been added
pub record IsWritten (w : Written) (old new : Rules) : Type 0 where
  pub locals : new.locals.items ≡ old.locals.items ++ written_locals w
  pub forward : new.forward ≡ old.forward
  pub equations : new.equations.items ≡ old.equations.items ++ written_equations w
