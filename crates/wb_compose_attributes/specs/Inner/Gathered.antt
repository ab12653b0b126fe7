-- Lists of the union as they are gathered, where each extension has its new numbers.
use Rattle.std.specs.Prelude.{◌++◌, ℕ, List, [], length, map}
use Rattle.std.specs.List.{flat_map}
use Rattle.wb_compose_theory_lists.specs.Joined.{numbered}
use Rattle.wb_compose_attributes.specs.declared.numbers.Numbers.{Numbers}
use Rattle.wb_compose_attributes.specs.NewNumbers.{map_of}
use Rattle.wb_syntax_resolved.specs.declared.attributes.Attribute.{Attribute}
use Rattle.wb_syntax_resolved.specs.declared.attributes.Nonterminal.{Nonterminal}
use Rattle.wb_syntax_resolved.specs.declared.attributes.Occurrence.{Occurrence}
use Rattle.wb_syntax_resolved.specs.declared.attribution.AttributionParts.{AttributionParts}
use Rattle.wb_syntax_resolved.specs.declared.production.Production.{Production}
use Rattle.wb_syntax_resolved.specs.Numbered.{signature_of}
use Rattle.wb_compose_theory_attributes.specs.Rows.{new_attribute, new_nonterminal, new_occurrence}
use Rattle.wb_compose_attributes.specs.declared.addition.Rows.{Rows}
use Rattle.wb_compose_attributes.specs.declared.placed.Placed.{Placed}
use Rattle.wb_compose_attributes.specs.Inner.Written.{host_production_by, production_by}

-- rows in new numbers
abbrev pub nonterminals_by : Numbers → List Nonterminal → List Nonterminal
nonterminals_by n rows = map (new_nonterminal (map_of n) n.owner) rows

abbrev pub attributes_by : Numbers → List Attribute → List Attribute
attributes_by n rows = map (new_attribute (map_of n) n.owner) rows

abbrev pub occurrences_by : Numbers → List Occurrence → List Occurrence
occurrences_by n rows = map (new_occurrence (map_of n) n.owner) rows

-- productions on which no other writes
abbrev pub own_productions : Numbers → List Production → List Production
own_productions n rows = map (λ row. production_by n row []) rows

-- productions of the host, of which so many lead, where the first of these has this number
abbrev pub host_productions : Numbers → (leading : ℕ) → List Placed → (first : ℕ) → List Production → List Production
host_productions n leading placed first rows = numbered (λ p row. host_production_by leading p row n placed) first rows

-- those of an extension
abbrev pub nonterminals_in : Placed → List Nonterminal
nonterminals_in y = nonterminals_by y.numbers y.addition.rows.nonterminals.now

abbrev pub abstract_nonterminals_in : Placed → List Nonterminal
abstract_nonterminals_in y = nonterminals_by y.numbers y.addition.rows.abstract_nonterminals.now

abbrev pub attributes_in : Placed → List Attribute
attributes_in y = attributes_by y.numbers y.addition.rows.attributes.now

abbrev pub occurrences_in : Placed → List Occurrence
occurrences_in y = occurrences_by y.numbers y.addition.rows.occurrences.now

abbrev pub productions_in : Placed → List Production
productions_in y = own_productions y.numbers y.addition.rows.productions.now

abbrev pub abstract_productions_in : Placed → List Production
abstract_productions_in y = own_productions y.numbers y.addition.rows.abstract_productions.now

-- the names of extensions
abbrev pub names_in : List Placed → List (List ℕ)
names_in placed = map (λ (y : Placed). y.addition.name.now) placed

-- all of them, the host's first
abbrev pub gathered_nonterminals : Numbers → Rows → List Placed → List Nonterminal
gathered_nonterminals n host placed =
    nonterminals_by n host.nonterminals.now ++ flat_map nonterminals_in placed ++
    nonterminals_by n host.abstract_nonterminals.now ++ flat_map abstract_nonterminals_in placed

abbrev pub gathered_attributes : Numbers → Rows → List Placed → List Attribute
gathered_attributes n host placed = attributes_by n host.attributes.now ++ flat_map attributes_in placed

abbrev pub gathered_occurrences : Numbers → Rows → List Placed → List Occurrence
gathered_occurrences n host placed = occurrences_by n host.occurrences.now ++ flat_map occurrences_in placed

abbrev pub gathered_productions : Numbers → Rows → List Placed → List Production
gathered_productions n host placed =
    host_productions n (length host.productions.now) placed 0 host.productions.now ++ flat_map productions_in placed ++
    host_productions n (length host.productions.now) placed (length host.productions.now) host.abstract_productions.now ++
    flat_map abstract_productions_in placed

abbrev pub gathered : Numbers → Rows → List Placed → AttributionParts
gathered n host placed = record {
  extensions = names_in placed;
  nonterminals = gathered_nonterminals n host placed;
  attributes = gathered_attributes n host placed;
  occurrences = gathered_occurrences n host placed;
  productions = gathered_productions n host placed;
  signatures = map (signature_of (names_in placed)) (gathered_productions n host placed);
}
