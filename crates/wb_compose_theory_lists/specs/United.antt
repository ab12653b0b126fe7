-- The united attribution: in each list the host's rows, and then those of each extension, in the union's numbers.
use Rattle.std.specs.Prelude.{◌++◌, ℕ, suc, List, length, map, option_map}
use Rattle.wb_syntax_resolved.specs.declared.attributes.Attribute.{Attribute}
use Rattle.wb_syntax_resolved.specs.declared.attributes.Nonterminal.{Nonterminal}
use Rattle.wb_syntax_resolved.specs.declared.attributes.Occurrence.{Occurrence}
use Rattle.wb_syntax_resolved.specs.declared.attribution.AttributionParts.{AttributionParts}
use Rattle.wb_syntax_resolved.specs.declared.equation.Equation.{Equation}
use Rattle.wb_syntax_resolved.specs.declared.production.Local.{Local}
use Rattle.wb_syntax_resolved.specs.declared.production.Production.{Production}
use Rattle.wb_syntax_resolved.specs.Numbered.{signature_of}
use Rattle.wb_compose_theory_attributes.specs.Numbers.{NumberMap}
use Rattle.wb_compose_theory_attributes.specs.Rows.{new_owner, new_child, new_nonterminal, new_attribute, new_occurrence, new_equation}
use Rattle.wb_compose_theory_attributes.specs.Rows.{new_local}
use Rattle.wb_compose_theory_attributes.specs.Rows.{new_forward}
use Rattle.wb_compose_theory_lists.specs.Additions.{Rows, Addition, nothing}
use Rattle.wb_compose_theory_lists.specs.Joined.{joined, numbered, grouped}
use Rattle.wb_compose_theory_lists.specs.Numbers.{number_with, before_abstract, numbers_of}

module _ (host : Rows) (all : List Addition) where
  -- the host's numbers in the union
  abbrev pub host_numbers : NumberMap
  host_numbers = numbers_of host all 0 nothing

  -- rows of each extension, in the union's numbers
  abbrev pub each_nonterminals : (Addition → List Nonterminal) → List (List Nonterminal)
  each_nonterminals rows_of = numbered (λ k x. map (new_nonterminal (numbers_of host all k x) (suc k)) (rows_of x)) 0 all

  abbrev pub united_nonterminals : List Nonterminal
  united_nonterminals = grouped (map (new_nonterminal host_numbers 0) host.nonterminals)
      (each_nonterminals (λ x. x.rows.nonterminals)) (map (new_nonterminal host_numbers 0) host.abstract_nonterminals)
      (each_nonterminals (λ x. x.rows.abstract_nonterminals))

  abbrev pub each_attributes : List (List Attribute)
  each_attributes = numbered (λ k x. map (new_attribute (numbers_of host all k x) (suc k)) x.rows.attributes) 0 all

  abbrev pub united_attributes : List Attribute
  united_attributes = map (new_attribute host_numbers 0) host.attributes ++ joined each_attributes

  abbrev pub each_occurrences : List (List Occurrence)
  each_occurrences = numbered (λ k x. map (new_occurrence (numbers_of host all k x) (suc k)) x.rows.occurrences) 0 all

  abbrev pub united_occurrences : List Occurrence
  united_occurrences = map (new_occurrence host_numbers 0) host.occurrences ++ joined each_occurrences

  -- what extensions write on the host's production of this number
  abbrev pub each_locals : ℕ → List (List Local)
  each_locals p = numbered (λ k x. map (new_local (numbers_of host all k x) (number_with host x p) (suc k)) (x.locals p)) 0 all

  abbrev pub each_equations : ℕ → List (List Equation)
  each_equations p = numbered (λ k x. map (new_equation (numbers_of host all k x) (number_with host x p) (suc k)) (x.equations p)) 0 all

  -- a production of the host, with what extensions write on it
  abbrev pub host_production : ℕ → Production → Production
  host_production p row = record {
    name = row.name;
    owner = new_owner 0 row.owner;
    role = row.role;
    left = host_numbers.nonterminal row.left;
    children = map (new_child host_numbers) row.children;
    locals = map (new_local host_numbers p 0) row.locals ++ joined (each_locals p);
    forward = option_map (new_forward host_numbers p) row.forward;
    equations = map (new_equation host_numbers p 0) row.equations ++ joined (each_equations p);
  }

  -- the production of the k-th extension that has this number with the host alone
  abbrev pub own_production : ℕ → Addition → ℕ → Production → Production
  own_production k x p row = record {
    name = row.name;
    owner = new_owner (suc k) row.owner;
    role = row.role;
    left = (numbers_of host all k x).nonterminal row.left;
    children = map (new_child (numbers_of host all k x)) row.children;
    locals = map (new_local (numbers_of host all k x) p (suc k)) row.locals;
    forward = option_map (new_forward (numbers_of host all k x) p) row.forward;
    equations = map (new_equation (numbers_of host all k x) p (suc k)) row.equations;
  }

  abbrev pub united_productions : List Production
  united_productions = grouped (numbered host_production 0 host.productions)
      (numbered (λ k x. numbered (own_production k x) (length host.productions) x.rows.productions) 0 all)
      (numbered host_production (length host.productions) host.abstract_productions)
      (numbered (λ k x. numbered (own_production k x) (before_abstract host x) x.rows.abstract_productions) 0 all)

  -- the united attribution
  abbrev pub united_attribution : AttributionParts
  united_attribution = record {
    extensions = map (λ (x : Addition). x.name) all;
    nonterminals = united_nonterminals;
    attributes = united_attributes;
    occurrences = united_occurrences;
    productions = united_productions;
    signatures = map (signature_of (map (λ (x : Addition). x.name) all)) united_productions;
  }
