-- An attribution in other numbers, whatever the order of what is written on its productions.
use Rattle.std.specs.Prelude.{◌≡◌, ℕ, List, Some, Contains, map, option_map, slice_get}
use Rattle.wb_syntax_resolved.specs.declared.attributes.Attribute.{Attribute}
use Rattle.wb_syntax_resolved.specs.declared.attributes.Nonterminal.{Nonterminal}
use Rattle.wb_syntax_resolved.specs.declared.attributes.Occurrence.{Occurrence}
use Rattle.wb_syntax_resolved.specs.declared.attribution.AttributionParts.{AttributionParts}
use Rattle.wb_syntax_resolved.specs.declared.equation.Equation.{Equation}
use Rattle.wb_syntax_resolved.specs.declared.production.Local.{Local}
use Rattle.wb_syntax_resolved.specs.declared.production.Production.{Production}
use Rattle.wb_compose_theory_attributes.specs.Rows.{new_attribute, new_child, new_equation, new_forward, new_local, new_nonterminal}
use Rattle.wb_compose_theory_attributes.specs.Rows.{new_occurrence}
use Rattle.wb_compose_theory_attribute_order.specs.Renumberings.{IsUndoneBy, Renumbering, owner_by}

-- rows in new numbers, with the new number of their owner
module _ (r : Renumbering) where
  abbrev pub renamed_nonterminal : Nonterminal → Nonterminal
  renamed_nonterminal row = record (new_nonterminal r.numbers 0 row) { owner = owner_by r.extension row.owner }

  abbrev pub renamed_attribute : Attribute → Attribute
  renamed_attribute row = record (new_attribute r.numbers 0 row) { owner = owner_by r.extension row.owner }

  abbrev pub renamed_occurrence : Occurrence → Occurrence
  renamed_occurrence row = record (new_occurrence r.numbers 0 row) { owner = owner_by r.extension row.owner }

  -- what is written on the production of this number
  abbrev pub renamed_equation : ℕ → Equation → Equation
  renamed_equation p row = record (new_equation r.numbers p 0 row) { owner = owner_by r.extension row.owner }

  abbrev pub renamed_local : ℕ → Local → Local
  renamed_local p row = record (new_local r.numbers p 0 row) { owner = owner_by r.extension row.owner }

  -- the second production is the first, which has this number, in new numbers: it has its name, left side, children and forward, each local
  -- at its new number, and each equation at some place
  pub record ProductionLeadsTo (p : ℕ) (production there : Production) : Type 0 where
    pub name : there.name ≡ production.name
    pub owner : there.owner ≡ owner_by r.extension production.owner
    pub role : there.role ≡ production.role
    pub left : there.left ≡ r.numbers.nonterminal production.left
    pub children : there.children ≡ map (new_child r.numbers) production.children
    pub forward : there.forward ≡ option_map (new_forward r.numbers p) production.forward
    pub locals : (x : ℕ) (row : Local) → slice_get production.locals x ≡ Some row
        → slice_get there.locals (r.numbers.local_in p x) ≡ Some (renamed_local p row)
    pub equations : (row : Equation) → Contains production.equations row → Contains there.equations (renamed_equation p row)

  -- the renumbering leads from the one attribution to the other: each extension, nonterminal, attribute and production is there at its new
  -- number, in new numbers, and each occurrence at some place
  pub record AttributionLeadsTo (a b : AttributionParts) : Type 0 where
    pub extensions : (k : ℕ) (name : List ℕ) → slice_get a.extensions k ≡ Some name → slice_get b.extensions (r.extension k) ≡ Some name
    pub nonterminals : (m : ℕ) (row : Nonterminal) → slice_get a.nonterminals m ≡ Some row
        → slice_get b.nonterminals (r.numbers.nonterminal m) ≡ Some (renamed_nonterminal row)
    pub attributes : (y : ℕ) (row : Attribute) → slice_get a.attributes y ≡ Some row
        → slice_get b.attributes (r.numbers.attribute y) ≡ Some (renamed_attribute row)
    pub occurrences : (row : Occurrence) → Contains a.occurrences row → Contains b.occurrences (renamed_occurrence row)
    pub productions : (p : ℕ) (row : Production) → slice_get a.productions p ≡ Some row
        → (there : Production) × (slice_get b.productions (r.numbers.production p) ≡ Some there) × ProductionLeadsTo p row there

-- the two are one attribution, in two numberings: a renumbering leads from the first to the second, another leads back, and each undoes
-- the other
pub record IsSameAttribution (r s : Renumbering) (a b : AttributionParts) : Type 0 where
  pub there : AttributionLeadsTo r a b
  pub back : AttributionLeadsTo s b a
  pub undone : IsUndoneBy r s
  pub redone : IsUndoneBy s r
