-- That no name is declared twice by owners of whom one sees the other, that no attribute occurs twice on a nonterminal, and that no two
-- equations of a production have one target.
use Rattle.std.specs.Prelude.{◌≡◌, ℕ, List, ◌++◌, Some, All, map, slice_get}
use Rattle.wb_base.specs.Different.{Differ}
use Rattle.wb_syntax_resolved.specs.declared.attributes.Attribute.{Attribute}
use Rattle.wb_syntax_resolved.specs.declared.attributes.Nonterminal.{Nonterminal}
use Rattle.wb_syntax_resolved.specs.declared.attributes.Occurrence.{Occurrence}
use Rattle.wb_syntax_resolved.specs.declared.equation.Equation.{Equation}
use Rattle.wb_syntax_resolved.specs.declared.production.Child.{Child}
use Rattle.wb_syntax_resolved.specs.declared.production.Local.{Local}
use Rattle.wb_syntax_resolved.specs.declared.production.Production.{Production}
use Rattle.wb_syntax_resolved.specs.Owners.{Sees}
use Rattle.wb_syntax_resolved.specs.declared.attribution.AttributionParts.{AttributionParts}

-- a name and whose it is
abbrev pub Entry : Type 0
Entry = ℕ × List ℕ

-- no name is there twice for owners of whom one sees the other
abbrev pub NamesDiffer : List Entry → Type 0
NamesDiffer entries = (i j owner other : ℕ) (name : List ℕ) → slice_get entries i ≡ Some (owner, name)
    → slice_get entries j ≡ Some (other, name) → Sees owner other → i ≡ j

-- the names of nonterminals and productions
abbrev pub symbol_names : AttributionParts → List Entry
symbol_names a =
    map (λ (r : Nonterminal). (r.owner, r.name)) a.nonterminals ++ map (λ (r : Production). (r.owner, r.name)) a.productions

-- the names of attributes
abbrev pub attribute_names : AttributionParts → List Entry
attribute_names a = map (λ (r : Attribute). (r.owner, r.name)) a.attributes

-- the labels of a production's children and locals
abbrev pub labels_of : Production → List Entry
labels_of production =
    map (λ (c : Child). (production.owner, c.label)) production.children ++ map (λ (l : Local). (l.owner, l.label)) production.locals

-- no label is there twice for owners of whom one sees the other, and no two equations of the production have one target
pub record IsOnceIn (production : Production) : Type 0 where
  pub labels : NamesDiffer (labels_of production)
  pub targets : Differ (map (λ (e : Equation). e.target) production.equations)

-- no attribute occurs twice on a nonterminal
abbrev pub OccursOnce : List Occurrence → Type 0
OccursOnce occurrences = (i j : ℕ) (r s : Occurrence) → slice_get occurrences i ≡ Some r → slice_get occurrences j ≡ Some s
    → r.attribute ≡ s.attribute → r.nonterminal ≡ s.nonterminal → i ≡ j

-- no name of an extension is there twice, and none of a nonterminal, production or attribute for owners of whom one sees the other; no
-- attribute occurs twice on a nonterminal; and in each production labels and targets are once
pub record IsOnce (a : AttributionParts) : Type 0 where
  pub extensions : Differ a.extensions
  pub symbols : NamesDiffer (symbol_names a)
  pub attributes : NamesDiffer (attribute_names a)
  pub occurrences : OccursOnce a.occurrences
  pub productions : All IsOnceIn a.productions
