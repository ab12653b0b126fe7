-- Names in items of names alone that are there, and the rows that are found.
use Rattle.std.specs.Prelude.{◌≡◌, ◌++◌, List, All, Contains, filter_map}
use Rattle.std.specs.List.{AllZip}
use Rattle.wb_syntax_resolved.specs.declared.attributes.Attribute.{Attribute}
use Rattle.wb_syntax_resolved.specs.declared.attributes.Occurrence.{Occurrence}
use Rattle.wb_syntax_resolved.specs.declared.terminal.Preference.{Preference}
use Rattle.wb_syntax.specs.declared.item.ItemForm.{ItemForm}
use Rattle.wb_syntax.specs.declared.item.ItemForm.TheVariants as f
use Rattle.wb_syntax.specs.declared.item.PlainForm.{PlainForm}
use Rattle.wb_syntax.specs.declared.item.PlainForm.TheVariants as i
use Rattle.wb_syntax.specs.declared.pattern.Pattern.{Pattern}
use Rattle.wb_syntax.specs.Names.{kind_names, needs_names}
use Rattle.wb_names_theory.specs.Declarations.{AttributeDeclaration, OccurrenceDeclaration, PreferenceDeclaration}
use Rattle.wb_names_theory.specs.Declarations.{attribute_of, occurrence_of, preference_of}
use Rattle.wb_names_numbers_theory.specs.Numbering.{Numbering}
use Rattle.wb_names_numbers_theory.specs.Written.{IsWrittenKind}
use Rattle.wb_names_rows.specs.declared.plains.Plains.{Plains}
use Rattle.wb_names_rows.specs.declared.scope.Scope.{Scope}
use Rattle.wb_names_rows.specs.Nodes.{IsAt}
use Rattle.wb_names_rows.specs.Scope.{IsScope}

module _ (s : Scope) where
  -- each name in an item of names alone is there, where it declares an attribute, an occurrence or a preference
  abbrev pub PlainIsThere : PlainForm → Type 0
  PlainIsThere (i.Prefer first second) = Contains s.terminals first × Contains s.terminals second
  PlainIsThere (i.Synthesized name kind) = All (Contains s.nonterminals) (kind_names kind)
  PlainIsThere (i.Inherited name kind) = All (Contains s.nonterminals) (kind_names kind)
  PlainIsThere (i.Occurs attribute nonterminal needs) =
      Contains s.attributes attribute × Contains s.nonterminals nonterminal × All (Contains s.attributes) (needs_names needs)
  PlainIsThere other = Unit {0}

  abbrev pub FormIsThere : ItemForm Pattern → Type 0
  FormIsThere (f.Plain plain) = PlainIsThere plain
  FormIsThere other = Unit {0}

  -- an attribute, an occurrence and a preference, as they are found
  pub record IsFoundAttribute (d : AttributeDeclaration) (row : Attribute) : Type 0 where
    pub name : row.name ≡ d.name
    pub owner : row.owner ≡ s.owner
    pub direction : row.direction ≡ d.direction
    pub is_kind : (n : Numbering) → IsScope s n → IsWrittenKind n s.owner d.kind row.kind

  pub record IsFoundOccurrence (d : OccurrenceDeclaration) (row : Occurrence) : Type 0 where
    pub owner : row.owner ≡ s.owner
    pub attribute : IsAt s.attributes d.attribute row.attribute
    pub nonterminal : IsAt s.nonterminals d.nonterminal row.nonterminal
    pub needs : AllZip (IsAt s.attributes) (needs_names d.needs) row.needs

  pub record IsFoundPreference (d : PreferenceDeclaration) (row : Preference) : Type 0 where
    pub first : IsAt s.terminals d.first row.first
    pub second : IsAt s.terminals d.second row.second

-- one row for each is added after the others
abbrev pub AddsEach : {A B : Type 0} → (A → B → Type 0) → List A → List B → List B → Type 0
AddsEach {A} {B} IsFound xs old new = (own : List B) × (new ≡ old ++ own) × AllZip IsFound xs own

-- what items of names alone declare is added
pub record AddsPlains (s : Scope) (plains : List PlainForm) (old new : Plains) : Type 0 where
  pub attributes : AddsEach (IsFoundAttribute s) (filter_map attribute_of plains) old.attributes.items new.attributes.items
  pub occurrences : AddsEach (IsFoundOccurrence s) (filter_map occurrence_of plains) old.occurrences.items new.occurrences.items
  pub preferences : AddsEach (IsFoundPreference s) (filter_map preference_of plains) old.preferences.items new.preferences.items
