-- The rows of attributes, occurrences and preferences are those of what the file stands for.
use Rattle.std.proofs.Common.{ℕ, List}
use Rattle.wb_lemmas.proofs.Zips.{zip_weaker}
use Rattle.wb_syntax_resolved.specs.declared.attributes.Attribute.{Attribute}
use Rattle.wb_syntax_resolved.specs.declared.attributes.Occurrence.{Occurrence}
use Rattle.wb_syntax_resolved.specs.declared.terminal.Preference.{Preference}
use Rattle.wb_syntax.specs.Names.{needs_names}
use Rattle.wb_names_theory.specs.Declarations.{AttributeDeclaration, OccurrenceDeclaration, PreferenceDeclaration, Items}
use Rattle.wb_names_numbers_theory.specs.Numbering.{Numbering, IsNumber}
use Rattle.wb_names_numbers_theory.specs.Rows.{IsAttributeRow, IsOccurrenceRow, IsPreferenceRow}
use Rattle.wb_names_rows.specs.declared.scope.Scope.{Scope}
use Rattle.wb_names_rows.specs.Nodes.{IsAt}
use Rattle.wb_names_rows.specs.Plains.{IsFoundAttribute, IsFoundOccurrence, IsFoundPreference}
use Rattle.wb_names_rows.specs.Scope.{IsScope}
use Rattle.wb_names_rows.proofs.ScopeLemmas.{is_number}

module _ (s : Scope) (n : Numbering) (items : Items) (scope : IsScope s n) where
  attribute : (name : List ℕ) (k : ℕ) → IsAt s.attributes name k → IsNumber n.attributes s.owner name k
  attribute = is_number s.attributes n.attributes s.owner scope.attributes

  terminal : (name : List ℕ) (k : ℕ) → IsAt s.terminals name k → IsNumber n.terminals s.owner name k
  terminal = is_number s.terminals n.terminals s.owner scope.terminals

  pub found_attribute : (d : AttributeDeclaration) (row : Attribute) → IsFoundAttribute s d row → IsAttributeRow n s.owner items d row
  found_attribute d row e = record { name = e.name; owner_is = e.owner; direction = e.direction; is_kind = e.is_kind n scope }

  pub found_occurrence : (d : OccurrenceDeclaration) (row : Occurrence) → IsFoundOccurrence s d row → IsOccurrenceRow n s.owner items d row
  found_occurrence d row e = record {
    owner_is = e.owner;
    attribute = attribute d.attribute row.attribute e.attribute;
    nonterminal = is_number s.nonterminals n.nonterminals s.owner scope.nonterminals d.nonterminal row.nonterminal e.nonterminal;
    needs = zip_weaker (IsAt s.attributes) (IsNumber n.attributes s.owner) attribute (needs_names d.needs) row.needs e.needs;
  }

  pub found_preference : (d : PreferenceDeclaration) (row : Preference) → IsFoundPreference s d row → IsPreferenceRow n s.owner items d row
  found_preference d row e =
      record { first = terminal d.first row.first e.first; second = terminal d.second row.second e.second }
