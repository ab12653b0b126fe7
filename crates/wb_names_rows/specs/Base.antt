-- Rows of a base's attributes, occurrences and preferences in other numbers.
use Rattle.std.specs.Prelude.{◌≡◌, ◌<◌, length}
use Rattle.wb_syntax_resolved.specs.declared.attributes.Attribute.{Attribute}
use Rattle.wb_syntax_resolved.specs.declared.attributes.Occurrence.{Occurrence}
use Rattle.wb_syntax_resolved.specs.declared.terminal.Preference.{Preference}
use Rattle.wb_names_rows.specs.declared.moves.Moves.{Moves}
use Rattle.wb_names_rows.specs.Moves.{IsNow, IsKindNow}

module _ (m : Moves) where
  -- attributes keep their numbers
  pub record IsAttributeNow (a to : Attribute) : Type 0 where
    pub name : to.name ≡ a.name
    pub owner : to.owner ≡ a.owner
    pub direction : to.direction ≡ a.direction
    pub is_kind : IsKindNow m a.kind to.kind

  pub record IsOccurrenceNow (o to : Occurrence) : Type 0 where
    pub owner : to.owner ≡ o.owner
    pub attribute : to.attribute ≡ o.attribute
    pub nonterminal : IsNow m.nonterminals.items o.nonterminal to.nonterminal
    pub needs : to.needs ≡ o.needs

  pub record IsPreferenceNow (p to : Preference) : Type 0 where
    pub first : IsNow m.terminals.items p.first to.first
    pub second : IsNow m.terminals.items p.second to.second

  -- the numbers of a preference are in the tables
  pub record PreferenceIsWithin (p : Preference) : Type 0 where
    pub first : p.first < length m.terminals.items
    pub second : p.second < length m.terminals.items
