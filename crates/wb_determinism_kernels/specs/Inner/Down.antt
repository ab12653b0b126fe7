-- Items of the host with an extension as the host's.
use Rattle.std.specs.Prelude.{◌≡◌, List, Option, Some, None, map}
use Rattle.wb_grammar_theory.specs.declared.item.Item.{Item}
use Rattle.wb_compose_theory.specs.Renamings.{Renaming, renamed_item}

-- these are the items in the host's numbers, or else not all of them are the host's
abbrev pub AreDown : Renaming → List Item → Option (List Item) → Type 0
AreDown up items (Some own) = map (renamed_item up) own ≡ items
AreDown up items None = (own : List Item) → ¬ (map (renamed_item up) own ≡ items)
