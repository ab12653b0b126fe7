-- An extension's layout at a listed kernel.
use Rattle.std.specs.Prelude.{◌<◌, ◌≤◌, ◌⊎◌, ℕ, Any, Bool, List}
use Rattle.wb_grammar_theory.specs.declared.item.Item.{Item}
use Rattle.wb_termset.specs.Sets.{IsMember}
use Rattle.wb_determinism_contexts.specs.Considered.{LexiconView}

-- one of the items is of a production from the one number to before the other
abbrev pub ListsFrom : List Item → ℕ × ℕ → Type 0
ListsFrom items productions = Any (λ (i : Item). (productions.0 ≤ i.production) × (i.production < productions.1)) items

-- the terminal is an extension's layout, and one of the items is of one of the extension's productions
abbrev pub IsOwnBy : LexiconView → List Item → ℕ → Type 0
IsOwnBy lexicon items t = IsMember lexicon.own_layout t × ListsFrom items lexicon.own_productions

-- the terminal is scanned and in the set, or layout, or an extension's layout by one of whose productions there is an item
abbrev pub IsConsideredBy : LexiconView → List Bool → List Item → ℕ → Type 0
IsConsideredBy lexicon valid items t =
    ((t < lexicon.scanned) × IsMember valid t) ⊎ (IsMember lexicon.layout t ⊎ IsOwnBy lexicon items t)
