-- Items of an extended host as the host's.
use Rattle.std.specs.Prelude.{◌≡◌, List, map, Contains}
use Rattle.wb_grammar_theory.specs.declared.item.Item.{Item}
use Rattle.wb_determinism.specs.declared.numbers.Numbers.{Numbers}
use Rattle.wb_determinism.specs.Numbers.{item_up}
use Rattle.wb_determinism.specs.Regions.{IsForeign}

-- one of the items is no host's
pub record HasForeign (m : Numbers) (items : List Item) : Type 0 where
  pub item : Item
  pub has : Contains items item
  pub foreign : IsForeign m item

-- the items are the host's, in its numbers
abbrev pub AreMoved : Numbers → List Item → List Item → Type 0
AreMoved m items own = map (item_up m) own ≡ items
