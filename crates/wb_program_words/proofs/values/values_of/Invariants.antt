use Rattle.std.proofs.Common.{◌≡◌, ◌<◌, ℕ, List, Some, length, map, slice_get}
use Rattle.wb_program_words.specs.Options.{Given}
use Rattle.wb_program_words.specs.OptionValues.{HasValue}
use Rattle.wb_program_words.specs.Rows.{form_of, name_of}
use Rattle.wb_program_words.specs.declared.rows.OptionName.{OptionName}
use Rattle.wb_program_words.specs.declared.values.Value.{Value}
use Rattle.wb_program_words.specs.Inner.Slots.{AreSlots}
use Rattle.wb_program_words.specs.Inner.Values.{value_in}
use Rattle.wb_program_words.proofs.values.values_of.Given as goal

abbrev pub invariant-names : goal.invariant-names
invariant-names l =
    (length l.list ≡ 3) × ((options : List Given) → AreSlots (map name_of l.names) options l.slots → (k : ℕ) (name : OptionName) (value : Value)
    → k < l.place → slice_get l.names k ≡ Some name → slice_get l.list k ≡ Some value
    → HasValue (form_of name) options (name_of name) (value_in value))
