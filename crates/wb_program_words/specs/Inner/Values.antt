-- The values of options as the code has them.
use Rattle.std.specs.Prelude.{ℕ, List, Option, map}
use Rattle.std.specs.Borrow.{Bor}
use Rattle.wb_program_words.specs.Options.{Given, names_of}
use Rattle.wb_program_words.specs.OptionValues.{HasValue, OptionValue, a_number, a_word}
use Rattle.wb_program_words.specs.Rows.{HaveValues, name_of}
use Rattle.wb_program_words.specs.declared.rows.Form.{Form}
use Rattle.wb_program_words.specs.declared.rows.OptionName.{OptionName}
use Rattle.wb_program_words.specs.declared.values.Value.{Value}
use Rattle.wb_program_words.specs.declared.values.Value.TheVariants as v
use Rattle.wb_program_words.specs.Inner.Slots.{AreSlots, IsSlot}
use Rattle.wb_base.specs.Different.{Differ}

-- a value
abbrev pub value_in : Value → OptionValue
value_in (v.Word text) = a_word text.now
value_in (v.Number n) = a_number n

-- with the options of this slot an option has this value
abbrev pub IsValueOf : Form → List ℕ → Option (Bor (List ℕ)) → Value → Type 0
IsValueOf form name slot value = (options : List Given) → IsSlot options name slot → HasValue form options name (value_in value)

-- with them it has none
abbrev pub HasNoValue : Form → List ℕ → Option (Bor (List ℕ)) → Type 0
HasNoValue form name slot =
    (options : List Given) (value : OptionValue) → Differ (names_of options) → IsSlot options name slot
    → ¬ HasValue form options name value

-- with the options of these slots the names of a row have these values, as many as there are names
abbrev pub AreValuesOf : List OptionName → List (Option (Bor (List ℕ))) → List Value → Type 0
AreValuesOf names slots values =
    (options : List Given) → AreSlots (map name_of names) options slots → HaveValues options names (map value_in values)

-- with them they have none
abbrev pub HaveNoValues : List OptionName → List (Option (Bor (List ℕ))) → Type 0
HaveNoValues names slots =
    (options : List Given) (values : List OptionValue) → AreSlots (map name_of names) options slots → ¬ HaveValues options names values
