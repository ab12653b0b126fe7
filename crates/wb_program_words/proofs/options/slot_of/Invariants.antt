use Rattle.std.proofs.Common.{◌≡◌, ◌≢◌, ◌<◌, ℕ, Some, slice_get}
use Rattle.wb_program_words.specs.Rows.{name_of}
use Rattle.wb_program_words.specs.declared.rows.OptionName.{OptionName}
use Rattle.wb_program_words.proofs.options.slot_of.Given as goal

abbrev pub invariant-names : goal.invariant-names
invariant-names l = (k : ℕ) (x : OptionName) → k < l.slot → slice_get l.names k ≡ Some x → name_of x ≢ l.name
