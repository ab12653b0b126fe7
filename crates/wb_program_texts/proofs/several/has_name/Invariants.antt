-- None of the extensions before has the name.
use Rattle.std.proofs.Common.{◌≡◌, ◌≢◌, ◌<◌, ◌≤◌, ◌-◌, ℕ, Some, length, slice_get}
use Rattle.wb_program_files.specs.Kept.{ExtensionView}
use Rattle.wb_compose_texts.specs.Composed.{name_of}
use Rattle.wb_program_texts.proofs.several.has_name.Given as goal

abbrev pub invariant-extensions : goal.invariant-extensions
invariant-extensions l = record {
  within : l.at ≤ length l.extensions;
  none : (k : ℕ) (e : ExtensionView) → k < l.at → slice_get l.extensions k ≡ Some e → name_of e ≢ l.name;
}

abbrev pub decreases-extensions : goal.decreases-extensions
decreases-extensions l = length l.extensions - l.at
