use Rattle.std.proofs.Common.{◌≡◌, ◌<◌, ◌⊎◌, ℕ, length}
use Rattle.std.specs.Prelude.{◌↔◌}
use Rattle.wb_termset.specs.Sets.{IsMember}
use Rattle.wb_compose_language.specs.Inner.Sets.{IsValidForm}
use Rattle.wb_compose_language.proofs.form_sets.add_forms.Given as goal

abbrev pub invariant-forms : goal.invariant-forms
invariant-forms l = record {
  len : length l.set ≡ length l.initial.set;
  each : (p : ℕ) → IsMember l.set p ↔ (((p < l.place) × IsValidForm l.valid l.forms p) ⊎ IsMember l.initial.set p);
}
