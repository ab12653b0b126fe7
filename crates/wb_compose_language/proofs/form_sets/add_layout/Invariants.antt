use Rattle.std.proofs.Common.{◌≡◌, length}
use Rattle.wb_compose_language.proofs.SetLemmas.{HasLayoutBefore}
use Rattle.wb_compose_language.proofs.form_sets.add_layout.Given as goal

abbrev pub invariant-layout : goal.invariant-layout
invariant-layout l = record {
  len : length l.set ≡ length l.initial.set;
  each : HasLayoutBefore l.items (length l.considered.forms.now) l.considered.spans.now l.place l.set;
}
