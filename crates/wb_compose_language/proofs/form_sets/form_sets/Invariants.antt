use Rattle.wb_compose_language.specs.Inner.Sets.{AreFormSets}
use Rattle.wb_compose_language.proofs.form_sets.form_sets.Given as goal

abbrev pub invariant-states : goal.invariant-states
invariant-states l =
    AreFormSets l.parts.kernels l.parts.tables l.considered.forms.now l.considered.spans.now l.state l.sets.items
