use Rattle.std.proofs.Common.{◌+◌, ℕ, Bool, List, subst, sym}
use Rattle.std.specs.Prelude.{◌↔◌}
use Rattle.wb_termset.specs.Sets.{IsMember}
use Rattle.wb_compose_language.specs.Inner.Sets.{AreFormSets, IsFormBy}
use Rattle.wb_compose_language.proofs.SetLemmas.{sets_more}
use Rattle.wb_compose_language.proofs.form_sets.form_sets.Goals as goal

pub states-preserved : goal.states-preserved
states-preserved c =
    let parts = c.args.parts.now in
    let forms = c.args.considered.now.forms.now in
    let spans = c.args.considered.now.spans.now in
    let items = c.kernel-items.result.now in
    let s = c.states.state in
    subst (λ (sets : List (List Bool)). AreFormSets parts.kernels parts.tables forms spans (s + 1) sets) (sym c.in_ok-push.ensures.ok)
    (sets_more parts.kernels parts.tables forms spans s c.states.sets.items c.in_ok-set.set items c.states.invariant
    c.kernel-items.ensures.exact
    (subst (λ valid. (p : ℕ) → IsMember c.in_ok-set.set p ↔ IsFormBy valid items forms spans p) c.valid.ensures c.in_ok-set.ensures))
