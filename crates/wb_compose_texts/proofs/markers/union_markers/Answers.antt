-- The set has the flags of the union.
use Rattle.std.proofs.Common.{◌≡◌, ◌∙◌, ◌↔◌, ℕ, Bool, List, ap, subst}
use Rattle.std.proofs.lemmas.Result.{IfOk-weaker}
use Rattle.wb_compose_texts.specs.Unions.{all_resolved}
use Rattle.wb_compose_texts.specs.UnionMarkers.{AreUnionMarkers, union_markers}
use Rattle.wb_syntax_resolved.specs.declared.resolved.ResolvedParts.{ResolvedParts}
use Rattle.wb_termset.specs.Sets.{IsMember}
use Rattle.wb_compose_texts.proofs.markers.union_markers.Goals as goal

pub returns : goal.returns
returns c =
    let values = all_resolved c.args.extensions.now in
    let flags : c.deref.result.now ≡ union_markers c.args.host.now.resolved values =
    c.deref.ensures.value ∙ (c.in_ok-flags.ensures ∙ ap (λ (r : ResolvedParts). union_markers r values) c.resolved.ensures.resolved) in
    IfOk-weaker c.set_of-markers.result (λ set. (t : ℕ) → IsMember set t ↔ IsMember c.deref.result.now t)
    (AreUnionMarkers c.args.host.now.resolved values)
    (λ set same. subst (λ (fs : List Bool). (t : ℕ) → IsMember set t ↔ IsMember fs t) flags same) c.set_of-markers.ensures
