-- The label of the child at this place of the production at this number.
use Rattle.std.proofs.Common.{◌≡◌, List, Option, Some, None, IfOk, subst, ap, sym, slice_get, ◌∙◌}
use Rattle.wb_names_theory.specs.Declares.{name_in}
use Rattle.wb_syntax_resolved.specs.declared.attribution.AttributionParts.{AttributionParts}
use Rattle.wb_syntax_resolved.specs.declared.production.Child.{Child}
use Rattle.wb_syntax_resolved.specs.declared.production.Production.{Production}
use Rattle.wb_syntax_resolved.specs.declared.resolved.ResolvedParts.{ResolvedParts}
use Rattle.wb_certify_shown.specs.Names.{child_shown}
use Rattle.wb_certify_shown.proofs.ListLemmas.{at_place, past_end}
use Rattle.wb_certify_shown.proofs.attributes.child_label.Goals as goal

pub returns-in-Some : goal.returns-in-Some
returns-in-Some c =
    let r = c.args.resolved.now in
    let p = c.in-Some.production.now in
    let same = c.as_slice.ensures ∙ (ap (λ (z : AttributionParts). z.productions) c.parts-attributes.ensures.parts
    ∙ ap (λ (z : ResolvedParts). z.attributes.productions) c.parts.ensures.parts) in
    let found : slice_get r.attributes.productions c.args.number ≡ Some p =
    at_place r.attributes.productions c.as_slice.result.now c.args.number p c.in-Some.ensures.lookup.0 c.in-Some.ensures.lookup.1 same in
    subst (λ (o : Option Production). IfOk c.label_in.result (λ label. label ≡ child_shown r o c.args.place)) (sym found)
    (subst (λ (z : List Child). IfOk c.label_in.result (λ label. label ≡ name_in (λ (x : Child). x.label) (slice_get z c.args.place)))
    c.as_slice-in-Some.ensures c.label_in.ensures)

pub returns-in-None : goal.returns-in-None
returns-in-None c =
    let r = c.args.resolved.now in
    let same = c.as_slice.ensures ∙ (ap (λ (z : AttributionParts). z.productions) c.parts-attributes.ensures.parts
    ∙ ap (λ (z : ResolvedParts). z.attributes.productions) c.parts.ensures.parts) in
    let none : slice_get r.attributes.productions c.args.number ≡ None =
    past_end r.attributes.productions c.as_slice.result.now c.args.number c.in-None.ensures.lookup.0 same in
    c.empty.ensures ∙ ap (λ (o : Option Production). child_shown r o c.args.place) (sym none)
