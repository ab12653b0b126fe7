use Rattle.std.proofs.Common.{◌≡◌, ◌∙◌, All, ap, map, sym, subst}
use Rattle.std.proofs.lemmas.Result.{IfOk-weaker}
use Rattle.wb_certify.specs.Kept.{ExtensionView}
use Rattle.wb_compose.specs.United.{IsOfUnion}
use Rattle.wb_compose_theory_lists.specs.United as union
use Rattle.wb_operations.specs.Operations.{IsPlainSignature}
use Rattle.wb_syntax_resolved.specs.declared.attribution.AttributionParts.{AttributionParts}
use Rattle.wb_syntax_resolved.specs.declared.resolved.ResolvedParts.{ResolvedParts}
use Rattle.wb_syntax_resolved.specs.Resolved.{IsResolved}
use Rattle.wb_compose_attributes.specs.Lent.{all_in, rows_in}
use Rattle.wb_compose.proofs.ComposedAttributes.{lent_attribution, lent_union}
use Rattle.wb_compose.proofs.attributes.composed_attributes.Goals as goal

pub united_attribution-requires : goal.united_attribution-requires
united_attribution-requires c =
    let host = c.args.host.now in
    let lent = c.lent_of-lent.result in
    let is = c.resolved.ensures.resolved in
    lent_attribution host lent.grammar.now (ap (λ (r : ResolvedParts). r.grammar) (sym is) ∙ c.lent_of-lent.ensures.grammar)
    (subst IsResolved is c.lent_of-lent.ensures.whole) c.resolved.ensures.certified
    (subst (All IsPlainSignature) c.operations.ensures c.len-operations.ensures.plain) lent.attributes.now
    (c.lent_of-lent.ensures.attributes ∙ ap (λ (r : ResolvedParts). r.attributes) is) c.host_rows-rows.result c.host_rows-rows.ensures
    c.args.extensions.now c.in_ok-additions.additions.items c.deref.result.now c.in_ok-additions.ensures c.deref.ensures.value
    c.requires.each c.requires.names

pub returns : goal.returns
returns c =
    let host = c.args.host.now in
    let es = c.args.extensions.now in
    let lent = c.lent_of-lent.result in
    let is = c.resolved.ensures.resolved in
    let of_union : (made : AttributionParts) → made ≡ union.united_attribution (rows_in c.host_rows-rows.result)
    (all_in c.host_rows-rows.result c.deref.result.now) →
    IsOfUnion host.resolved host.operations (map (λ (e : ExtensionView). e.resolved) es) made =
    lent_union host lent.grammar.now (ap (λ (r : ResolvedParts). r.grammar) (sym is) ∙ c.lent_of-lent.ensures.grammar)
    (subst IsResolved is c.lent_of-lent.ensures.whole) c.resolved.ensures.certified
    (subst (All IsPlainSignature) c.operations.ensures c.len-operations.ensures.plain) lent.attributes.now
    (c.lent_of-lent.ensures.attributes ∙ ap (λ (r : ResolvedParts). r.attributes) is) c.host_rows-rows.result c.host_rows-rows.ensures
    es c.in_ok-additions.additions.items c.deref.result.now c.in_ok-additions.ensures c.deref.ensures.value
    c.requires.each c.requires.names in
    IfOk-weaker c.united_attribution.result _ _ of_union c.united_attribution.ensures
