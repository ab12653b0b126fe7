-- The name of the row at this number, and none past the last.
use Rattle.std.proofs.Common.{◌≡◌, [], IfOk, subst, ap, ◌∙◌}
use Rattle.wb_syntax_resolved.specs.declared.attribution.AttributionParts.{AttributionParts}
use Rattle.wb_syntax_resolved.specs.declared.resolved.ResolvedParts.{ResolvedParts}
use Rattle.wb_certify_files.specs.Names.{production_name, production_shown}
use Rattle.wb_explain_beside.proofs.ListLemmas.{name_at, no_name_past}
use Rattle.wb_explain_beside.proofs.names.production_name.Goals as goal

pub returns-in-Some : goal.returns-in-Some
returns-in-Some c =
    let p = c.parts-parts.result.now in
    let same = c.as_slice.ensures ∙ ap (λ (z : AttributionParts). z.productions) c.parts.ensures.parts in
    subst (λ (r : ResolvedParts). IfOk c.named.result (λ name. name ≡ production_shown r c.args.number)) c.parts-parts.ensures.parts
    (subst (λ z. IfOk c.named.result (λ name. name ≡ z)) (name_at (production_name p) p.attributes.productions c.as_slice.result.now c.args.number
    c.in-Some.production.now c.in-Some.ensures.lookup.0 c.in-Some.ensures.lookup.1 same) c.named.ensures)

pub returns-in-None : goal.returns-in-None
returns-in-None c =
    let p = c.parts-parts.result.now in
    let same = c.as_slice.ensures ∙ ap (λ (z : AttributionParts). z.productions) c.parts.ensures.parts in
    c.empty.ensures ∙ subst (λ (r : ResolvedParts). [] ≡ production_shown r c.args.number) c.parts-parts.ensures.parts
    (no_name_past (production_name p) p.attributes.productions c.as_slice.result.now c.args.number c.in-None.ensures.lookup.0 same)
