use Rattle.std.proofs.Common.{◌∙◌, ◌++◌, ◌∷◌, [], ap, append_assoc, replicate}
use Rattle.std.proofs.lemmas.List.{replicate_more}
use Rattle.wb_compose_language.proofs.layout.add_spans.Goals as goal

pub layouts-preserved : goal.layouts-preserved
layouts-preserved c =
    let old = c.args.spans.now.items in
    let n = c.layouts._layout in
    let span = c.args.span in
    c.in_ok-push.ensures.ok ∙ (ap (λ z. z ++ span ∷ []) c.layouts.invariant ∙ (append_assoc old (replicate n span) (span ∷ [])
    ∙ ap (λ z. old ++ z) (replicate_more n span)))
