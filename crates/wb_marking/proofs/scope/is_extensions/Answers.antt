use Rattle.std.proofs.Common.{◌∙◌, ap}
use Rattle.wb_syntax_resolved.specs.declared.attribution.AttributionParts.{AttributionParts}
use Rattle.wb_marking.proofs.ScopeLemmas as p
use Rattle.wb_marking.proofs.scope.is_extensions.Goals as goal

pub returns-then-number-productions : goal.returns-then-number-productions
returns-then-number-productions c =
    p.no_production c.args.parts.now c.args.number c.as_slice-productions.result.now
    (c.as_slice-productions.ensures ∙ ap (λ (a : AttributionParts). a.productions) c.parts.ensures.parts) c.if-number-productions.true

pub returns : goal.returns
returns c =
    p.production_there c.args.parts.now c.args.number c.as_slice-productions.result.now
    (c.as_slice-productions.ensures ∙ ap (λ (a : AttributionParts). a.productions) c.parts.ensures.parts) c.if-number-productions.false _
