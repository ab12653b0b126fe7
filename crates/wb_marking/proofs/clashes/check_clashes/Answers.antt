use Rattle.std.proofs.Common.{IfOk, subst}
use Rattle.wb_syntax_resolved.specs.declared.resolved.ResolvedParts.{ResolvedParts}
use Rattle.wb_marking.specs.Clashes.{HasNoMarkerClash}
use Rattle.wb_marking.proofs.clashes.check_clashes.Goals as goal

pub returns-clause-ok : goal.returns-clause-ok
returns-clause-ok c =
    subst (λ (r : ResolvedParts). IfOk c.check_by.result (λ done. HasNoMarkerClash r)) c.parts-parts.ensures.parts c.check_by.ensures.ok
