use Rattle.std.proofs.Common.{◌∙◌, ap}
use Rattle.wb_syntax_resolved.specs.declared.resolved.ResolvedParts.{ResolvedParts}
use Rattle.wb_recheck.proofs.TextLemmas.{head_made}
use Rattle.wb_recheck.proofs.written.extension_head.Goals as goal

pub returns-in-Ok : goal.returns-in-Ok
returns-in-Ok c =
    head_made c.args.extension.now.resolved c.resolved.result.now c.in-Ok.name c.name.result.now c.in_ok-host.host c.parts.ensures.whole
    c.resolved.ensures.resolved c.name.ensures c.in-Ok.ensures.ok
    (c.in_ok-host.ensures.ok ∙ ap (λ (r : ResolvedParts). r.host) c.parts.ensures.parts)
