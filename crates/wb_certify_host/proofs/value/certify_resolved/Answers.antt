use Rattle.std.proofs.Common.{◌∙◌}
use Rattle.wb_certify_host.proofs.ValueLemmas.{kept_of}
use Rattle.wb_certify_host.proofs.value.certify_resolved.Goals as goal

pub invariant_of-result : goal.invariant_of-result
invariant_of-result g c =
    kept_of c.args.resolved.now c.in_ok-copied.copied c.args.operations.now.signatures c.in-Ok.signatures c.in-Ok-certified_parts.parts
    c.in_ok-copied.ensures (c.in-Ok.ensures ∙ c.signatures.ensures) c.in-Ok-certified_parts.ensures.certified
