use Rattle.std.proofs.Common.{◌∙◌}
use Rattle.wb_certify.proofs.CertifiedValueLemmas.{kept_of}
use Rattle.wb_recheck.proofs.value.recheck_resolved.Goals as goal

pub invariant_of-result : goal.invariant_of-result
invariant_of-result g c =
    kept_of c.args.resolved.now c.in_ok-copied.copied c.args.operations.now.signatures c.in-Ok.signatures c.in-Ok-rechecked_parts.parts
    c.in_ok-copied.ensures (c.in-Ok.ensures ∙ c.signatures.ensures) c.in-Ok-rechecked_parts.ensures.certified
