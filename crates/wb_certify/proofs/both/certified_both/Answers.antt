use Rattle.std.proofs.Common.{subst}
use Rattle.wb_syntax_resolved.specs.Resolved.{IsResolved}
use Rattle.wb_certify.proofs.both.certified_both.Goals as goal

pub returns : goal.returns
returns c = λ h g host_start start. record {
  host_resolved = subst IsResolved c.host-host.ensures.host c.parts.ensures.whole;
  resolved = subst IsResolved c.resolved-resolved.ensures.resolved c.parts-2.ensures.whole;
  host_start = host_start;
  start = start;
  host_certified = c.host-host.ensures.certified;
  extends = c.resolved-resolved.ensures.extends;
  certified = c.resolved-resolved.ensures.certified;
}
