use Rattle.std.proofs.Common.{◌≡◌, IfOk, subst, sym}
use Rattle.wb_syntax_resolved.specs.Attribution.{IsAttribution}
use Rattle.wb_compose_attributes.proofs.union.united_attribution.Goals as goal

pub attribution_of-requires : goal.attribution_of-requires
attribution_of-requires c = subst IsAttribution (sym c.in_ok-gather.ensures) c.requires

pub returns : goal.returns
returns c = subst (λ z. IfOk c.attribution_of.result (λ made. made ≡ z)) c.in_ok-gather.ensures c.attribution_of.ensures
