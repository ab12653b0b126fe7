use Rattle.std.proofs.Common.{Contains, sym, subst}
use Rattle.std.specs.Prelude.{◌↔◌}
use Rattle.wb_flow.specs.Inner.Sources.{Allows}
use Rattle.wb_flow.proofs.reads.flow_type.Goals as goal

pub returns-in-Some : goal.returns-in-Some
returns-in-Some c i =
    subst (λ z. Contains c.needs.result.now i ↔ Allows c.args.scope.now.attributes.now c.args.production.now z i) (sym c.in-Some.is)
    (c.needs.ensures i)

pub returns-in-None : goal.returns-in-None
returns-in-None c i =
    subst (λ z. Contains c.forward_needs.result.now i ↔ Allows c.args.scope.now.attributes.now c.args.production.now z i) (sym c.in-None.is)
    (c.forward_needs.ensures i)
