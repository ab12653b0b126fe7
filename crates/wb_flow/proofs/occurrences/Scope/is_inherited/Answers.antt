use Rattle.std.proofs.Common.{refl, sym, true≢false}
use Rattle.wb_flow.proofs.ReadLemmas.{goes_when, goes_not}
use Rattle.wb_syntax_resolved.specs.declared.attributes.Direction.TheVariants.{Inherited}
use Rattle.wb_flow.proofs.occurrences.Scope.is_inherited.Goals as goal

pub returns-in-Inherited : goal.returns-in-Inherited
returns-in-Inherited c = (
  (λ yes. goes_when c.args.self.now.attributes.now c.as_slice-attributes.result.now c.as_slice-attributes.ensures c.args.attribute _
      c.if-attribute-attributes.true Inherited c.in-Inherited.is),
  (λ goes. refl),
)

pub returns-in_default : goal.returns-in_default
returns-in_default c = (
  (λ bad. absurd (true≢false (sym bad))),
  (λ goes. absurd (goes_not c.args.self.now.attributes.now c.as_slice-attributes.result.now c.as_slice-attributes.ensures c.args.attribute _
      c.if-attribute-attributes.true Inherited c.in_default.not-Inherited goes)),
)
