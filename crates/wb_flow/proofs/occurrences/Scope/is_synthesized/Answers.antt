use Rattle.std.proofs.Common.{refl, sym, true≢false}
use Rattle.wb_flow.proofs.ReadLemmas.{goes_when, goes_not}
use Rattle.wb_syntax_resolved.specs.declared.attributes.Direction.TheVariants.{Synthesized}
use Rattle.wb_flow.proofs.occurrences.Scope.is_synthesized.Goals as goal

pub returns-in-Synthesized : goal.returns-in-Synthesized
returns-in-Synthesized c = (
  (λ yes. goes_when c.args.self.now.attributes.now c.as_slice-attributes.result.now c.as_slice-attributes.ensures c.args.attribute _
      c.if-attribute-attributes.true Synthesized c.in-Synthesized.is),
  (λ goes. refl),
)

pub returns-in_default : goal.returns-in_default
returns-in_default c = (
  (λ bad. absurd (true≢false (sym bad))),
  (λ goes. absurd (goes_not c.args.self.now.attributes.now c.as_slice-attributes.result.now c.as_slice-attributes.ensures c.args.attribute _
      c.if-attribute-attributes.true Synthesized c.in_default.not-Synthesized goes)),
)
