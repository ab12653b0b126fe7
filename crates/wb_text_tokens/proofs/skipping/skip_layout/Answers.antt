use Rattle.std.proofs.Common.{refl, arith}
use Rattle.wb_text_tokens.specs.Skipping.{SkipsLayout}
use Rattle.wb_text_tokens.proofs.skipping.skip_layout.Goals as goal

pub loop-behind-preserved : goal.loop-behind-preserved
loop-behind-preserved c = record {
  ordered = omega (arith, c.in-Some.ensures.further);
  within = c.in-Some.ensures.further.1;
  skips = λ place s. c.loop-behind.invariant.skips place (SkipsLayout.skip c.in-Some.ensures.piece s);
}

pub returns-clause-skipped : goal.returns-clause-skipped
returns-clause-skipped c = c.loop-behind.invariant.skips _ (SkipsLayout.stop c.in_default.ensures.piece refl)
