use Rattle.std.proofs.Common.{refl, sym}
use Rattle.wb_types.specs.Expected as s
use Rattle.wb_explain_mismatches.proofs.expected.forward_in.Goals as goal

pub returns : goal.returns
returns c = record {
  of_production = refl;
  same = refl;
  expected = s.forward c.in-Some.forward c.in-Some.is c.as_slice.ensures refl (sym c.if-forward-spot.false);
}
