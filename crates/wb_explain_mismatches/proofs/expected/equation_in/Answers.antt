use Rattle.std.proofs.Common.{refl, sym}
use Rattle.wb_types.specs.Expected as s
use Rattle.wb_types.proofs.PassLemmas.{read_contained}
use Rattle.wb_explain_mismatches.proofs.expected.equation_in.Goals as goal

pub returns-in-Some : goal.returns-in-Some
returns-in-Some c =
    let e = c.equation-item.result in
    record {
      of_production = refl;
      same = refl;
      expected = s.equation e
          (read_contained c.as_slice-equation-items.result.now c.args.production.now.equations c.equations.equation-index e
          c.as_slice-equation-items.ensures c.equations-test.true c.equation-item.is)
          c.as_slice.ensures c.in-Some.ensures (sym c.if-equation-spot-2.true);
    }
