use Rattle.std.proofs.Common.{refl, sym}
use Rattle.wb_types.specs.Expected as s
use Rattle.wb_types.proofs.PassLemmas.{read_contained}
use Rattle.wb_explain_mismatches.proofs.expected.tree_in.Goals as goal

pub returns-then-local-spot-2 : goal.returns-then-local-spot-2
returns-then-local-spot-2 c =
    let l = c.local-item.result in
    record {
      of_production = refl;
      same = refl;
      expected = s.local l
          (read_contained c.as_slice-local-items.result.now c.args.production.now.locals c.locals.local-index l
          c.as_slice-local-items.ensures c.locals-test.true c.local-item.is)
          c.as_slice.ensures refl (sym c.if-local-spot-2.true);
    }
