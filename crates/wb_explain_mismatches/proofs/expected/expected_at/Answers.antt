use Rattle.std.proofs.Common.{sym, subst, Contains}
use Rattle.wb_syntax_resolved.specs.declared.production.Production.{Production}
use Rattle.wb_types.specs.Expected.{IsExpected}
use Rattle.wb_types.proofs.PassLemmas.{read_contained}
use Rattle.wb_explain_mismatches.proofs.expected.expected_at.Goals as goal

pub returns-in-Some : goal.returns-in-Some
returns-in-Some c =
    let a = c.args.attributes.now in
    let e = c.in-Some.found in
    let listed = read_contained c.as_slice-production-items.result.now a.productions c.productions.production-index
    c.production-item.result c.as_slice-production-items.ensures c.productions-test.true c.production-item.is in
    record {
      listed = subst (λ (z : Production). Contains a.productions z) (sym c.in-Some.ensures.of_production) listed;
      same = c.in-Some.ensures.same;
      expected = subst (λ (z : Production). IsExpected a z e.nodes.now e.kind c.args.spot.offset) (sym c.in-Some.ensures.of_production)
          c.in-Some.ensures.expected;
    }
