use Rattle.std.proofs.Common.{arith, slice_index_or}
use Rattle.wb_lemmas.proofs.Places.{at_default}
use Rattle.wb_compose_language.proofs.WholeLemmas.{pattern_more}
use Rattle.wb_compose_language.proofs.union_forms.add_patterns.Goals as goal

pub rows-preserved : goal.rows-preserved
rows-preserved c =
    let rows = c.args.rows.now in
    let i = c.rows.row in
    let at = at_default rows i c.index-rows-row.result (omega (arith, c.rows-test.true)) in
    pattern_more rows c.args.first i c.args.expressions.now.items c.rows.expressions.items c.push.new.list.items
    c.in_ok-copy.field-0 (slice_index_or rows i c.index-rows-row.result) (omega (arith, c.rows.auto.row)) at
    c.in_ok-copy.ensures.same c.rows.invariant c.in_ok-push.ensures.ok
