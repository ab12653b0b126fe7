use Rattle.std.proofs.Common.{◌+◌, ◌<◌, length, sym, subst, arith}
use Rattle.std.specs.Prelude.{slice_index_or, slice_set}
use Rattle.std.proofs.lemmas.Option.{slice_get-get_or}
use Rattle.wb_grammar_theory.proofs.ProductionLemmas.{production_read}
use Rattle.wb_items.specs.Inner.Passes.{RowsUpTo}
use Rattle.wb_items.proofs.ProductionRows.{rows_more}
use Rattle.wb_items.proofs.productions_of.add_production.Goals as goal

pub returns : goal.returns
returns c =
    let g = c.args.grammar.now in
    let rows = c.args.rows.now in
    let left = c.left.result in
    let lt : left < length rows = omega (arith, c.requires.before.len, c.left.ensures.in_range) in
    let at = slice_get-get_or rows left c.index-rows-left.result lt in
    let rule = production_read g c.args.production left c.right-right.result.now c.requires.production c.left.ensures.left
    c.right-right.ensures.right in
    subst (λ numbers. RowsUpTo g (slice_set rows left numbers) (c.args.production + 1)) (sym c.in_ok-push.ensures)
    (rows_more g rows c.args.production left c.right-right.result.now
    (slice_index_or rows left c.index-rows-left.result) rule at c.requires.before)
