use Rattle.std.proofs.Common.{arith, subst}
use Rattle.wb_items.specs.declared.item_lookahead.ItemLookahead.{ItemLookahead}
use Rattle.wb_determinism.specs.Inner.Envelopes.{KeepsLooks}
use Rattle.wb_determinism.proofs.ListLemmas.{before_more}
use Rattle.wb_determinism.proofs.RowLemmas.{keeps_row}
use Rattle.wb_determinism.proofs.envelope_rule.row_fault.Goals as goal

pub returns : goal.returns
returns c =
    keeps_row c.args.context.now c.args.own.now c.args.state c.args.row.now c.items.looks-index c.requires.row
    (omega (arith, c.items-test.false)) c.items.invariant

pub items-preserved : goal.items-preserved
items-preserved c =
    let P : ItemLookahead → Type 0 = λ looks. KeepsLooks c.args.context.now c.args.own.now c.args.state looks.item in
    before_more P c.args.row.now c.items.looks-index c.looks-item.result c.items-test.true c.items.invariant
    (subst P c.looks-item.is c.in_default.ensures)
