use Rattle.std.proofs.Common.{sym, subst}
use Rattle.wb_syntax.specs.declared.item.Item.{Item}
use Rattle.wb_syntax.specs.declared.pattern.Pattern.{Pattern}
use Rattle.wb_names_rows.specs.Plains.{FormIsThere}
use Rattle.wb_names_rows.proofs.PlainLemmas.{plains_more}
use Rattle.wb_names_rows.proofs.plains.add_plains.Goals as goal

pub add_form-requires : goal.add_form-requires
add_form-requires c =
    subst (λ (z : Item Pattern). FormIsThere c.args.scope.now z.form) (sym c.item-item.is)
    (c.requires c.loop-item.item-index c.item-item.result c.loop-item-test.true)

pub loop-item-preserved : goal.loop-item-preserved
loop-item-preserved c =
    plains_more c.args.scope.now c.args.items.now c.loop-item.item-index c.item-item.result c.args.made.now c.loop-item.made
    c.add_form.new.made c.loop-item.invariant c.loop-item-test.true c.item-item.is c.in_ok-add_form.ensures
