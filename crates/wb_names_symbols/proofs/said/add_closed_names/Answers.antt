use Rattle.wb_syntax.specs.declared.item.Item.{Item}
use Rattle.wb_syntax.specs.declared.pattern.Pattern.{Pattern}
use Rattle.wb_names_symbols.specs.Inner.Names.{form_closeds}
use Rattle.wb_names_symbols.proofs.Gathered.{names_added}
use Rattle.wb_names_symbols.proofs.said.add_closed_names.Goals as goal

pub items-preserved : goal.items-preserved
items-preserved c =
    names_added (λ (item : Item Pattern). form_closeds item.form) c.args.items.now c.items.item-index c.item-item.result c.args.names.now
    c.items.names c.add_closed_name.new.names c.items.invariant c.items-test.true c.item-item.is c.in_ok-add_closed_name.ensures
