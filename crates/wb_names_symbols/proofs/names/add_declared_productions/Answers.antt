use Rattle.wb_syntax.specs.declared.item.Item.{Item}
use Rattle.wb_syntax.specs.declared.pattern.Pattern.{Pattern}
use Rattle.wb_names_symbols.specs.Inner.Names.{form_productions}
use Rattle.wb_names_symbols.proofs.Gathered.{names_added}
use Rattle.wb_names_symbols.proofs.names.add_declared_productions.Goals as goal

pub items-preserved : goal.items-preserved
items-preserved c =
    names_added (λ (item : Item Pattern). form_productions c.args.concrete item.form) c.args.items.now c.items.item-index
    c.item-item.result c.args.names.now c.items.names c.add_form_production.new.names c.items.invariant c.items-test.true c.item-item.is
    c.in_ok-add_form_production.ensures
