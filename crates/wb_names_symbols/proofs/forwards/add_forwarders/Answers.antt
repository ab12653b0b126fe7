use Rattle.std.proofs.Common.{refl}
use Rattle.wb_syntax.specs.declared.item.Item.{Item}
use Rattle.wb_syntax.specs.declared.pattern.Pattern.{Pattern}
use Rattle.wb_names_symbols.specs.Inner.Names.{form_forwarder}
use Rattle.wb_names_symbols.proofs.Gathered.{name_added}
use Rattle.wb_names_symbols.proofs.forwards.add_forwarders.Goals as goal

pub items-preserved : goal.items-preserved
items-preserved c =
    let forwarder = λ (item : Item Pattern). form_forwarder item.form in
    name_added forwarder c.args.items.now c.items.item-index c.item-item.result (forwarder c.item-item.result) c.args.names.now
    c.items.names c.add_forwarder.new.names c.items.invariant c.items-test.true c.item-item.is refl c.in_ok-add_forwarder.ensures
