use Rattle.wb_syntax.specs.declared.item.Item.{Item}
use Rattle.wb_syntax.specs.declared.pattern.Pattern.{Pattern}
use Rattle.wb_names_theory.specs.WrongKind.{form_misplaced}
use Rattle.wb_names_lists.proofs.ListLemmas.{flat_map_next, flat_map_all}
use Rattle.wb_names_lists.proofs.place.add_misplaced.Goals as goal

pub items-preserved : goal.items-preserved
items-preserved c =
    flat_map_next (λ (item : Item Pattern). form_misplaced c.args.owner item.form)
    c.args.items.now c.items.item-index c.item-item.result c.args.out.now.items c.items.out.items c.add_form.new.out.items
    c.items.invariant c.items-test.true c.item-item.is c.in_ok-add_form.ensures

pub returns : goal.returns
returns c =
    flat_map_all (λ (item : Item Pattern). form_misplaced c.args.owner item.form)
    c.args.items.now c.items.item-index c.args.out.now.items c.items.out.items c.items.invariant c.items-test.false
