use Rattle.wb_syntax.specs.declared.item.Item.{Item}
use Rattle.wb_syntax.specs.declared.pattern.Pattern.{Pattern}
use Rattle.wb_names_rows.specs.GrammarNames.{form_starts}
use Rattle.wb_names_rows.proofs.ListLemmas.{flat_map_next, flat_map_all}
use Rattle.wb_names_rows.proofs.grammar_names.add_starts.Goals as goal

pub items-preserved : goal.items-preserved
items-preserved c =
    flat_map_next (λ (item : Item Pattern). form_starts item.form) c.args.items.now c.items.item-index
    c.item-item.result c.args.names.now c.items.names c.add_start.new.names c.items.invariant c.items-test.true
    c.item-item.is c.in_ok-add_start.ensures

pub returns : goal.returns
returns c =
    flat_map_all (λ (item : Item Pattern). form_starts item.form) c.args.items.now c.items.item-index
    c.args.names.now c.items.names c.items.invariant c.items-test.false
