use Rattle.wb_values.specs.ValuesIn.{tree_in}
use Rattle.wb_eval_root.proofs.TreeLemmas.{value_shown}
use Rattle.wb_eval_root.proofs.tree.tree_value.Goals as goal

pub returns-in-Value : goal.returns-in-Value
returns-in-Value g c =
    value_shown c.args.attributes.now (record { signatures = c.args.operations.now.signatures; meaning = g.M.Meaning.meaning })
    (tree_in c.args.store.now c.args.root.0) c.args.attribute c.args.steps c.parts.result.now c.parts.ensures.parts c.evaluate.new.store
    c.in_ok-value.field-0 c.in-Value.value c.in-Value.is c.in_ok-value.ensures.value c.printed.result c.printed.ensures
