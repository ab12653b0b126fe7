use Rattle.std.proofs.Common.{subst}
use Rattle.wb_eval.specs.Inner.Starts.{IsAtWork}
use Rattle.wb_eval.specs.declared.machine.Key.{Key}
use Rattle.wb_eval.proofs.start.start_of.Goals as goal

pub start_of_synthesized-requires-clause-works : goal.start_of_synthesized-requires-clause-works
start_of_synthesized-requires-clause-works c =
    let (operations, under, works) = c.requires.works in (
      operations,
      under,
      subst (λ (k : Key). IsAtWork c.args.definitions.now.attributes.now operations c.args.store.now under c.args.machine.now k)
          c.in-Synthesized.is works,
    )

pub returns-in-Synthesized : goal.returns-in-Synthesized
returns-in-Synthesized c = λ operations under works coded.
    c.start_of_synthesized.ensures operations under (subst (λ (k : Key). IsAtWork c.args.definitions.now.attributes.now operations
    c.args.store.now under
    c.args.machine.now k) c.in-Synthesized.is works) coded

pub start_of_inherited-requires-clause-works : goal.start_of_inherited-requires-clause-works
start_of_inherited-requires-clause-works c =
    let (operations, under, works) = c.requires.works in (
      operations,
      under,
      subst (λ (k : Key). IsAtWork c.args.definitions.now.attributes.now operations c.args.store.now under c.args.machine.now k)
          c.in-Inherited.is works,
    )

pub returns-in-Inherited : goal.returns-in-Inherited
returns-in-Inherited c = λ operations under works coded.
    c.start_of_inherited.ensures operations under
    (subst (λ (k : Key). IsAtWork c.args.definitions.now.attributes.now operations c.args.store.now under
    c.args.machine.now k) c.in-Inherited.is works) coded

pub start_of_tree-requires-clause-works : goal.start_of_tree-requires-clause-works
start_of_tree-requires-clause-works c =
    let (operations, under, works) = c.requires.works in (
      operations,
      under,
      subst (λ (k : Key). IsAtWork c.args.definitions.now.attributes.now operations c.args.store.now under c.args.machine.now k)
          c.in-Tree.is works,
    )

pub returns-in-Tree : goal.returns-in-Tree
returns-in-Tree c = λ operations under works coded.
    c.start_of_tree.ensures operations under
    (subst (λ (k : Key). IsAtWork c.args.definitions.now.attributes.now operations c.args.store.now under
    c.args.machine.now k) c.in-Tree.is works) coded
