use Rattle.std.proofs.Common.{refl}
use Rattle.std.proofs.lemmas.Result.{IfOk-weaker, on_ok_weaker}
use Rattle.wb_eval.proofs.machine.Machine.add_below.Goals as goal

pub tree_below-tree-requires : goal.tree_below-tree-requires
tree_below-tree-requires c = c.requires.ready

pub add-requires-clause-whole : goal.add-requires-clause-whole
add-requires-clause-whole c = c.requires.whole

pub add-requires-clause-there : goal.add-requires-clause-there
add-requires-clause-there c = c.requires.there

pub returns-clause-same : goal.returns-clause-same
returns-clause-same c = on_ok_weaker c.add.result (λ whole. refl) c.add.ensures.whole

pub returns-clause-whole : goal.returns-clause-whole
returns-clause-whole c = c.add.ensures.whole

pub returns-clause-grown : goal.returns-clause-grown
returns-clause-grown c = c.add.ensures.grown

pub returns-clause-site : goal.returns-clause-site
returns-clause-site c =
    IfOk-weaker c.add.result _ _ (λ site below. (c.tree_below-tree.result, (λ more. c.tree_below-tree.ensures), below)) c.add.ensures.site
