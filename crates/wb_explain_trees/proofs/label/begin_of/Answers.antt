-- Where a leaf begins, or the text ends.
use Rattle.std.proofs.Common.{◌∙◌, ap, length}
use Rattle.wb_explain_trees.proofs.LabelLemmas.{begins_nowhere, begins_there}
use Rattle.wb_explain_trees.proofs.label.begin_of.Goals as goal

pub returns-else-place-end-clause-is : goal.returns-else-place-end-clause-is
returns-else-place-end-clause-is c =
    begins_there c.args.session.now.places (length c.args.session.now.text) c.args.leaf c.in-Some.place c.in-Some.ensures.some

pub returns-in-None-clause-is : goal.returns-in-None-clause-is
returns-in-None-clause-is c =
    ap length c.text-end.ensures.text
    ∙ begins_nowhere c.args.session.now.places (length c.args.session.now.text) c.args.leaf c.in-None.ensures.none
