-- The line of a label.
use Rattle.wb_explain_trees.specs.Inner.Sessions.{view_of}
use Rattle.wb_explain_trees.proofs.LineLemmas.{has_line}
use Rattle.wb_explain_trees.proofs.lines.push_item.Goals as goal

pub returns-in-Ok-clause-line : goal.returns-in-Ok-clause-line
returns-in-Ok-clause-line c =
    has_line (view_of c.args.shown.now.session.now c.args.shown.now.signatures.now c.args.shown.now.names.now) c.args.item c.args.out.now.items
    c.push_line-answer.new.out.items c.in-Some.label.name.now c.pad_of.result.now c.deref.result.now c.in-Some.label.begin
    c.in-Some.ensures c.in-Ok.ensures

pub returns-in-Ok-clause-reached : goal.returns-in-Ok-clause-reached
returns-in-Ok-clause-reached c = c.in-Some.ensures.reached
