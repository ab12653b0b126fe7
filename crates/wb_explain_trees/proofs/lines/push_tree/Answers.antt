-- The session is of the text in the language.
use Rattle.std.proofs.Common.{OnOk, subst}
use Rattle.wb_explain_trees.specs.Lines.{SaysTree}
use Rattle.wb_explain_trees.proofs.lines.push_tree.Goals as goal

pub returns : goal.returns
returns c =
    subst (λ l. OnOk c.push_session-answer.result (SaysTree l c.args.signatures.now c.args.names.now c.args.text.now c.args.out.now.items
    c.push_session-answer.new.out.items)) c.in_ok-session.ensures.language
    (subst (λ text. OnOk c.push_session-answer.result (SaysTree c.in_ok-session.session.language c.args.signatures.now c.args.names.now text
    c.args.out.now.items c.push_session-answer.new.out.items)) c.in_ok-session.ensures.text c.push_session-answer.ensures)
