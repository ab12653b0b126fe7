use Rattle.std.proofs.Common.{subst, IfOk}
use Rattle.wb_session.specs.Parses.{IsParsed, IsTreeOf}
use Rattle.wb_compose_texts.specs.Answers.{IsAnswerIn}
use Rattle.wb_compose_texts.specs.Names.{terminals_of}
use Rattle.wb_compose_texts.specs.Unions.{all_resolved}
use Rattle.wb_compose_texts.proofs.trees.united_parsed_answer.Goals as goal

pub returns-in_ok-signatures-in-Tree : goal.returns-in_ok-signatures-in-Tree
returns-in_ok-signatures-in-Tree c l text is =
    let names = terminals_of c.args.host.now.resolved (all_resolved c.args.extensions.now) in
    let tree : IsTreeOf l text c.args.store.now c.in-Tree.tree.0 = subst (λ z. IsParsed l text c.args.store.now z) c.in-Tree.is is in
    subst (λ s. IfOk c.printed.result (IsAnswerIn names s l text)) c.in_ok-signatures-in-Tree.ensures (c.printed.ensures names l text tree)
