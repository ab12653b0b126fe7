use Rattle.std.proofs.Common.{refl, subst, Contains, List, ℕ}
use Rattle.std.proofs.lemmas.Result.{on_ok_weaker}
use Rattle.wb_flow.proofs.EachLemmas.{lacks_need}
use Rattle.wb_explain_flows_lists.proofs.HeldLemmas.{keeps_unheld, unheld}
use Rattle.wb_explain_flows_lists.proofs.held.add_one.Goals as goal

pub returns-then-not-is_synthesized : goal.returns-then-not-is_synthesized
returns-then-not-is_synthesized c = λ before. before

pub returns-in-None : goal.returns-in-None
returns-in-None c = λ before. before

pub returns-in-Some : goal.returns-in-Some
returns-in-Some c =
    let a = c.args.scope.now.attributes.now in
    let o = c.args.occurrence.now in
    let i = c.in-Some.inherited in
    on_ok_weaker c.push.result (λ pushed.
    keeps_unheld a c.args.found.now.items c.push.new.list.items (unheld o.attribute o.nonterminal i) pushed
    (lacks_need a c.requires.attribution o c.requires.listed (c.if-not-is_synthesized.ensures.0 refl) i
    ((c.forward_needs-wanted.ensures i).0 c.in-Some.ensures.0)
    (subst (λ (z : List ℕ). ¬ Contains z i) c.as_slice.ensures c.in-Some.ensures.1))) c.push.ensures.ok
