use Rattle.std.proofs.Common.{rules, ◌≡◌, ◌∙◌, ◌+◌, ◌<◌, ◌≤◌, ◌++◌, ◌∷◌, [], List, length, take, get_or, ap, sym, subst}
use Rattle.std.proofs.lemmas.List.{take_more}
use Rattle.wb_eval_rules.proofs.WayLemmas.{take_past}
use Rattle.wb_syntax_resolved.specs.Expression.{Node}
use Rattle.wb_eval_rules.specs.Code.{Instruction, does, next}
use Rattle.wb_eval_rules.specs.Inner.Emitted.{job_at, after_node, emitted}
use Rattle.wb_eval_rules.proofs.CodeLemmas.{emitted_more, emitted_whole}
use Rattle.wb_eval_rules.proofs.code.compile.Goals as goal

pub nodes-preserved : goal.nodes-preserved
nodes-preserved c =
    let signatures = c.args.signatures.now in
    let xs = c.args.nodes.now in
    let i = c.nodes.node-index in
    let x = c.node-item.result in
    let within : i < length xs = search rules in
    let item_is : get_or xs i x ≡ x = search rules in
    let taken : take (i + 1) xs ≡ take i xs ++ x ∷ [] = take_more xs i x within ∙ ap (λ (z : Node). take i xs ++ z ∷ []) item_is in
    c.in_ok-emit.ensures
    ∙ ap (λ (l : List Instruction). after_node x (l ++ does (job_at signatures x) next ∷ [])) c.nodes.invariant
    ∙ sym (emitted_more signatures [] (take i xs) x) ∙ ap (emitted signatures []) (sym taken)

pub returns : goal.returns
returns c = λ e is.
    let past : length c.args.nodes.now ≤ c.nodes.node-index = search rules in
    let all = take_past c.args.nodes.now c.nodes.node-index past in
    c.nodes.invariant ∙ ap (emitted c.args.signatures.now []) all ∙ emitted_whole c.args.signatures.now e c.args.nodes.now is
