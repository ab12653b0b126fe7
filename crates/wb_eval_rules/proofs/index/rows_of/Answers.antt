use Rattle.std.proofs.Common.{rules, ◌≡◌, ◌+◌, ◌<◌, ◌++◌, ◌∷◌, [], List, length, take, get_or, ap, sym, subst, ◌∙◌}
use Rattle.std.proofs.lemmas.List.{take_more}
use Rattle.wb_syntax_resolved.specs.declared.production.Production.{Production}
use Rattle.wb_eval_rules.specs.Indexes.{AreIndexes}
use Rattle.wb_eval_rules.specs.declared.equations.Equations.{Equations}
use Rattle.wb_eval_rules.proofs.IndexLemmas.{one_each}
use Rattle.wb_eval_rules.proofs.index.rows_of.Goals as goal

pub productions-preserved : goal.productions-preserved
productions-preserved c =
    let ps = c.args.productions.now in
    let i = c.productions.production-index in
    let p = c.production-item.result in
    let within : i < length ps = search rules in
    let item_is : get_or ps i p ≡ p = search rules in
    let taken : take (i + 1) ps ≡ take i ps ++ p ∷ [] = take_more ps i p within ∙ ap (λ (z : Production). take i ps ++ z ∷ []) item_is in
    let it = one_each (take i ps) p c.productions.rows.items c.in_ok-row.row c.productions.invariant (search rules) in
    subst (λ (l : List Production). AreIndexes l c.push_reserved.new.self.items) (sym taken)
    (subst (AreIndexes (take i ps ++ p ∷ [])) (search rules) it)
