use Rattle.std.proofs.Common.{rules, ◌≡◌, ◌+◌, ◌<◌, ◌++◌, ◌∷◌, [], List, length, take, get_or, ap, sym, subst, ◌∙◌}
use Rattle.std.proofs.lemmas.List.{take_more}
use Rattle.wb_syntax_resolved.specs.declared.production.Production.{Production}
use Rattle.wb_eval_rules.specs.Codes.{IsCoded, AreCoded}
use Rattle.wb_eval_rules.proofs.PairLemmas.{one_paired}
use Rattle.wb_eval_rules.proofs.index.all_codes.Goals as goal

pub productions-preserved : goal.productions-preserved
productions-preserved c =
    let signatures = c.args.signatures.now in
    let ps = c.args.productions.now in
    let i = c.productions.production-index in
    let p = c.production-item.result in
    let within : i < length ps = search rules in
    let item_is : get_or ps i p ≡ p = search rules in
    let taken : take (i + 1) ps ≡ take i ps ++ p ∷ [] = take_more ps i p within ∙ ap (λ (z : Production). take i ps ++ z ∷ []) item_is in
    let it = one_paired (IsCoded signatures) (take i ps) p c.productions.made.items c.in_ok-codes.codes c.productions.invariant (search rules) in
    subst (λ (l : List Production). AreCoded signatures l c.push_reserved.new.self.items) (sym taken)
    (subst (AreCoded signatures (take i ps ++ p ∷ [])) (search rules) it)
