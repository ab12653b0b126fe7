use Rattle.std.proofs.Common.{rules, ◌≡◌, ◌+◌, ◌<◌, ◌++◌, ◌∷◌, [], List, length, take, get_or, ap, sym, subst, ◌∙◌}
use Rattle.std.proofs.lemmas.List.{take_more}
use Rattle.wb_syntax_resolved.specs.declared.production.Local.{Local}
use Rattle.wb_eval_rules.specs.Code.{IsCodeOf}
use Rattle.wb_eval_rules.specs.Codes.{AreLocalCodes}
use Rattle.wb_eval_rules.specs.declared.codes.Code.{Code}
use Rattle.wb_eval_rules.proofs.PairLemmas.{one_paired}
use Rattle.wb_eval_rules.proofs.codes.local_codes.Goals as goal

pub locals-preserved : goal.locals-preserved
locals-preserved c =
    let signatures = c.args.signatures.now in
    let xs = c.args.locals.now in
    let i = c.locals.local-index in
    let x = c.local-item.result in
    let code : Code = record { ops = c.in_ok-ops.ops } in
    let within : i < length xs = search rules in
    let item_is : get_or xs i x ≡ x = search rules in
    let taken : take (i + 1) xs ≡ take i xs ++ x ∷ [] = take_more xs i x within ∙ ap (λ (z : Local). take i xs ++ z ∷ []) item_is in
    let its : IsCodeOf signatures x.nodes code.ops.items = search rules in
    let it = one_paired (λ (z : Local) (w : Code). IsCodeOf signatures z.nodes w.ops.items) (take i xs) x c.locals.made.items code
    c.locals.invariant its in
    subst (λ (l : List Local). AreLocalCodes signatures l c.push_reserved.new.self.items) (sym taken)
    (subst (AreLocalCodes signatures (take i xs ++ x ∷ [])) (search rules) it)
