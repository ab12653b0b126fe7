use Rattle.std.proofs.Common.{rules, ◌≡◌, ◌+◌, ◌<◌, ◌++◌, ◌∷◌, [], List, length, take, get_or, ap, sym, subst, ◌∙◌}
use Rattle.std.proofs.lemmas.List.{take_more}
use Rattle.wb_syntax_resolved.specs.declared.equation.Equation.{Equation}
use Rattle.wb_eval_rules.specs.Code.{IsCodeOf}
use Rattle.wb_eval_rules.specs.Codes.{AreEquationCodes}
use Rattle.wb_eval_rules.specs.declared.codes.Code.{Code}
use Rattle.wb_eval_rules.proofs.PairLemmas.{one_paired}
use Rattle.wb_eval_rules.proofs.codes.equation_codes.Goals as goal

pub equations-preserved : goal.equations-preserved
equations-preserved c =
    let signatures = c.args.signatures.now in
    let xs = c.args.equations.now in
    let i = c.equations.equation-index in
    let x = c.equation-item.result in
    let code : Code = record { ops = c.in_ok-ops.ops } in
    let within : i < length xs = search rules in
    let item_is : get_or xs i x ≡ x = search rules in
    let taken : take (i + 1) xs ≡ take i xs ++ x ∷ [] = take_more xs i x within ∙ ap (λ (z : Equation). take i xs ++ z ∷ []) item_is in
    let its : IsCodeOf signatures x.nodes code.ops.items = search rules in
    let it = one_paired (λ (z : Equation) (w : Code). IsCodeOf signatures z.nodes w.ops.items) (take i xs) x c.equations.made.items code
    c.equations.invariant its in
    subst (λ (l : List Equation). AreEquationCodes signatures l c.push_reserved.new.self.items) (sym taken)
    (subst (AreEquationCodes signatures (take i xs ++ x ∷ [])) (search rules) it)
