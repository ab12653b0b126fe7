use Rattle.std.proofs.Common.{◌∙◌, ◌-◌, ◌∷◌, [], length, take, sym, ap, arith}
use Rattle.std.proofs.lemmas.List.{length-append, take_at}
use Rattle.wb_eval.specs.Inner.Answering.{with_answer}
use Rattle.wb_eval.proofs.steps.settle.Goals as goal

pub returns-in-Some : goal.returns-in-Some
returns-in-Some c = λ under v is. is ∙ ap (λ f. with_answer f under v) (sym c.in-Some.is)

pub returns-in-None : goal.returns-in-None
returns-in-None c = λ under v is.
    let xs = c.args.values.now.items in
    let n_is = c.len-last.ensures ∙ c.args.values.now.ok.0 in
    let l = ap length is in
    let k = length-append under (v ∷ []) in
    c.truncate.ensures.items ∙ ap (λ n. take (n - 1) xs) n_is ∙ ap (take (length xs - 1)) is
    ∙ take_at under (v ∷ []) (length xs - 1) (omega (arith, l, k))
    ∙ ap (λ f. with_answer f under v) (sym c.in-None.is)
