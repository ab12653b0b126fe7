use Rattle.std.proofs.Common.{◌≡◌, ◌∙◌, ◌-◌, ◌∷◌, ◌++◌, [], Some, length, slice_get, refl, ap, arith}
use Rattle.std.proofs.lemmas.List.{length-append}
use Rattle.std.proofs.lemmas.Result.{IfOk-weaker}
use Rattle.wb_lemmas.proofs.Places.{at_once, push_last, read_at}
use Rattle.wb_eval.proofs.steps.last_value.Goals as goal

pub returns : goal.returns
returns c = λ under v is.
    let xs = c.args.values.now.items in
    let n_is = c.len-last.ensures ∙ c.args.values.now.ok.0 in
    let l = ap length is in
    let k = length-append under (v ∷ []) in
    let here : slice_get xs (c.len-last.result - 1) ≡ Some c.index.result.now =
    read_at xs xs (c.len-last.result - 1) c.index.result.now refl (omega (arith, n_is, l, k)) c.index.ensures in
    let there : slice_get xs (c.len-last.result - 1) ≡ Some v =
    ap (λ z. slice_get z (c.len-last.result - 1)) is
    ∙ ap (slice_get (under ++ v ∷ [])) (omega (arith, n_is, l, k)) ∙ push_last under v in
    IfOk-weaker c.copy.result _ _ (λ made e. e ∙ at_once xs (c.len-last.result - 1) _ _ here there) c.copy.ensures
