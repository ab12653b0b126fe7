use Rattle.std.proofs.Common.{◌++◌, ◌∷◌, [], List, ℕ, ap, ◌∙◌}
use Rattle.std.proofs.lemmas.Result.{on_ok_weaker}
use Rattle.wb_terms.proofs.PlainLemmas.{plain_text}
use Rattle.wb_terms.proofs.print.print_plain_text.Goals as goal

pub returns : goal.returns
returns c =
    on_ok_weaker c.push-2.result (λ pushed. pushed
    ∙ ap (λ (l : List ℕ). l ++ 34 ∷ []) (c.in_ok-extend_from_slice.ensures.items
    ∙ ap (λ (l : List ℕ). l ++ c.args.text.now) c.in_ok-push.ensures.ok)
    ∙ plain_text c.args.text.now c.args.out.now.items c.requires) c.push-2.ensures.ok
