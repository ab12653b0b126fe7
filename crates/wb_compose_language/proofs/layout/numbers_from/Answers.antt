use Rattle.std.proofs.Common.{rules, ◌≡◌, ◌+◌, ◌∙◌, ◌++◌, ◌∷◌, [], ℕ, List, ap, sym}
use Rattle.std.specs.List.{range_with_len}
use Rattle.wb_compose_language.proofs.RowLemmas.{range_more}
use Rattle.wb_compose_language.proofs.layout.numbers_from.Goals as goal

pub numbers-preserved : goal.numbers-preserved
numbers-preserved c =
    let next : c.in-Some.next ≡ c.args.from + c.numbers.number = search rules in
    c.in_ok-push-in-Some.ensures.ok ∙ ap (λ (xs : List ℕ). xs ++ c.in-Some.next ∷ []) c.numbers.invariant
    ∙ ap (λ (k : ℕ). range_with_len c.args.from c.numbers.number ++ k ∷ []) next ∙ sym (range_more c.args.from c.numbers.number)
