use Rattle.std.proofs.Common.{◌++◌, ◌∷◌, [], length, ap, ◌∙◌, subst}
use Rattle.wb_values.specs.Inner.Small.{IsLarge}
use Rattle.wb_values.proofs.PackedLemmas.{large_packed, large_values}
use Rattle.wb_values.proofs.packed.PackedValues.push_large.Goals as goal

pub invariant_of-self-2 : goal.invariant_of-self-2
invariant_of-self-2 c =
    let at : IsLarge (length c.self.inside.large.items) c.in-Some.cell =
    subst (λ n. IsLarge n c.in-Some.cell) (c.len.ensures ∙ c.self.inside.large.ok.0) c.in-Some.ensures in
    rw (c.push_reserved.ensures.items, c.in_ok-reserve.ensures.items, c.push_reserved-2.ensures.items, c.in_ok-reserve-2.ensures.items)
    (large_packed c.self.inside.cells.items c.self.inside.large.items c.args.value c.in-Some.cell c.self.invariant at)

pub returns-clause-ok : goal.returns-clause-ok
returns-clause-ok c =
    let at : IsLarge (length c.self.inside.large.items) c.in-Some.cell =
    subst (λ n. IsLarge n c.in-Some.cell) (c.len.ensures ∙ c.self.inside.large.ok.0) c.in-Some.ensures in
    rw (c.push_reserved.ensures.items, c.in_ok-reserve.ensures.items, c.push_reserved-2.ensures.items, c.in_ok-reserve-2.ensures.items)
    (large_values c.self.inside.cells.items c.self.inside.large.items c.args.value c.in-Some.cell c.self.invariant at
    ∙ ap (λ vs. vs ++ c.args.value ∷ []) c.self.view_is)
