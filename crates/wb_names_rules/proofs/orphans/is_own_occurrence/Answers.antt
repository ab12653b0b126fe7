use Rattle.std.proofs.Common.{◌≡◌, ℕ, List, Some, slice_get, subst}
use Rattle.wb_names_theory.specs.declared.declaration.Declaration.TheVariants as d
use Rattle.wb_names_rules.proofs.OwnerLemmas.{occurrence_test}
use Rattle.wb_names_rules.proofs.orphans.is_own_occurrence.Goals as goal

pub returns-in-Some : goal.returns-in-Some
returns-in-Some c =
    let at = rw c.in-Some.is at c.in_ok-occurrence.ensures.found in
    occurrence_test c.args.index.now c.args.from c.in_ok-occurrence.ensures.once c.in-Some.place c.args.attribute.now c.args.nonterminal.now
    c.is_own.result
    (subst (λ (a : List ℕ). slice_get c.args.index.now c.in-Some.place ≡ Some (d.Occurrence a c.args.nonterminal.now)) c.as_slice.ensures
    (subst (λ (n : List ℕ). slice_get c.args.index.now c.in-Some.place ≡ Some (d.Occurrence c.as_slice.result.now n)) c.as_slice-2.ensures at))
    c.is_own.ensures
