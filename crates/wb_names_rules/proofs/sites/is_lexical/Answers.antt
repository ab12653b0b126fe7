use Rattle.std.proofs.Common.{inl, inr}
use Rattle.wb_names_theory.specs.declared.declaration.Sort.TheVariants as sort
use Rattle.wb_names_rules.proofs.SiteLemmas.{lexical_test}
use Rattle.wb_names_rules.proofs.sites.is_lexical.Goals as goal

pub returns-in-None : goal.returns-in-None
returns-in-None c =
    let none = rw c.in-None.is at c.in_ok-sort_of.ensures in
    (λ e. absurd (cc), λ has. elim has [ inl t ↦ absurd (none sort.Terminal t) | inr m ↦ absurd (none sort.Marker m) ])

pub returns-in-Some : goal.returns-in-Some
returns-in-Some c =
    lexical_test c.args.index.now c.args.name.now c.in-Some.sort c.is_lexical_sort.result (rw c.in-Some.is at c.in_ok-sort_of.ensures)
    c.is_lexical_sort.ensures
