use Rattle.wb_names_theory.specs.declared.declaration.Sort.TheVariants as sort
use Rattle.wb_names_rules.proofs.ReadLemmas.{sort_test}
use Rattle.wb_names_rules.proofs.reads.is_production.Goals as goal

pub returns-in-None : goal.returns-in-None
returns-in-None c = let none = rw c.in-None.is at c.in_ok-sort_of.ensures in (λ e. absurd (cc), λ has. absurd (none sort.Production has))

pub returns-in-Some : goal.returns-in-Some
returns-in-Some c =
    sort_test c.args.index.now c.args.name.now c.in-Some.sort c.in-Some.sort sort.Production c.is_production_sort.result
    (rw c.in-Some.is at c.in_ok-sort_of.ensures) c.is_production_sort.ensures
