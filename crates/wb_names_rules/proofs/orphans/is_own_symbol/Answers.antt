use Rattle.wb_names_theory.specs.declared.declaration.Sort.{Sort}
use Rattle.wb_names_theory.specs.declared.declaration.Declaration.TheVariants as d
use Rattle.wb_names_theory.specs.Duplicate as s
use Rattle.wb_names_rules.proofs.OwnerLemmas.{own_test, contains_drop}
use Rattle.wb_names_rules.proofs.orphans.is_own_symbol.Goals as goal

pub returns-in-None : goal.returns-in-None
returns-in-None c =
    let none = rw c.in-None.is at c.in_ok-symbol.ensures.none in
    (λ e. absurd (cc), λ (is, has). absurd (none is (contains_drop c.args.index.now c.args.from (d.Symbol c.args.name.now is) has)))

pub returns-in-Some : goal.returns-in-Some
returns-in-Some c =
    let (is, at) = rw c.in-Some.is at c.in_ok-symbol.ensures.found in
    own_test c.args.index.now c.args.from c.in_ok-symbol.ensures.once (λ (x : Sort). d.Symbol c.args.name.now x) c.in-Some.place is
    c.is_own.result (λ x y. s.symbol) at tt c.is_own.ensures
