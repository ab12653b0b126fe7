use Rattle.std.proofs.Common.{ℕ, List, Bool, subst, sym}
use Rattle.std.specs.Prelude.{IsTrue, ◌↔◌}
use Rattle.std.proofs.lemmas.Result.{IfOk-weaker}
use Rattle.wb_names_theory.specs.declared.declaration.Declaration.{Declaration}
use Rattle.wb_names_theory.specs.declared.declaration.Sort.TheVariants as sort
use Rattle.wb_names_theory.specs.Duplicate.{Counts}
use Rattle.wb_names_theory.specs.Meaning.{IsSymbol}
use Rattle.wb_names_rules.proofs.table.counts.Goals as goal

pub returns-in-Label : goal.returns-in-Label
returns-in-Label c =
    IfOk-weaker c.is_production.result
    (λ (b : Bool). IsTrue b ↔ IsSymbol c.args.declarations.now c.as_slice.result.now sort.Production)
    (λ (b : Bool). IsTrue b ↔ Counts c.args.declarations.now c.args.declaration.now)
    (λ b exact. subst (λ (z : Declaration). IsTrue b ↔ Counts c.args.declarations.now z) (sym c.in-Label.is)
    (subst (λ (z : List ℕ). IsTrue b ↔ IsSymbol c.args.declarations.now z sort.Production) c.as_slice.ensures exact))
    c.is_production.ensures
