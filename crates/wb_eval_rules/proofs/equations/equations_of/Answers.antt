use Rattle.std.proofs.Common.{rules, ◌≡◌, ◌≢◌, ◌+◌, ◌≤◌, ◌<◌, suc, Some, length, slice_get, ap, sym, subst, arith, ◌∙◌}
use Rattle.wb_lemmas.proofs.Places.{read_at}
use Rattle.wb_syntax_resolved.specs.declared.equation.Target.{Target}
use Rattle.wb_eval_rules.specs.Indexes.{number_for, IsIndexOf}
use Rattle.wb_eval_rules.proofs.IndexLemmas.{one_more, all_indexed}
use Rattle.wb_eval_rules.proofs.equations.equations_of.Goals as goal

pub equations-preserved : goal.equations-preserved
equations-preserved c =
    let xs = c.args.production.now.equations in
    let i = c.equations.equation-index in
    let e = c.equation-item.result in
    let counted : c.equations.number ≡ i = c.equations.invariant.counted in
    let within : i < length xs = search rules in
    let at : slice_get xs i ≡ Some e = read_at xs c.as_slice-equation-items.result.now i e (search rules) within (search rules) in
    let number : c.equations.number + 1 ≡ suc i = omega (arith, counted) in
    let it = one_more xs i e c.equations.made c.set.new.self c.equations.invariant.index at (c.in_ok-set.ensures.set ∙ number) c.in_ok-set.ensures.kept in
    record { counted = omega (arith, counted); found = c.in_ok-set.ensures.found; index = subst (λ n. IsIndexOf xs n c.set.new.self) (omega arith) it }

pub returns : goal.returns
returns c =
    let xs = c.args.production.now.equations in
    let past : length xs ≤ c.equations.equation-index = search rules in
    all_indexed xs c.equations.equation-index c.equations.made past c.equations.invariant.index
