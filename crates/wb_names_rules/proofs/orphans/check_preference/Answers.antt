use Rattle.std.proofs.Common.{ℕ, List, drop, subst, inr}
use Rattle.wb_names_theory.specs.Orphan.{IsOwnSymbol}
use Rattle.wb_names_rules.specs.Inner.Owners.{IsForeignPreference}
use Rattle.wb_names_rules.proofs.ReadLemmas.{fails_when}
use Rattle.wb_names_rules.proofs.OwnerLemmas.{orphan_if}
use Rattle.wb_names_rules.proofs.orphans.check_preference.Goals as goal

pub returns-then-branch-2-clause-ok : goal.returns-then-branch-2-clause-ok
returns-then-branch-2-clause-ok c =
    inr (subst (λ (n : List ℕ). IsOwnSymbol (drop c.args.from c.args.index.now) n) c.as_slice-2.ensures
    (c.in_ok-is_own_symbol-2.ensures.0 c.if-branch-2.true))

pub returns-clause-refused : goal.returns-clause-refused
returns-clause-refused c =
    let first = rw c.as_slice.ensures at (fails_when _ c.if-branch.false c.in_ok-is_own_symbol.ensures) in
    let second = rw c.as_slice-2.ensures at (fails_when _ c.if-branch-2.false c.in_ok-is_own_symbol-2.ensures) in
    orphan_if (IsForeignPreference (drop c.args.from c.args.index.now) c.args.first.now c.args.second.now) c.args.first.now c.orphan.result
    (first, second) c.orphan.ensures
