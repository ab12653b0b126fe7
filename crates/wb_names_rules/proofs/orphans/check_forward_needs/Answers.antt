use Rattle.std.proofs.Common.{drop}
use Rattle.wb_names_theory.specs.Orphan.{IsOwnSymbol}
use Rattle.wb_names_rules.proofs.ReadLemmas.{fails_when}
use Rattle.wb_names_rules.proofs.OwnerLemmas.{orphan_if}
use Rattle.wb_names_rules.proofs.orphans.check_forward_needs.Goals as goal

pub returns-clause-refused : goal.returns-clause-refused
returns-clause-refused c =
    let not = fails_when _ c.if-branch.false c.in_ok-is_own_symbol.ensures in
    orphan_if (¬ IsOwnSymbol (drop c.args.from c.args.index.now) c.args.name.now) c.args.name.now c.orphan.result (rw c.as_slice.ensures
    at not)
    c.orphan.ensures
