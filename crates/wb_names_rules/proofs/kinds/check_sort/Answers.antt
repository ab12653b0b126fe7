use Rattle.std.proofs.Common.{ℕ, List, Some, None, subst}
use Rattle.wb_names_rules.specs.Inner.Reads.{IsSortOf}
use Rattle.wb_names_rules.proofs.KindLemmas.{no_sort, one_sort, shows_sort}
use Rattle.wb_names_rules.proofs.ReadLemmas.{fails_when}
use Rattle.wb_names_rules.proofs.kinds.check_sort.Goals as goal

pub returns-in-None-clause-ok : goal.returns-in-None-clause-ok
returns-in-None-clause-ok c =
    no_sort c.args.index.now c.args.name.now c.args.wanted
    (subst (λ (z : List ℕ). IsSortOf c.args.index.now z None) c.as_slice.ensures (rw c.in-None.is at c.in_ok-sort_of.ensures))

pub returns-then-suits-clause-ok : goal.returns-then-suits-clause-ok
returns-then-suits-clause-ok c =
    one_sort c.args.index.now c.args.name.now c.args.wanted c.in-Some.found
    (subst (λ (z : List ℕ). IsSortOf c.args.index.now z (Some c.in-Some.found)) c.as_slice.ensures (rw c.in-Some.is at c.in_ok-sort_of.ensures))
    (c.suits.ensures.0 c.if-suits.true)

pub returns-else-suits-clause-refused : goal.returns-else-suits-clause-refused
returns-else-suits-clause-refused c =
    shows_sort c.args.index.now c.args.name.now c.args.wanted c.in-Some.found c.wrong_kind.result
    (subst (λ (z : List ℕ). IsSortOf c.args.index.now z (Some c.in-Some.found)) c.as_slice.ensures (rw c.in-Some.is at c.in_ok-sort_of.ensures))
    (fails_when c.suits.result c.if-suits.false c.suits.ensures) c.wrong_kind.ensures
