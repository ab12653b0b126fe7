use Rattle.std.proofs.Common.{Some, None}
use Rattle.wb_names_rules.proofs.KindLemmas.{label_of, one_label, shows_label}
use Rattle.wb_names_rules.proofs.ReadLemmas.{fails_when}
use Rattle.wb_names_rules.proofs.kinds.check_label.Goals as goal

pub returns-in-None-clause-ok : goal.returns-in-None-clause-ok
returns-in-None-clause-ok c = λ there is has.
    absurd (label_of c.args.index.now _ _ _ _ None c.as_slice-2.ensures c.as_slice-3.ensures (rw c.in-None.is at c.in_ok-labelled_as.ensures) is has)

pub returns-then-branch-clause-ok : goal.returns-then-branch-clause-ok
returns-then-branch-clause-ok c =
    one_label c.args.index.now c.args.production.now c.args.label.now c.args.wanted c.in-Some.found.now
    (label_of c.args.index.now _ _ _ _ (Some c.in-Some.found.now) c.as_slice-2.ensures c.as_slice-3.ensures
    (rw c.in-Some.is at c.in_ok-labelled_as.ensures))
    (rw c.if-branch.true at c.in_ok-suits_label-in-Some.ensures)

pub returns-else-branch-clause-refused : goal.returns-else-branch-clause-refused
returns-else-branch-clause-refused c =
    shows_label c.args.index.now c.args.production.now c.args.label.now c.args.wanted c.in-Some.found.now c.wrong_kind.result
    (label_of c.args.index.now _ _ _ _ (Some c.in-Some.found.now) c.as_slice-2.ensures c.as_slice-3.ensures
    (rw c.in-Some.is at c.in_ok-labelled_as.ensures))
    (rw c.as_slice.ensures at (c.in_ok-is_production.ensures.0 c.if-not-branch.false))
    (rw c.if-branch.false at c.in_ok-suits_label-in-Some.ensures) c.wrong_kind.ensures

pub returns-then-not-branch-clause-ok : goal.returns-then-not-branch-clause-ok
returns-then-not-branch-clause-ok c =
    let not = rw c.as_slice.ensures at (fails_when _ c.if-not-branch.true c.in_ok-is_production.ensures) in
    λ there. absurd (not there)
