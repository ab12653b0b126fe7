use Rattle.wb_names_rules.proofs.ReadLemmas.{fails_when}
use Rattle.wb_names_rules.proofs.UnknownLemmas.{shows_absent}
use Rattle.wb_names_rules.proofs.unknown.check_occurs.Goals as goal

pub returns-clause-refused : goal.returns-clause-refused
returns-clause-refused c =
    let not = fails_when _ c.if-branch.false c.in_ok-occurs.ensures in
    shows_absent c.args.index.now c.args.attribute.now c.args.nonterminal.now c.unknown.result
    (rw (c.as_slice.ensures, c.as_slice-2.ensures) at not) c.unknown.ensures
