use Rattle.std.proofs.lemmas.Result.{IfErr-weaker, on_ok_weaker}
use Rattle.wb_names_theory.specs.declared.usage.Usage.TheVariants as u
use Rattle.wb_names_rules.specs.Inner.Tests.{ShowsUnknown, ShowsAbsent}
use Rattle.wb_names_rules.proofs.ReadLemmas.{fails_when}
use Rattle.wb_names_rules.proofs.UnknownLemmas.{shows_needs}
use Rattle.wb_names_rules.proofs.unknown.check_needs.Goals as goal

pub returns-then-not-branch-clause-ok : goal.returns-then-not-branch-clause-ok
returns-then-not-branch-clause-ok c =
    let not = rw c.as_slice.ensures at (fails_when _ c.if-not-branch.true c.in_ok-is_nonterminal.ensures) in
    λ there. absurd (not there)

pub returns-clause-ok : goal.returns-clause-ok
returns-clause-ok c = on_ok_weaker c.check_occurs.result (λ occurs there. occurs) c.check_occurs.ensures.ok

pub returns-clause-refused : goal.returns-clause-refused
returns-clause-refused c =
    let there = rw c.as_slice.ensures at (c.in_ok-is_nonterminal.ensures.0 c.if-not-branch.false) in
    IfErr-weaker c.check_occurs.result (ShowsAbsent c.args.index.now c.args.attribute.now c.args.nonterminal.now)
    (ShowsUnknown c.args.index.now (u.Needs c.args.attribute.now c.args.nonterminal.now))
    (shows_needs c.args.index.now c.args.attribute.now c.args.nonterminal.now there) c.check_occurs.ensures.refused
