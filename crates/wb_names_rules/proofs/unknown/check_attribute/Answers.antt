use Rattle.std.proofs.Common.{List, ℕ, refl, sym, subst}
use Rattle.std.proofs.lemmas.Result.{IfErr-weaker, on_ok_weaker}
use Rattle.wb_names_theory.specs.declared.declaration.Sort.TheVariants as sort
use Rattle.wb_names_theory.specs.declared.usage.Usage.TheVariants as u
use Rattle.wb_names_theory.specs.Meaning.{IsSymbol, Occurs}
use Rattle.wb_names_rules.specs.Inner.Tests.{ShowsUnknown, ShowsAbsent}
use Rattle.wb_names_rules.proofs.ReadLemmas.{fails_when}
use Rattle.wb_names_rules.proofs.UnknownLemmas.{shows_name, shows_elsewhere, shows_no_forward}
use Rattle.wb_names_rules.proofs.unknown.check_attribute.Goals as goal

pub returns-then-branch-clause-refused : goal.returns-then-branch-clause-refused
returns-then-branch-clause-refused c =
    let there = rw c.as_slice.ensures at (c.in_ok-is_production.ensures.0 c.if-not-branch.false) in
    let lacks = rw c.if-branch.true at c.in_ok-lacks_forward.ensures in
    shows_name c.args.index.now (u.Attribute c.args.production.now c.args.attribute.now c.args.site.now) c.args.attribute.now
    c.unknown.result
    (λ used has. shows_no_forward c.args.index.now used c.args.production.now c.args.attribute.now c.args.site.now there has
    lacks.0 lacks.1)
    c.unknown.ensures

pub returns-in-Some-clause-refused : goal.returns-in-Some-clause-refused
returns-in-Some-clause-refused c =
    let there = rw c.as_slice.ensures at (c.in_ok-is_production.ensures.0 c.if-not-branch.false) in
    let only = rw c.as_slice-2.ensures at (rw c.in-Some.is at c.in_ok-site_of.ensures) in
    IfErr-weaker c.check_occurs.result (ShowsAbsent c.args.index.now c.args.attribute.now c.in-Some.nonterminal.now)
    (ShowsUnknown c.args.index.now (u.Attribute c.args.production.now c.args.attribute.now c.args.site.now))
    (shows_elsewhere c.args.index.now c.args.production.now c.args.attribute.now c.in-Some.nonterminal.now c.args.site.now there
    ((only c.in-Some.nonterminal.now).1 refl)) c.check_occurs.ensures.refused

pub returns-then-not-branch-clause-ok : goal.returns-then-not-branch-clause-ok
returns-then-not-branch-clause-ok c =
    let not = rw c.as_slice.ensures at (fails_when _ c.if-not-branch.true c.in_ok-is_production.ensures) in
    λ there. absurd (not there)

pub site_of-requires : goal.site_of-requires
site_of-requires c =
    subst (λ (p : List ℕ). IsSymbol c.args.index.now p sort.Production) (sym c.as_slice-2.ensures)
    (rw c.as_slice.ensures at (c.in_ok-is_production.ensures.0 c.if-not-branch.false))

pub returns-in-None-clause-ok : goal.returns-in-None-clause-ok
returns-in-None-clause-ok c =
    let none = rw c.as_slice-2.ensures at (rw c.in-None.is at c.in_ok-site_of.ensures) in
    let forwards = rw c.if-branch.false at c.in_ok-lacks_forward.ensures in
    λ there. ((λ n has. absurd (none n has)), forwards)

pub returns-in-Some-clause-ok : goal.returns-in-Some-clause-ok
returns-in-Some-clause-ok c =
    let only = rw c.as_slice-2.ensures at (rw c.in-Some.is at c.in_ok-site_of.ensures) in
    let forwards = rw c.if-branch.false at c.in_ok-lacks_forward.ensures in
    on_ok_weaker c.check_occurs.result (λ occurs there. (
      (λ n has. subst (λ (z : List ℕ). Occurs c.args.index.now c.args.attribute.now z) (sym ((only n).0 has)) occurs),
      forwards,
    )) c.check_occurs.ensures.ok
