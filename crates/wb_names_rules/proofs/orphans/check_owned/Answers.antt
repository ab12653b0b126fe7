use Rattle.std.proofs.Common.{List, All, subst}
use Rattle.wb_lemmas.proofs.Refusals.{handed_on}
use Rattle.wb_names_theory.specs.declared.declaration.Declaration.{Declaration}
use Rattle.wb_names_theory.specs.NamesOk.{bounds_of}
use Rattle.wb_names_rules.specs.Inner.Owners.{MayDeclare, ShowsOrphan, IsOrphanIn}
use Rattle.wb_names_rules.proofs.LoopLemmas.{taken_more, taken_all}
use Rattle.wb_names_rules.proofs.OwnerLemmas.{own_slice, shown_orphan}
use Rattle.wb_names_rules.proofs.orphans.check_owned.Goals as goal

pub returns-in_err-check_declaration-clause-refused : goal.returns-in_err-check_declaration-clause-refused
returns-in_err-check_declaration-clause-refused c =
    let bounds = bounds_of c.args.base.now c.args.format in
    handed_on (ShowsOrphan c.args.index.now c.args.from bounds c.declaration-item.result) (IsOrphanIn c.args.index.now c.args.from bounds)
    c.from_residual.result c.in_err-check_declaration.field-0.0 c.from_residual.ensures.1
    (shown_orphan c.args.index.now c.args.from bounds _ c.own.declaration-index c.declaration-item.result
    (own_slice c.declarations.result.now c.args.index.now c.args.from c.declarations.ensures.all) c.own-test.true c.declaration-item.is)
    c.in_err-check_declaration.ensures.refused

pub own-preserved : goal.own-preserved
own-preserved c =
    taken_more (MayDeclare c.args.index.now c.args.from (bounds_of c.args.base.now c.args.format)) _ c.own.declaration-index c.declaration-item.result
    c.own.invariant c.own-test.true c.declaration-item.is c.in_ok-check_declaration.ensures.ok

pub returns-clause-ok : goal.returns-clause-ok
returns-clause-ok c =
    let may = MayDeclare c.args.index.now c.args.from (bounds_of c.args.base.now c.args.format) in
    subst (λ (ds : List Declaration). All may ds)
    (own_slice c.declarations.result.now c.args.index.now c.args.from c.declarations.ensures.all)
    (taken_all may _ c.own.declaration-index c.own.invariant c.own-test.false)
