-- What is lent is of the extensions.
use Rattle.std.proofs.Common.{sym, subst}
use Rattle.std.specs.List.{AllZip}
use Rattle.wb_tests_unions.specs.Inner.Found.{IsFoundBeside}
use Rattle.wb_tests_unions.specs.Inner.Lent.{IsLentBeside, IsLentFrom}
use Rattle.wb_tests_unions.proofs.UnionLemmas.{lent_beside}
use Rattle.wb_tests_unions.proofs.ZipLemmas.{zip_through}
use Rattle.wb_tests_unions.proofs.spliced.with_founds.Goals as goal

pub with_lents-agree-requires-clause-lents : goal.with_lents-agree-requires-clause-lents
with_lents-agree-requires-clause-lents c =
    let own = c.args.own.now in
    let es = c.args.extensions.now in
    subst (AllZip (IsLentBeside own) es) (sym c.deref.ensures.value)
    (zip_through (IsFoundBeside own) (IsLentFrom own) (IsLentBeside own) (lent_beside own) es c.args.founds.now
    c.in_ok-lents.lents.items c.requires.founds c.in_ok-lents.ensures)
