-- What is taken is of the extensions.
use Rattle.std.proofs.Common.{sym, subst}
use Rattle.std.specs.List.{AllZip}
use Rattle.wb_tests_unions.specs.Inner.Lent.{IsLentBeside, IsPartBeside, IsPartFrom}
use Rattle.wb_tests_unions.proofs.UnionLemmas.{part_beside}
use Rattle.wb_tests_unions.proofs.ZipLemmas.{zip_through}
use Rattle.wb_tests_unions.proofs.spliced.with_lents.Goals as goal

pub with_parts-agree-requires-clause-parts : goal.with_parts-agree-requires-clause-parts
with_parts-agree-requires-clause-parts c =
    let own = c.args.own.now in
    let es = c.args.extensions.now in
    subst (AllZip (IsPartBeside own) es) (sym c.deref.ensures.value)
    (zip_through (IsLentBeside own) IsPartFrom (IsPartBeside own) (part_beside own) es c.args.lents.now
    c.in_ok-parts.parts.items c.requires.lents c.in_ok-parts.ensures)
