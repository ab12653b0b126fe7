use Rattle.std.proofs.Common.{◌≡◌, false, refl, sym}
use Rattle.wb_lemmas.proofs.Members.{place_of}
use Rattle.wb_lemmas.proofs.Places.{read_at}
use Rattle.wb_flow.proofs.EachLemmas.{each_more, each_in}
use Rattle.wb_complete.proofs.ForwardLemmas.{none_given}
use Rattle.wb_complete.specs.Inner.ForwardTests.{is_forward}
use Rattle.wb_syntax_resolved.specs.declared.equation.Equation.{Equation}
use Rattle.wb_complete.proofs.equations.gives_forward.Goals as goal

pub equations-preserved : goal.equations-preserved
equations-preserved c =
    let items = c.as_slice-equation-items.result.now in
    let e = c.equation-item.result in
    each_more items (λ (z : Equation). is_forward z.target ≡ false) c.equations.equation-index e
    (read_at items items c.equations.equation-index e refl c.equations-test.true c.equation-item.is) c.equations.invariant
    (sym c.if-is_forward.ensures)

pub returns : goal.returns
returns c same attribute defined =
    let equations = c.args.production.now.equations in
    none_given c.args.production.now (λ e listed. let (k, at) = place_of equations e listed in
    each_in c.as_slice-equation-items.result.now (λ (z : Equation). is_forward z.target ≡ false) equations
    c.as_slice-equation-items.ensures c.equations.equation-index c.equations-test.false c.equations.invariant k e at) attribute defined
