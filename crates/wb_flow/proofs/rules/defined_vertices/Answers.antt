use Rattle.std.proofs.Common.{[], ◌≤◌, ◌≡◌, length, sym, subst, arith}
use Rattle.wb_flow.specs.Inner.Adding.{SomeBefore, SomeOf}
use Rattle.wb_flow.specs.Adding.{Adds}
use Rattle.wb_flow.specs.Rules.{target_of}
use Rattle.wb_flow.specs.declared.vertex.Vertex.{Vertex}
use Rattle.wb_syntax_resolved.specs.declared.equation.Equation.{Equation}
use Rattle.wb_flow.proofs.AddingLemmas.{adds_start, adds_more, adds_all, adds_to_nothing, read_item}
use Rattle.wb_flow.proofs.KindLemmas.{defined_all}
use Rattle.wb_flow.proofs.rules.defined_vertices.Goals as goal

pub equations-init : goal.equations-init
equations-init c =
    let P = λ (e : Equation) (v : Vertex). v ≡ target_of e.target in
    subst (λ z. Adds [] z (SomeBefore c.as_slice-equation-items.result.now 0 P)) (sym c.new-vertices.ensures)
    (adds_start [] c.as_slice-equation-items.result.now P)

pub equations-preserved : goal.equations-preserved
equations-preserved c =
    let e = c.equation-item.result in
    adds_more [] c.equations.vertices c.add.new.self c.as_slice-equation-items.result.now
    (λ (e : Equation) (v : Vertex). v ≡ target_of e.target) c.equations.equation-index e
    (read_item c.as_slice-equation-items.result.now c.equations.equation-index e c.equations-test.true c.equation-item.is)
    c.equations.invariant
    (subst (λ (z : Vertex). Adds c.equations.vertices c.add.new.self (λ v. v ≡ z)) c.defined.ensures c.in_ok-add.ensures)

pub returns : goal.returns
returns c =
    let items = c.as_slice-equation-items.result.now in
    let P = λ (e : Equation) (v : Vertex). v ≡ target_of e.target in
    let ended : length items ≤ c.equations.equation-index = omega arith in
    defined_all c.args.production.now items c.as_slice-equation-items.ensures c.equations.vertices
    (adds_to_nothing c.equations.vertices (SomeOf items P)
    (adds_all [] c.equations.vertices items P c.equations.equation-index ended c.equations.invariant))
