use Rattle.std.proofs.Common.{◌≡◌, []}
use Rattle.wb_flow.specs.Inner.Adding.{SomeBefore}
use Rattle.wb_flow.specs.Adding.{Adds}
use Rattle.wb_flow.specs.Rules.{target_of}
use Rattle.wb_flow.specs.declared.vertex.Vertex.{Vertex}
use Rattle.wb_syntax_resolved.specs.declared.equation.Equation.{Equation}
use Rattle.wb_flow.proofs.rules.defined_vertices.Given as goal

abbrev pub invariant-equations : goal.invariant-equations
invariant-equations l =
    Adds [] l.vertices (SomeBefore l.equation-items l.equation-index (λ (e : Equation) (v : Vertex). v ≡ target_of e.target))
