-- All vertices are met, so that all are closed.
use Rattle.std.proofs.Common.{All, arith, sym, subst}
use Rattle.wb_graph.specs.Inner.Groups.{state_of, IsClosedMark, AreNumbers}
use Rattle.wb_graph.proofs.ComponentLemmas.{all_closed, are_components}
use Rattle.wb_graph.proofs.strongly_connected.components_by.Goals as goal

pub numbers_of-requires : goal.numbers_of-requires
numbers_of-requires c =
    let h = c.roots.invariant in
    subst (All IsClosedMark) (sym c.deref.ensures.value)
    (all_closed c.args.edges.now (state_of c.roots.groups) h.grouping h.path (λ v less. h.met v (omega (arith, h.len))))

pub returns : goal.returns
returns c =
    let h = c.roots.invariant in
    rw c.replace-roots.ensures.value
    (are_components c.args.edges.now (state_of c.roots.groups) h.grouping h.path (λ v less. h.met v (omega (arith, h.len))) c.args.count
    c.in_ok-numbers.numbers.items h.len
    (subst (λ marks. AreNumbers c.in_ok-numbers.numbers.items marks) c.deref.ensures.value c.in_ok-numbers.ensures))
