use Rattle.std.proofs.Common.{sym, subst}
use Rattle.wb_grammar.specs.declared.occurrence.Occurrence.TheVariants.{LeftCorner, HiddenLeft}
use Rattle.wb_grammar.specs.Inner.Edges.{AreEdges}
use Rattle.wb_grammar.proofs.HiddenTestLemmas.{no_hidden, path_cycle, path_differ, hidden_corners}
use Rattle.wb_grammar.proofs.hidden_left_recursion.test_hidden_left_recursion.Goals as goal

pub returns-in-None-clause-ok : goal.returns-in-None-clause-ok
returns-in-None-clause-ok c =
    let g = c.args.grammar.now in
    let s = c.args.nullable.now in
    let none = rw c.in-None.is at c.in_ok-cycle_through.ensures in
    no_hidden g s c.deref.result.now c.deref-2.result.now c.requires.nullable
    (subst (AreEdges LeftCorner g s) (sym c.deref.ensures.value) c.in_ok-corners.ensures.exact)
    (subst (AreEdges HiddenLeft g s) (sym c.deref-2.ensures.value) c.in_ok-hidden.ensures.exact) none

pub returns-clause-refused : goal.returns-clause-refused
returns-clause-refused c =
    let g = c.args.grammar.now in
    let s = c.args.nullable.now in
    let cycle = rw c.in-Some.is at c.in_ok-cycle_through.ensures in (
      c.requires.reduced,
      c.requires.no_unit_cycle,
      rw c.from_vec.ensures
          (path_cycle g s c.deref.result.now c.deref-2.result.now c.in-Some.cycle.items c.requires.nullable
          (subst (AreEdges LeftCorner g s) (sym c.deref.ensures.value) c.in_ok-corners.ensures.exact)
          (subst (AreEdges HiddenLeft g s) (sym c.deref-2.ensures.value) c.in_ok-hidden.ensures.exact) cycle),
      rw c.from_vec.ensures (path_differ cycle.3),
    )

pub cycle_through-requires-clause-within : goal.cycle_through-requires-clause-within
cycle_through-requires-clause-within c a b h =
    let g = c.args.grammar.now in
    let s = c.args.nullable.now in
    hidden_corners g s c.deref.result.now c.deref-2.result.now
    (subst (AreEdges LeftCorner g s) (sym c.deref.ensures.value) c.in_ok-corners.ensures.exact)
    (subst (AreEdges HiddenLeft g s) (sym c.deref-2.ensures.value) c.in_ok-hidden.ensures.exact) a b h
