use Rattle.std.proofs.Common.{sym, subst}
use Rattle.wb_grammar.specs.declared.occurrence.Occurrence.TheVariants.{Any}
use Rattle.wb_grammar.specs.Inner.Edges.{AreEdges}
use Rattle.wb_grammar.proofs.ReducedLemmas.{unreachable_found}
use Rattle.wb_grammar.proofs.reduced.unreachable_in.Goals as goal

pub returns : goal.returns
returns c =
    let g = c.args.grammar.now in
    unreachable_found g c.args.nullable.now c.deref.result.now c.deref-2.result.now c.nonterminals.result c.start.result
    c.first_unset.result c.nonterminals.ensures c.start.ensures.start
    (subst (AreEdges Any g c.args.nullable.now) (sym c.deref.ensures.value) c.in_ok-edges.ensures.exact)
    (rw c.deref-2.ensures.value c.in_ok-reached.ensures) c.first_unset.ensures
