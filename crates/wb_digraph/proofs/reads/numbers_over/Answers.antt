use Rattle.std.proofs.Common.{ℕ, sym, subst}
use Rattle.std.specs.Prelude.{◌↔◌}
use Rattle.wb_graph.specs.Graphs.{IsEdge}
use Rattle.wb_digraph.specs.Inner.Links.{ReadsOn}
use Rattle.wb_digraph.proofs.HeldLemmas.{held_reads, reads_below}
use Rattle.wb_digraph.proofs.reads.numbers_over.Goals as goal

pub spread-requires-clause-edges : goal.spread-requires-clause-edges
spread-requires-clause-edges c =
    reads_below c.args.context.now.kernels.now c.deref.result.now _ c.requires.shifts.len
    (subst (λ z. (u v : ℕ) → IsEdge z u v ↔ ReadsOn c.args.context.now.kernels.now u v) (sym c.deref.ensures.value) c.in_ok-edges.ensures)

pub returns-clause-reads : goal.returns-clause-reads
returns-clause-reads c =
    held_reads c.args.context.now.kernels.now c.deref.result.now c.args.shifts.now c.in_ok-reads.reads.items c.args.pool.now c.spread.new.pool c.requires.shifts
    (subst (λ z. (u v : ℕ) → IsEdge z u v ↔ ReadsOn c.args.context.now.kernels.now u v) (sym c.deref.ensures.value) c.in_ok-edges.ensures) c.in_ok-reads.ensures.spread
