use Rattle.std.proofs.Common.{take}
use Rattle.wb_digraph.specs.Inner.Links.{AddsReads}
use Rattle.wb_digraph.proofs.ReadLemmas.{ReadsIn}
use Rattle.wb_digraph.proofs.reads.add_reads.Given as goal

abbrev pub invariant-row : goal.invariant-row
invariant-row l = AddsReads (ReadsIn l.context.kernels.now (take l.step-index l.row)) l.state l.initial.edges.items l.edges.items
