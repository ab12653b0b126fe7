use Rattle.std.proofs.Common.{refl}
use Rattle.std.proofs.lemmas.List.Elements.{Contains-get_or}
use Rattle.wb_base.specs.declared.symbol.Symbol.TheVariants.{Terminal}
use Rattle.wb_items.specs.declared.transitions.Move.{Move}
use Rattle.wb_digraph.proofs.ReadLemmas.{reads_same, reads_then, row_all, row_more}
use Rattle.wb_digraph.proofs.reads.add_reads.Goals as goal

-- what rows are read with beyond their end
abbrev no_move : Move
no_move = record { symbol = Terminal 0; state = 0 }

pub add_read-requires-clause-step : goal.add_read-requires-clause-step
add_read-requires-clause-step c =
    (c.moves-row.ensures.exact _ _).0 (Contains-get_or c.moves-row.result.now c.row.step-index no_move c.row-test.true)

pub row-preserved : goal.row-preserved
row-preserved c =
    reads_then c.args.edges.now.items c.row.edges.items c.add_read.new.edges.items c.row.invariant c.in_ok-add_read.ensures
    (λ v. row_more c.args.context.now.kernels.now c.moves-row.result.now c.row.step-index no_move _ v c.row-test.true refl)

pub returns : goal.returns
returns c =
    reads_same c.args.edges.now.items c.row.edges.items c.row.invariant
    (λ v. row_all c.args.context.now.kernels.now c.moves-row.result.now c.args.state c.row.step-index v c.moves-row.ensures.exact c.row-test.false)
