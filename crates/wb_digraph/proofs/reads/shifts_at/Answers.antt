use Rattle.std.proofs.Common.{◌∙◌, refl}
use Rattle.std.proofs.lemmas.List.Elements.{Contains-get_or}
use Rattle.wb_base.specs.declared.symbol.Symbol.TheVariants.{Terminal}
use Rattle.wb_items.specs.declared.transitions.Move.{Move}
use Rattle.wb_digraph.proofs.BackLemmas.{leads_below}
use Rattle.wb_digraph.proofs.ReadLemmas.{shifts_all, shifts_more}
use Rattle.wb_digraph.proofs.reads.shifts_at.Goals as goal

-- what rows are read with beyond their end
abbrev no_move : Move
no_move = record { symbol = Terminal 0; state = 0 }

pub add_symbol-requires-clause-symbol : goal.add_symbol-requires-clause-symbol
add_symbol-requires-clause-symbol c =
    leads_below c.requires.context.are_kernels c.requires.context.in_range c.args.state _ _
    ((c.moves-row.ensures.exact _ _).0 (Contains-get_or c.moves-row.result.now c.row.step-index no_move c.row-test.true))

pub row-preserved : goal.row-preserved
row-preserved c = record {
  width = c.add_symbol.ensures.width ∙ c.row.invariant.width;
  members = shifts_more c.moves-row.result.now c.row.step-index no_move _ c.row.set c.add_symbol.new.set c.row-test.true refl
      c.add_symbol.ensures.members c.row.invariant.members;
}

pub returns-clause-members : goal.returns-clause-members
returns-clause-members c =
    shifts_all c.args.context.now.kernels.now c.moves-row.result.now c.args.state c.row.step-index c.row.set c.moves-row.ensures.exact c.row-test.false
    c.row.invariant.members
