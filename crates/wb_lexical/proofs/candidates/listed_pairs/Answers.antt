use Rattle.std.proofs.Common.{[], arith, sym, subst}
use Rattle.wb_lexical.specs.Inner.Candidates.{Lists}
use Rattle.wb_lexical.proofs.CandidateLemmas.{RowsBelow, rows_all, rows_first, rows_more}
use Rattle.wb_lexical.proofs.candidates.listed_pairs.Goals as goal

pub terminals-init : goal.terminals-init
terminals-init c = subst (Lists (RowsBelow c.args.compared.now 0) []) (sym c.new-pairs.ensures.items) (rows_first c.args.compared.now)

pub terminals-preserved : goal.terminals-preserved
terminals-preserved c =
    rows_more c.args.compared.now c.terminals.left c.terminals.pairs.items c.add_pairs.new.pairs.items c.terminals.invariant
    c.in_ok-add_pairs.ensures

pub returns : goal.returns
returns c =
    rows_all c.args.compared.now c.terminals.left c.terminals.pairs.items (omega (arith, c.terminals-test.false)) c.terminals.invariant
