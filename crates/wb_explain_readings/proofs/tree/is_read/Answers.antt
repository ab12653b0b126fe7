use Rattle.std.proofs.Common.{◌≤◌, length, arith}
use Rattle.wb_explain_readings.proofs.FrameLemmas.{holds_start}
use Rattle.wb_explain_readings.proofs.StepLemmas.{begun, read_all}
use Rattle.wb_explain_readings.proofs.tree.is_read.Goals as goal

pub pieces-init : goal.pieces-init
pieces-init c = begun c.args.grammar.now c.args.stack.now c.args.pieces.now c.requires

pub returns : goal.returns
returns c = λ is.
    let g = c.args.grammar.now in
    let pieces = c.args.pieces.now in
    let ended : length pieces ≤ c.pieces.after = omega (arith, c.pieces-test.false) in
    holds_start g c.pieces.stack pieces (read_all g c.pieces.stack pieces c.pieces.after ended c.pieces.invariant) (c.is_start.ensures is)
