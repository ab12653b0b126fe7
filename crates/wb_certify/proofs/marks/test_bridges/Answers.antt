use Rattle.std.proofs.Common.{rules}
use Rattle.wb_marking.specs.Refusals.{IsNoMemory}
use Rattle.wb_marking.specs.Bridges.{AreBridges}
use Rattle.wb_certify.proofs.BesideLemmas.{with_some}
use Rattle.wb_certify.proofs.MarkLemmas.{bridge_refused}
use Rattle.wb_certify.proofs.marks.test_bridges.Goals as goal

pub returns-in-Ok-clause-ok : goal.returns-in-Ok-clause-ok
returns-in-Ok-clause-ok c = with_some c.args.resolved.now.grammar (AreBridges c.args.resolved.now) c.in-Ok.ensures.ok

pub returns-in-Err-clause-refused : goal.returns-in-Err-clause-refused
returns-in-Err-clause-refused c =
    let other : ¬ IsNoMemory c.in-Err.refusal = search rules in
    bridge_refused c.args.resolved.now c.in-Err.refusal other c.in-Err.ensures.refused
