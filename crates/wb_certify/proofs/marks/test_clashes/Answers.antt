use Rattle.std.proofs.Common.{rules}
use Rattle.wb_marking.specs.Refusals.{IsNoMemory}
use Rattle.wb_certify.proofs.MarkLemmas.{clash_refused, markers_kept}
use Rattle.wb_certify.proofs.marks.test_clashes.Goals as goal

pub returns-in-Ok-clause-ok : goal.returns-in-Ok-clause-ok
returns-in-Ok-clause-ok c = markers_kept c.args.resolved.now c.requires.bridges c.in-Ok.ensures.ok

pub returns-in-Err-clause-refused : goal.returns-in-Err-clause-refused
returns-in-Err-clause-refused c =
    let other : ¬ IsNoMemory c.in-Err.refusal = search rules in
    clash_refused c.args.resolved.now c.in-Err.refusal other c.requires.bridges c.requires.acyclic c.in-Err.ensures.refused
