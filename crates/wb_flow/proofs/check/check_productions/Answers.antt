use Rattle.std.proofs.Common.{length, subst}
use Rattle.wb_flow.specs.Inner.Sources.{KnowsCycle}
use Rattle.wb_flow.proofs.CheckLemmas.{cycle_refused, flows_ok, keep_to_all, reads_refused}
use Rattle.wb_flow.proofs.check.check_productions.Goals as goal

pub returns-in-Some-clause-refused : goal.returns-in-Some-clause-refused
returns-in-Some-clause-refused c =
    let a = c.args.scope.now.attributes.now in
    cycle_refused a c.requires.forward_needs (keep_to_all a c.in-Ok.ensures.ok.0) c.in-Some.refusal
    (subst (KnowsCycle a (length a.productions)) c.in-Some.is c.in-Ok.ensures.ok.1)

pub returns-in-None-clause-ok : goal.returns-in-None-clause-ok
returns-in-None-clause-ok c =
    let a = c.args.scope.now.attributes.now in
    flows_ok a c.requires.forward_needs c.in-Ok.ensures.ok.0 (subst (KnowsCycle a (length a.productions)) c.in-None.is c.in-Ok.ensures.ok.1)

pub returns-in-Err-clause-refused : goal.returns-in-Err-clause-refused
returns-in-Err-clause-refused c =
    reads_refused c.args.scope.now.attributes.now c.requires.forward_needs c.in-Err.refusal c.in-Err.ensures.refused
