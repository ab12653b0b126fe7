use Rattle.std.proofs.Common.{rules}
use Rattle.wb_certify.specs.Inner.Tests.{IsPlainMemory}
use Rattle.wb_certify.proofs.ValueLemmas.{made_beside, not_found, of_host, parts_beside, start_is}
use Rattle.wb_certify.proofs.value.check_determinism.Goals as goal

pub determinism_beside-requires-clause-grammar : goal.determinism_beside-requires-clause-grammar
determinism_beside-requires-clause-grammar c =
    start_is c.args.host.now c.args.resolved.now c.parts-2.result.now c.requires c.parts-2.ensures.certified c.parts-2.ensures.parts

pub determinism_beside-requires-clause-host : goal.determinism_beside-requires-clause-host
determinism_beside-requires-clause-host c =
    parts_beside c.args.host.now c.args.resolved.now c.parts-2.result.now c.requires c.parts-2.ensures.certified c.parts-2.ensures.parts

pub determinism_beside-requires-clause-of_host : goal.determinism_beside-requires-clause-of_host
determinism_beside-requires-clause-of_host c =
    of_host c.args.host.now c.args.resolved.now c.parts-2.result.now c.requires c.parts-2.ensures.certified c.parts-2.ensures.parts
    c.parts.ensures.whole

pub returns-in-Ok-clause-ok : goal.returns-in-Ok-clause-ok
returns-in-Ok-clause-ok c =
    made_beside c.args.host.now c.args.resolved.now c.parts-2.result.now c.requires c.parts-2.ensures.certified c.parts-2.ensures.parts
    c.in-Ok.ensures.ok

pub returns-in-Err-clause-refused : goal.returns-in-Err-clause-refused
returns-in-Err-clause-refused c =
    let plain : ¬ IsPlainMemory c.in-Err.refusal = search rules in
    not_found c.args.host.now c.args.resolved.now c.parts-2.result.now c.requires c.parts-2.ensures.certified c.parts-2.ensures.parts
    c.in-Err.refusal c.in-Err.ensures.refused plain
