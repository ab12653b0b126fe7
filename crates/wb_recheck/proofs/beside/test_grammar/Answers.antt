use Rattle.wb_recheck.proofs.ExtensionLemmas.{beside, found_beside, later_beside}
use Rattle.wb_recheck.proofs.beside.test_grammar.Goals as goal

pub test_marked-requires : goal.test_marked-requires
test_marked-requires c =
    beside c.args.host.now c.args.resolved.now c.parts.result.now c.args.certificate.now c.requires c.parts.ensures.certified
    c.parts.ensures.parts

pub returns-in-Ok-clause-ok : goal.returns-in-Ok-clause-ok
returns-in-Ok-clause-ok c =
    found_beside c.args.host.now c.args.resolved.now c.parts.result.now c.args.certificate.now c.requires c.parts.ensures.certified
    c.parts.ensures.parts c.in-Ok.ensures.ok c.in-Ok.ensures.certificate

pub returns-in-Err-clause-refused : goal.returns-in-Err-clause-refused
returns-in-Err-clause-refused c =
    later_beside c.args.host.now c.args.resolved.now c.parts.result.now c.args.certificate.now c.requires c.parts.ensures.certified
    c.parts.ensures.parts c.in-Err.refusal c.in-Err.ensures.refused
