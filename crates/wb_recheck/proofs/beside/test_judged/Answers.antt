use Rattle.std.proofs.lemmas.Option.{IfSome_then}
use Rattle.wb_certify.proofs.DeterminismLemmas.{clear_beside}
use Rattle.wb_recheck.proofs.ExtensionLemmas.{judged_beside}
use Rattle.wb_recheck.proofs.HostLemmas.{ready}
use Rattle.wb_recheck.proofs.beside.test_judged.Goals as goal

pub judge_extension-requires-clause-ready : goal.judge_extension-requires-clause-ready
judge_extension-requires-clause-ready c =
    ready c.args.resolved.now c.args.grammar c.args.facts.now c.args.looked.kernels c.args.looked.lookaheads c.args.resolved.now.grammar
    c.requires.facts c.requires.kernels c.requires.lookaheads

pub returns-in-Ok-clause-ok : goal.returns-in-Ok-clause-ok
returns-in-Ok-clause-ok c =
    clear_beside c.args.resolved.now c.args.host.now.grammar c.requires.markers
    (IfSome_then c.args.resolved.now.grammar c.in-Ok.ensures.ok (λ g is. is.0))

pub returns-in-Err-clause-refused : goal.returns-in-Err-clause-refused
returns-in-Err-clause-refused c = λ text certificate.
    judged_beside c.args.resolved.now text c.args.host.now.grammar c.requires.markers c.in-Err.refusal c.of_determinism.result
    c.of_determinism.ensures c.requires.beside.grammar c.in-Err.ensures.refused certificate
