use Rattle.std.proofs.Common.{rules}
use Rattle.wb_certify_files.specs.Inner.RefusedHosts.{IsCertifyMemory}
use Rattle.wb_certify_files.proofs.ShownHosts.{value_shown}
use Rattle.wb_certify_files.proofs.HostLemmas.{shown_refused}
use Rattle.wb_certify_files.proofs.host_contents.certified.Goals as goal

pub bad_value-shown-requires : goal.bad_value-shown-requires
bad_value-shown-requires g c =
    let other : ¬ IsCertifyMemory c.in-Err.refusal = search rules in
    value_shown c.args.resolved.now c.args.operations.now.signatures c.in-Err.refusal c.in-Err.ensures.refused other

pub returns-in-Err-clause-refused : goal.returns-in-Err-clause-refused
returns-in-Err-clause-refused g c = λ contents stands.
    shown_refused c.args.resolved.now c.in-Err.refusal c.args.operations.now.signatures contents stands c.in-Err.ensures.refused
    c.bad_value-shown.result c.bad_value-shown.ensures
