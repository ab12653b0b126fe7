use Rattle.std.proofs.lemmas.Result.{IfOk-weaker}
use Rattle.wb_certify_parts.specs.Kept.{AreKeptParts, ArePartsBeside}
use Rattle.wb_certify_parts.proofs.PartLemmas.{kept_parts}
use Rattle.wb_certify_parts.proofs.parts.extension_parts.Goals as goal

pub returns : goal.returns
returns c =
    let e = c.args.extension.now in
    let host = c.in_ok-host.host in
    IfOk-weaker c.parts_beside-made.result (ArePartsBeside e.resolved host) (AreKeptParts e.host e.resolved)
    (kept_parts e.host e.resolved host c.in_ok-host.ensures) c.parts_beside-made.ensures
