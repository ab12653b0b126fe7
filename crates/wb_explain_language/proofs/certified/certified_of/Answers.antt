-- The first contents are the host, and the others its extensions.
use Rattle.std.proofs.Common.{◌≡◌, ◌-◌, ◌∷◌, ℕ, List, length, take, drop, arith, subst}
use Rattle.wb_compose_files.specs.HostContents.{IsHostText}
use Rattle.wb_explain_language.specs.Inner.Added.{HasAdded}
use Rattle.wb_explain_language.specs.Languages.{AreCertifiedIn}
use Rattle.wb_explain_language.proofs.AddedLemmas.{certified_in, on_some, one_and_more}
use Rattle.wb_explain_language.proofs.certified.certified_of.Goals as goal

pub returns-in-Ok : goal.returns-in-Ok
returns-in-Ok g c =
    let operations = c.args.operations.now.signatures in
    let all = c.args.files.now in
    let rest = take (length all - 1) (drop 1 all) in
    let files_are : all ≡ c.host-item.result ∷ rest = one_and_more all c.host-item.result (omega arith) c.host-item.is in
    let host_text : IsHostText operations c.host-item.result c.in-Ok.certified.host.resolved =
    subst (λ (x : List ℕ). IsHostText operations x c.in-Ok.certified.host.resolved) c.as_slice.ensures c.in-Ok.ensures.host in
    on_some c.extended.result (HasAdded operations c.in-Ok.certified.host rest) (AreCertifiedIn operations all)
    (λ made added. certified_in operations all c.host-item.result rest c.in-Ok.certified made files_are host_text added) c.extended.ensures
