use Rattle.std.proofs.Common.{◌≡◌, subst, sym}
use Rattle.wb_compose_files.specs.Hosts.{CertifiedView}
use Rattle.wb_explain_values.proofs.certified.add_all.Goals as goal

pub add-requires : goal.add-requires
add-requires g c =
    subst (λ (h : CertifiedView). h.operations ≡ c.args.operations.now.signatures) (sym c.files.invariant) c.requires
