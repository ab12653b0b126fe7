use Rattle.std.proofs.Common.{◌≡◌, true, sym, subst}
use Rattle.std.specs.Prelude.{◌↔◌}
use Rattle.wb_recheck_entries.specs.Texts.{IsHeadOf}
use Rattle.wb_recheck_entries.proofs.owner.is_head_of.Goals as goal

pub returns-in-Host : goal.returns-in-Host
returns-in-Host c = subst (λ z. (c.is_host.result ≡ true) ↔ IsHeadOf z c.args.head.now) (sym c.in-Host.is) c.is_host.ensures

pub returns-in-Extension : goal.returns-in-Extension
returns-in-Extension c =
    subst (λ z. (c.is_extension.result ≡ true) ↔ IsHeadOf z c.args.head.now) (sym c.in-Extension.is) c.is_extension.ensures
