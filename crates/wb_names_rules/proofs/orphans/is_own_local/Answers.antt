use Rattle.std.proofs.Common.{Bool, drop, sym, subst}
use Rattle.std.specs.Prelude.{IsTrue, ◌↔◌}
use Rattle.std.proofs.lemmas.Result.{IfOk-weaker}
use Rattle.wb_names_theory.specs.declared.declaration.Site.{Site}
use Rattle.wb_names_theory.specs.Orphan.{IsOwnLocal}
use Rattle.wb_names_rules.specs.Inner.Owners.{HasOwnLocal}
use Rattle.wb_names_rules.proofs.orphans.is_own_local.Goals as goal

pub returns-in-Label : goal.returns-in-Label
returns-in-Label c =
    IfOk-weaker c.is_own_label.result
    (λ (b : Bool). IsTrue b ↔ HasOwnLocal (drop c.args.from c.args.index.now) c.args.production.now c.in-Label.label)
    (λ (b : Bool). IsTrue b ↔ IsOwnLocal (drop c.args.from c.args.index.now) c.args.production.now c.args.site.now)
    (λ b exact. subst (λ (z : Site). IsTrue b ↔ IsOwnLocal (drop c.args.from c.args.index.now) c.args.production.now z) (sym c.in-Label.is) exact)
    c.is_own_label.ensures
