use Rattle.std.proofs.Common.{sym, subst}
use Rattle.wb_lemmas.proofs.Members.{nothing_in}
use Rattle.wb_explain_flows_lists.specs.Held.{AreUnheld}
use Rattle.wb_explain_flows_lists.proofs.held.all_unheld.Goals as goal

pub returns-in-Ok : goal.returns-in-Ok
returns-in-Ok c =
    c.in-Ok.ensures (subst (AreUnheld c.args.scope.now.attributes.now) (sym c.new-found.ensures.items) (λ u has. absurd (nothing_in u has)))
