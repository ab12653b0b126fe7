use Rattle.std.proofs.Common.{ap, is_some}
use Rattle.wb_explain_flows_lists.proofs.MissingLemmas.{forwards_lacks}
use Rattle.wb_explain_flows_lists.proofs.missing.add_of.Goals as goal

pub returns-in-Some : goal.returns-in-Some
returns-in-Some c =
    forwards_lacks c.args.scope.now.attributes.now c.args.number c.args.production.now c.args.found.now.items (ap is_some c.in-Some.is)
