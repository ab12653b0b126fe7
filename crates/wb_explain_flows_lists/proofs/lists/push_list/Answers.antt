use Rattle.wb_explain_flows_lists.proofs.TextLemmas.{lists_all}
use Rattle.wb_explain_flows_lists.proofs.lists.push_list.Goals as goal

pub returns : goal.returns
returns g c =
    lists_all (g.T.Listed.IsText c.args.told.now.scope.now.attributes.now) c.args.found.now c.first_of.result.now c.args.out.now.items _
    c.extend_from_slice.new.self.items c.push_each.new.out.items c.extend_from_slice-2.new.self.items c.args.rest.now c.first_of.ensures
    c.in_ok-extend_from_slice.ensures.items c.in_ok-push_each.ensures c.in_ok-extend_from_slice-2.ensures.items
