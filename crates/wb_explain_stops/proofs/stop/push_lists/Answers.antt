use Rattle.wb_explain_stops.proofs.EntryLemmas.{lists_all}
use Rattle.wb_explain_stops.proofs.stop.push_lists.Goals as goal

pub returns : goal.returns
returns c =
    lists_all c.args.names.now c.args.terminals.now c.first_of.result.now c.args.out.now.items c.extend_from_slice.new.self.items
    c.push_entries.new.out.items c.extend_from_slice-2.new.self.items c.args.rest.now c.first_of.ensures
    c.in_ok-extend_from_slice.ensures.items c.in_ok-push_entries.ensures c.in_ok-extend_from_slice-2.ensures.items
