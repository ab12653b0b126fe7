use Rattle.std.proofs.Common.{rules, get_or}
use Rattle.wb_explain_stops.proofs.EntryLemmas.{all_entries, no_entries, one_entry}
use Rattle.wb_explain_stops.proofs.entry.push_entries.Goals as goal

pub terminals-init : goal.terminals-init
terminals-init c = no_entries c.args.names.now c.args.terminals.now c.args.out.now.items

pub terminals-preserved : goal.terminals-preserved
terminals-preserved c =
    one_entry c.args.names.now c.args.terminals.now c.args.out.now.items c.terminals.out.items c.push_entry.new.out.items
    c.terminals.terminal-index (get_or c.args.terminals.now c.terminals.terminal-index 0) c.terminals.invariant c.terminals-test.true
    (search rules) c.in_ok-push_entry.ensures

pub returns : goal.returns
returns c =
    all_entries c.args.names.now c.args.terminals.now c.args.out.now.items c.terminals.out.items c.terminals.terminal-index
    c.terminals.invariant c.terminals-test.false
