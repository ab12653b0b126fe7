use Rattle.wb_explain_conflicts.proofs.LineLemmas.{lines_of}
use Rattle.wb_explain_conflicts.proofs.shown.push_found.Goals as goal

pub returns : goal.returns
returns c =
    lines_of c.extend_from_slice-3.result c.args.resolved.now c.args.shown.now.found.now c.args.out.now.items c.push_heading.new.out.items
    c.push_text.new.out.items c.extend_from_slice.new.self.items c.push_tree.new.out.items c.extend_from_slice-2.new.self.items
    c.push_tree-2.new.out.items c.extend_from_slice-3.new.self.items c.as_slice.result.now c.as_slice-2.result.now c.as_slice-3.result.now
    c.as_slice.ensures c.as_slice-2.ensures c.as_slice-3.ensures c.in_ok-push_heading.ensures c.in_ok-push_text.ensures
    c.in_ok-extend_from_slice.ensures.items c.in_ok-push_tree.ensures c.in_ok-extend_from_slice-2.ensures.items
    c.in_ok-push_tree-2.ensures c.extend_from_slice-3.ensures.items
