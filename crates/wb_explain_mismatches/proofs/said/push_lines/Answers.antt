use Rattle.wb_explain_mismatches.specs.Said.{IsSaid}
use Rattle.wb_explain_mismatches.proofs.SaidLemmas.{is_said, on_ok}
use Rattle.wb_explain_mismatches.proofs.said.push_lines.Goals as goal

pub returns : goal.returns
returns c =
    let a = c.args.world.now.attributes.now in
    let operations = c.args.world.now.operations.now in
    let claim = c.args.claim.now in
    on_ok c.push_after.result _
    (IsSaid a operations claim.role.now claim.wanted claim.found c.args.out.now.items c.push_after.new.out.items)
    (is_said a operations claim.role.now claim.wanted claim.found c.args.steps.now c.args.out.now.items c.args.before.now
    c.extend_from_slice.new.self.items c.push_mismatch_said.new.out.items c.push_steps.new.out.items c.push_after.new.out.items
    c.requires c.in_ok-extend_from_slice.ensures.items c.in_ok-push_mismatch_said.ensures c.in_ok-push_steps.ensures)
    c.push_after.ensures
