use Rattle.wb_explain_mismatches.specs.Said.{found_said, wanted_said}
use Rattle.wb_explain_mismatches.proofs.SaidLemmas.{on_ok, two_pieces}
use Rattle.wb_explain_mismatches.proofs.said.push_mismatch_said.Goals as goal

pub returns : goal.returns
returns c =
    let a = c.args.attributes.now in
    let claim = c.args.claim.now in
    on_ok c.push_found.result _ _
    (two_pieces c.args.out.now.items (wanted_said a claim.role.now claim.wanted) (found_said a claim.found) c.push_wanted.new.out.items
    c.push_found.new.out.items c.in_ok-push_wanted.ensures)
    c.push_found.ensures
