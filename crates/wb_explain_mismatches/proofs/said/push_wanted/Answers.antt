use Rattle.wb_explain_mismatches.specs.Said.{role_said, wanted_kind_said}
use Rattle.wb_explain_mismatches.proofs.SaidLemmas.{on_ok, two_pieces}
use Rattle.wb_explain_mismatches.proofs.said.push_wanted.Goals as goal

pub returns : goal.returns
returns c =
    on_ok c.push_role.result _ _
    (two_pieces c.args.out.now.items (wanted_kind_said c.args.attributes.now c.args.wanted) (role_said c.args.role.now)
    c.push_wanted_kind.new.out.items c.push_role.new.out.items c.in_ok-push_wanted_kind.ensures)
    c.push_role.ensures
