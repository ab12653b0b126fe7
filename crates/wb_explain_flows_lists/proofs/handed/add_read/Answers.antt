use Rattle.std.proofs.Common.{get_or}
use Rattle.std.proofs.lemmas.Option.{slice_get-get_or}
use Rattle.wb_lemmas.proofs.Members.{contains_at}
use Rattle.wb_explain_flows_lists.proofs.LackLemmas.{keeps_both, keeps_read}
use Rattle.wb_explain_flows_lists.proofs.handed.add_read.Goals as goal

pub returns-in_default : goal.returns-in_default
returns-in_default c = λ before. before

pub inherited-init : goal.inherited-init
inherited-init c = λ before. before

pub inherited-preserved : goal.inherited-preserved
inherited-preserved c =
    let a = c.args.spot.now.scope.now.attributes.now in
    let row = c.needs-inherited-items.result.now in
    let i = get_or row c.inherited.inherited-index 0 in
    let listed = contains_at row i c.inherited.inherited-index (slice_get-get_or row c.inherited.inherited-index 0 c.inherited-test.true) in
    keeps_both a c.args.found.now.items c.inherited.found.items c.add_one.new.found.items c.inherited.invariant
    (keeps_read c.args.spot.now c.requires.spot c.args.at c.args.label c.args.attribute c.in-Some.nonterminal i c.requires.read
    c.in-Some.ensures ((c.needs-inherited-items.ensures i).0 listed) c.below-reader.result c.below.result c.below-reader.ensures
    c.below.ensures c.inherited.found.items c.add_one.new.found.items c.in_ok-add_one.ensures)
