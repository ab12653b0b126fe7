use Rattle.wb_explain_mismatches.specs.Inner.Saying.{MaySayCount}
use Rattle.wb_explain_mismatches.proofs.SaidLemmas.{count_may, on_ok}
use Rattle.wb_explain_mismatches.proofs.mismatch.push_arity_in.Goals as goal

pub returns-in-Some : goal.returns-in-Some
returns-in-Some c =
    let a = c.args.world.now.attributes.now in
    let operations = c.args.world.now.operations.now in
    let e = c.args.expected.now in
    let (node, has, wrong) = c.in-Some.ensures in
    on_ok c.push_count_at.result _ (MaySayCount a operations e.offset c.args.out.now.items c.push_count_at.new.out.items)
    (count_may a operations e.offset e.production.now e.nodes.now e.kind c.requires.listed c.requires.expected node c.in-Some.found.takes
    c.args.out.now.items c.push_count_at.new.out.items wrong)
    (c.push_count_at.ensures node has)
