use Rattle.std.proofs.Common.{◌≡◌, replicate}
use Rattle.wb_graph.specs.declared.groups.Mark.TheVariants.{New}
use Rattle.wb_graph.proofs.GroupLemmas.{begun}
use Rattle.wb_graph.proofs.groups.Groups.new.Goals as goal

pub returns-clause-grouping : goal.returns-clause-grouping
returns-clause-grouping c =
    let made = c.in_ok-untaken.untaken in
    let new : c.in_ok-marks.marks.items ≡ replicate c.args.count New = c.in_ok-marks.ensures.items_if_clones_equal (λ y same. same) in
    rw (new, c.new-2.ensures.items, c.new-3.ensures.items, c.new-4.ensures.items, c.new-5.ensures.items)
    (begun c.args.edges.now c.args.count made.firsts.items made.links.items c.requires c.in_ok-untaken.ensures.linked
    c.in_ok-untaken.ensures.len c.in_ok-untaken.ensures.nothing)
