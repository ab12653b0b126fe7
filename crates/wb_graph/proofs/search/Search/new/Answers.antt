use Rattle.std.proofs.Common.{◌≡◌, replicate}
use Rattle.wb_graph.specs.declared.search.Colour.TheVariants.{White}
use Rattle.wb_graph.proofs.SearchLemmas.{started}
use Rattle.wb_graph.proofs.search.Search.new.Goals as goal

pub returns-clause-search : goal.returns-clause-search
returns-clause-search c =
    let made = c.in_ok-untaken.untaken in
    let white : c.in_ok-colours.colours.items ≡ replicate c.args.count White = c.in_ok-colours.ensures.items_if_clones_equal (λ y same. same) in
    rw (white, c.new-2.ensures.items, c.new-3.ensures.items)
    (started c.args.edges.now c.args.count made.firsts.items made.links.items c.requires c.in_ok-untaken.ensures.linked c.in_ok-untaken.ensures.len
    c.in_ok-untaken.ensures.nothing)
