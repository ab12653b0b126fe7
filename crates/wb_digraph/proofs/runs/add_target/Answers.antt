use Rattle.std.proofs.Common.{◌≡◌, ◌<◌, length, arith}
use Rattle.std.proofs.lemmas.Option.{slice_get-get_or}
use Rattle.wb_digraph.proofs.RunLemmas.{found_at, target_at}
use Rattle.wb_digraph.proofs.runs.add_target.Goals as goal

pub returns : goal.returns
returns c =
    let (e, at, from, to) = target_at c.args.graph.now.edges.now c.args.graph.now.components.now.numbers c.args.edge c.args.group
    c.of-target.result _ c.requires.leaves c.of-target.ensures in
    let lt : c.of-target.result < c.args.group = c.if-target-group.false in
    found_at c.args.graph.now.edges.now c.args.graph.now.components.now.numbers c.args.found.now c.args.group c.args.edge c.of-target.result _
    e c.args.parts.now.items c.add.new.parts.items at from to lt
    (slice_get-get_or c.args.found.now c.of-target.result _ (let len = c.requires.found in omega (arith, len, lt))) c.in_ok-add.ensures
