use Rattle.std.proofs.Common.{◌<◌, ◌-◌, ℕ, length, arith, rules}
use Rattle.wb_graph.proofs.Places.{read_at}
use Rattle.wb_graph.proofs.TakingLemmas.{first_within, take_linked, take_takes}
use Rattle.wb_graph.proofs.edge_lists.EdgeLists.take.Goals as goal

pub index-requires : goal.index-requires
index-requires c =
    let is = read_at c.args.self.now.firsts.items c.args.vertex c.index-first.result.now c.requires.vertex c.index-first.ensures in
    omega (
      arith,
      is,
      c.requires.linked.len,
      first_within c.args.edges.now c.args.self.now.firsts.items c.args.self.now.links.items
          c.args.vertex c.requires.linked (omega arith),
    )

pub bounds-edges-first : goal.bounds-edges-first
bounds-edges-first c =
    let is = read_at c.args.self.now.firsts.items c.args.vertex c.index-first.result.now c.requires.vertex c.index-first.ensures in
    omega (
      arith,
      is,
      first_within c.args.edges.now c.args.self.now.firsts.items c.args.self.now.links.items c.args.vertex c.requires.linked
          (omega arith),
    )

pub offset_bounds-edges-first : goal.offset_bounds-edges-first
offset_bounds-edges-first c =
    let is = read_at c.args.self.now.firsts.items c.args.vertex c.index-first.result.now c.requires.vertex c.index-first.ensures in
    let within : c.index-first.result.now - 1 < length c.args.edges.now = omega (
      arith,
      is,
      first_within c.args.edges.now c.args.self.now.firsts.items c.args.self.now.links.items c.args.vertex c.requires.linked
          (omega arith),
    ) in
    search rules

pub returns-clause-linked : goal.returns-clause-linked
returns-clause-linked c =
    let number : ℕ = c.index-first.result.now - 1 in
    let is = read_at c.args.self.now.firsts.items c.args.vertex c.index-first.result.now c.requires.vertex c.index-first.ensures in
    let below : number < length c.args.self.now.links.items = omega (
      arith,
      is,
      c.requires.linked.len,
      first_within c.args.edges.now c.args.self.now.firsts.items c.args.self.now.links.items c.args.vertex
          c.requires.linked (omega arith),
    ) in
    let link = read_at c.args.self.now.links.items number c.index.result.now below c.index.ensures in
    take_linked c.args.edges.now c.args.self.now.firsts.items c.args.self.now.links.items c.args.vertex number c.index.result.now
    c.requires.linked c.requires.vertex (omega arith) link

pub returns-clause-some : goal.returns-clause-some
returns-clause-some c =
    let number : ℕ = c.index-first.result.now - 1 in
    let is = read_at c.args.self.now.firsts.items c.args.vertex c.index-first.result.now c.requires.vertex c.index-first.ensures in
    let below : number < length c.args.self.now.links.items = omega (
      arith,
      is,
      c.requires.linked.len,
      first_within c.args.edges.now c.args.self.now.firsts.items c.args.self.now.links.items c.args.vertex
          c.requires.linked (omega arith),
    ) in
    let link = read_at c.args.self.now.links.items number c.index.result.now below c.index.ensures in
    take_takes c.args.edges.now c.args.self.now.firsts.items c.args.self.now.links.items c.args.vertex number c.index.result.now
    c.requires.linked c.requires.vertex (omega arith) link
