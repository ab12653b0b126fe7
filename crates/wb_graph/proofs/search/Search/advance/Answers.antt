use Rattle.std.proofs.Common.{◌-◌, Some, length, refl, ◌∙◌, ap, arith}
use Rattle.std.proofs.lemmas.Option.{slice_get_read, slice_get_within}
use Rattle.wb_graph.specs.Inner.Search.{state_of}
use Rattle.wb_graph.specs.declared.search.Colour.TheVariants.{Grey}
use Rattle.wb_graph.proofs.Places.{read_last}
use Rattle.wb_graph.proofs.TakingLemmas.{edge_below}
use Rattle.wb_graph.proofs.AdvanceLemmas.{finishes, goes_on, passes, meets}
use Rattle.wb_graph.proofs.search.Search.advance.Goals as goal

pub take-requires-clause-vertex : goal.take-requires-clause-vertex
take-requires-clause-vertex c =
    let path = c.args.self.now.path.items in
    let last = read_last path c.len.result c.index-vertex.result.now (omega arith) c.requires.path c.index-vertex.ensures in
    let h = c.requires.search in
    omega (
      arith,
      h.len,
      slice_get_within c.args.self.now.colours.items c.index-vertex.result.now Grey
          (h.on_path.grey c.index-vertex.result.now (length path - 1) last),
    )

pub leave-requires-clause-vertex : goal.leave-requires-clause-vertex
leave-requires-clause-vertex c =
    let path = c.args.self.now.path.items in
    let last = read_last path c.len.result c.index-vertex.result.now (omega arith) c.requires.path c.index-vertex.ensures in
    slice_get_within c.args.self.now.colours.items c.index-vertex.result.now Grey
    (c.requires.search.on_path.grey c.index-vertex.result.now (length path - 1) last)

pub leave-requires-clause-last : goal.leave-requires-clause-last
leave-requires-clause-last c = read_last c.args.self.now.path.items c.len.result c.index-vertex.result.now
    (omega arith) c.requires.path c.index-vertex.ensures

pub returns-in_default-clause-none : goal.returns-in_default-clause-none
returns-in_default-clause-none c =
    let s = state_of c.args.self.now in
    let none_left = c.in_default.ensures.none in
    finishes c.args.edges.now s c.take.new.self.firsts.items c.take.new.self.links.items c.take.ensures.linked c.requires.search
    (state_of c.leave.new.self) c.leave.new.self.path.items c.index-vertex.result.now none_left.1 none_left.0 c.in_ok-leave.ensures.rest
    c.in_ok-leave.ensures.ok

pub returns-in_ok-enter-in-White-clause-none : goal.returns-in_ok-enter-in-White-clause-none
returns-in_ok-enter-in-White-clause-none c =
    let path = c.args.self.now.path.items in
    let last = read_last path c.len.result c.index-vertex.result.now (omega arith) c.requires.path c.index-vertex.ensures in
    let takes = c.in-Some.ensures.some in
    let below = edge_below
    (length c.args.self.now.colours.items) c.args.edges.now c.index-vertex.result.now c.in-Some.target c.requires.search.below
    takes.edge in
    let colour = slice_get_read c.args.self.now.colours.items
    (length c.args.self.now.colours.items) c.in-Some.target c.index.result.now refl below.1 c.index.ensures in
    goes_on c.args.edges.now
    (state_of c.args.self.now) c.take.new.self.firsts.items c.take.new.self.links.items c.take.ensures.linked c.requires.search
    c.index-vertex.result.now c.in-Some.target c.take.ensures.len last takes (state_of c.enter.new.self)
    (colour ∙ ap Some c.in-White.is) c.in_ok-enter-in-White.ensures

pub returns-in-Grey-clause-met : goal.returns-in-Grey-clause-met
returns-in-Grey-clause-met c =
    let path = c.args.self.now.path.items in
    let last = read_last path c.len.result c.index-vertex.result.now (omega arith) c.requires.path c.index-vertex.ensures in
    let takes = c.in-Some.ensures.some in
    let below = edge_below
    (length c.args.self.now.colours.items) c.args.edges.now c.index-vertex.result.now c.in-Some.target c.requires.search.below
    takes.edge in
    let colour = slice_get_read c.args.self.now.colours.items
    (length c.args.self.now.colours.items) c.in-Some.target c.index.result.now refl below.1 c.index.ensures in
    meets c.args.edges.now
    (state_of c.args.self.now) c.take.new.self.firsts.items c.take.new.self.links.items c.take.ensures.linked c.requires.search
    c.index-vertex.result.now c.in-Some.target c.take.ensures.len last takes (colour ∙ ap Some c.in-Grey.is)

pub returns-in-Black-clause-none : goal.returns-in-Black-clause-none
returns-in-Black-clause-none c =
    let path = c.args.self.now.path.items in
    let last = read_last path c.len.result c.index-vertex.result.now (omega arith) c.requires.path c.index-vertex.ensures in
    let takes = c.in-Some.ensures.some in
    let below = edge_below
    (length c.args.self.now.colours.items) c.args.edges.now c.index-vertex.result.now c.in-Some.target c.requires.search.below
    takes.edge in
    let colour = slice_get_read c.args.self.now.colours.items
    (length c.args.self.now.colours.items) c.in-Some.target c.index.result.now refl below.1 c.index.ensures in
    passes c.args.edges.now
    (state_of c.args.self.now) c.take.new.self.firsts.items c.take.new.self.links.items c.take.ensures.linked c.requires.search
    c.index-vertex.result.now c.in-Some.target c.take.ensures.len last takes (colour ∙ ap Some c.in-Black.is)
