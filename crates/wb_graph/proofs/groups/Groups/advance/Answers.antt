-- One step, by what the edge that is taken leads to.
use Rattle.std.proofs.Common.{◌≡◌, ◌∙◌, ℕ, Some, length, refl, ap, arith, sym, subst, take, rules}
use Rattle.std.proofs.lemmas.Grind.{common_steps}
use Rattle.std.proofs.lemmas.Option.{slice_get_read}
use Rattle.wb_graph.specs.Inner.Groups.{State, state_of, Advances}
use Rattle.wb_graph.proofs.Places.{read_last}
use Rattle.wb_graph.proofs.TakingLemmas.{edge_below}
use Rattle.wb_graph.proofs.StepLemmas.{last_open, open_below, opened_below, starts_below, some_start, leaves, goes_on, joins_on, passes}
use Rattle.wb_graph.proofs.groups.Groups.advance.Goals as goal

pub take-requires-clause-vertex : goal.take-requires-clause-vertex
take-requires-clause-vertex c =
    let s : State = state_of c.args.self.now in
    let last = read_last s.path c.len.result c.index-vertex.result.now (omega arith) c.requires.path c.index-vertex.ensures in
    let (i, at) = last_open c.args.edges.now s c.requires.grouping c.index-vertex.result.now last in
    omega (arith, c.requires.grouping.len, open_below c.args.edges.now s c.requires.grouping c.index-vertex.result.now i at)

pub leave-requires-clause-path : goal.leave-requires-clause-path
leave-requires-clause-path c = read_last c.args.self.now.path.items c.len.result c.index-vertex.result.now
    (omega arith) c.requires.path c.index-vertex.ensures

pub leave-requires-clause-starts : goal.leave-requires-clause-starts
leave-requires-clause-starts c =
    let s : State = state_of c.args.self.now in
    let last = read_last s.path c.len.result c.index-vertex.result.now (omega arith) c.requires.path c.index-vertex.ensures in
    some_start c.args.edges.now s c.requires.grouping c.index-vertex.result.now last

pub leave-requires-clause-within : goal.leave-requires-clause-within
leave-requires-clause-within c = starts_below c.args.edges.now (state_of c.args.self.now) c.requires.grouping

pub leave-requires-clause-marks : goal.leave-requires-clause-marks
leave-requires-clause-marks c = opened_below c.args.edges.now (state_of c.args.self.now) c.requires.grouping

pub returns-in_default : goal.returns-in_default
returns-in_default c =
    let none_left = c.in_default.ensures.none in
    leaves c.args.edges.now
    (state_of c.args.self.now) c.requires.grouping c.take.new.self.firsts.items c.take.new.self.links.items c.take.ensures.linked
    (state_of c.leave.new.self) c.index-vertex.result.now none_left.1 none_left.0 c.in_ok-leave.ensures

pub returns-in_ok-enter-in-New : goal.returns-in_ok-enter-in-New
returns-in_ok-enter-in-New c =
    let s : State = state_of c.args.self.now in
    let last = read_last s.path c.len.result c.index-vertex.result.now (omega arith) c.requires.path c.index-vertex.ensures in
    let takes = c.in-Some.ensures.some in
    let below = edge_below
    (length s.marks) c.args.edges.now c.index-vertex.result.now c.in-Some.target c.requires.grouping.edges_below takes.edge in
    let mark = slice_get_read s.marks (length s.marks) c.in-Some.target c.index.result.now refl below.1 c.index.ensures in
    goes_on c.args.edges.now s c.requires.grouping c.take.new.self.firsts.items c.take.new.self.links.items c.take.ensures.linked
    c.index-vertex.result.now
    c.in-Some.target c.take.ensures.len last takes (state_of c.enter.new.self) (mark ∙ ap Some c.in-New.is) c.in_ok-enter-in-New.ensures

pub returns-in-Open : goal.returns-in-Open
returns-in-Open c =
    let s : State = state_of c.args.self.now in
    let last = read_last s.path c.len.result c.index-vertex.result.now (omega arith) c.requires.path c.index-vertex.ensures in
    let takes = c.in-Some.ensures.some in
    let below = edge_below
    (length s.marks) c.args.edges.now c.index-vertex.result.now c.in-Some.target c.requires.grouping.edges_below takes.edge in
    let mark = slice_get_read s.marks (length s.marks) c.in-Some.target c.index.result.now refl below.1 c.index.ensures in
    let kept = c.kept_starts-kept.ensures in
    let cut : c.truncate.new.self.items ≡ take c.kept_starts-kept.result c.args.self.now.starts.items = grind (arith, common_steps) in
    let j : ℕ = c.in-Open.place in
    let step : Advances c.args.edges.now s (record s {
      firsts = c.take.new.self.firsts.items;
      links = c.take.new.self.links.items;
      starts = take c.kept_starts-kept.result s.starts;
    }) =
    joins_on c.args.edges.now s c.requires.grouping c.take.new.self.firsts.items c.take.new.self.links.items c.take.ensures.linked
    c.index-vertex.result.now
    c.in-Some.target c.take.ensures.len last takes j c.kept_starts-kept.result (mark ∙ ap Some c.in-Open.is) (search rules) in
    subst (λ xs. Advances c.args.edges.now s (record s {
      firsts = c.take.new.self.firsts.items;
      links = c.take.new.self.links.items;
      starts = xs;
    })) (sym cut) step

pub returns-in-Closed : goal.returns-in-Closed
returns-in-Closed c =
    let s : State = state_of c.args.self.now in
    let last = read_last s.path c.len.result c.index-vertex.result.now (omega arith) c.requires.path c.index-vertex.ensures in
    let takes = c.in-Some.ensures.some in
    let below = edge_below
    (length s.marks) c.args.edges.now c.index-vertex.result.now c.in-Some.target c.requires.grouping.edges_below takes.edge in
    let mark = slice_get_read s.marks (length s.marks) c.in-Some.target c.index.result.now refl below.1 c.index.ensures in
    passes c.args.edges.now s c.requires.grouping c.take.new.self.firsts.items c.take.new.self.links.items c.take.ensures.linked
    c.index-vertex.result.now
    c.in-Some.target c.take.ensures.len last takes c.in-Closed.field-0 (mark ∙ ap Some c.in-Closed.is)
