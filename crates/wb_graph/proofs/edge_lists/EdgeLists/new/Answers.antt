use Rattle.std.proofs.Common.{◌≡◌, ◌++◌, ◌∷◌, [], ◌∙◌, ap, subst, arith, length, get_or}
use Rattle.std.proofs.lemmas.List.Elements.{All-get_or}
use Rattle.std.proofs.lemmas.Option.{slice_get-get_or}
use Rattle.wb_graph.specs.Graphs.{IsEdgeBelow}
use Rattle.wb_graph.proofs.Places.{read_at}
use Rattle.wb_graph.proofs.TakingLemmas.{IsBuilt, built_more, built_linked, built_nothing}
use Rattle.wb_graph.proofs.edge_lists.EdgeLists.new.Goals as goal

pub loop-number-preserved : goal.loop-number-preserved
loop-number-preserved c =
    let edge = get_or c.args.edges.now c.loop-number.number (0, 0) in
    let below : IsEdgeBelow c.args.count edge = All-get_or (IsEdgeBelow c.args.count) c.args.edges.now c.loop-number.number
    (0, 0) c.loop-number-test.true c.requires in
    let begun : c.index.result.now ≡ get_or c.loop-number.firsts.items edge.0 0 = read_at c.loop-number.firsts.items edge.0
    c.index.result.now (omega (arith, c.loop-number.invariant.firsts_len, below.0)) c.index.ensures in
    let pushed : c.push.new.self.items ≡ c.loop-number.links.items ++ get_or c.loop-number.firsts.items edge.0 0 ∷ [] = c.in_ok-push.ensures.items ∙ ap (λ x. c.loop-number.links.items ++ x ∷ []) begun in
    rw pushed
    (built_more c.args.count c.args.edges.now c.loop-number.number c.loop-number.firsts.items c.loop-number.links.items edge
    c.loop-number.invariant below.0 (slice_get-get_or c.args.edges.now c.loop-number.number (0, 0) c.loop-number-test.true))

pub returns-clause-linked : goal.returns-clause-linked
returns-clause-linked c =
    let all : c.loop-number.number ≡ length c.args.edges.now = omega arith in
    built_linked c.args.count c.args.edges.now c.loop-number.firsts.items c.loop-number.links.items
    (subst (λ n. IsBuilt c.args.count c.args.edges.now n c.loop-number.firsts.items c.loop-number.links.items) all c.loop-number.invariant)

pub returns-clause-nothing : goal.returns-clause-nothing
returns-clause-nothing c =
    let all : c.loop-number.number ≡ length c.args.edges.now = omega arith in
    built_nothing c.args.count c.args.edges.now c.loop-number.firsts.items c.loop-number.links.items c.requires
    (subst (λ n. IsBuilt c.args.count c.args.edges.now n c.loop-number.firsts.items c.loop-number.links.items) all c.loop-number.invariant)
