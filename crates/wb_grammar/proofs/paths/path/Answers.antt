use Rattle.std.proofs.Common.{◌≡◌, ◌∷◌, [], ap, ◌∙◌, replicate, ℕ, List}
use Rattle.std.specs.Prelude.{slice_index, MatchOption}
use Rattle.std.proofs.lemmas.Result.{IfOk-weaker}
use Rattle.wb_graph.specs.Graphs.{Edge, IsReached}
use Rattle.wb_grammar.specs.Inner.Paths.{IsTrail, IsBackClosed, IsPathTo}
use Rattle.wb_grammar.proofs.PathLemmas.{zeros}
use Rattle.wb_grammar.proofs.paths.path.Goals as goal

pub trail_to-requires-clause-none : goal.trail_to-requires-clause-none
trail_to-requires-clause-none c v =
    let is : c.in_ok-places.places.items ≡ replicate c.args.count 0 = c.in_ok-places.ensures.items_if_clones_equal (λ y same. same) in
    ap (λ xs. slice_index xs v) is ∙ zeros c.args.count v

pub path_by-requires-clause-trail : goal.path_by-requires-clause-trail
path_by-requires-clause-trail c = (c.args.edges.now, c.args.to, rw (c.deref.ensures.value, c.deref-2.ensures.value) c.in_ok-trail.ensures.trail)

pub returns : goal.returns
returns c =
    let edges = c.args.edges.now in
    let from = c.args.from in
    let to = c.args.to in
    let trail : IsTrail edges to c.deref.result.now c.deref-2.result.now = rw (c.deref.ensures.value, c.deref-2.ensures.value) c.in_ok-trail.ensures.trail in
    let closed : IsBackClosed edges c.deref.result.now = rw c.deref.ensures.value c.in_ok-trail.ensures.closed in
    IfOk-weaker c.path_by.result
    (λ found. (edges : List Edge) (to : ℕ) → IsTrail edges to c.deref.result.now c.deref-2.result.now → IsBackClosed edges c.deref.result.now
    → MatchOption found (¬ IsReached edges (from ∷ []) to) (λ path. IsPathTo edges from path.items to))
    (λ found. MatchOption found (¬ IsReached edges (from ∷ []) to) (λ path. IsPathTo edges from path.items to))
    (λ found each. each edges to trail closed) c.path_by.ensures
