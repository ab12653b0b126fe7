use Rattle.std.proofs.Common.{◌≡◌, ◌∙◌, [], Some, drop, slice_get, ap, sym, subst, inl, inr, arith}
use Rattle.std.proofs.lemmas.Bool.{cases_eq}
use Rattle.wb_graph.specs.Orders.{IsOrder, IsSimpleCycle}
use Rattle.wb_graph.specs.Inner.Search.{state_of, ClosesPath, Visits}
use Rattle.wb_graph.proofs.CallerLemmas.{order_excludes_cycle}
use Rattle.wb_graph.proofs.OrderLemmas.{closed_cycle, simple_cycle, searched_order}
use Rattle.wb_graph.proofs.order.order_by.Goals as goal

pub roots-init : goal.roots-init
roots-init c = record {
  search = c.requires.search;
  path = c.requires.path;
  len = c.requires.len;
  met = λ v less. absurd (omega arith);
}

pub roots-preserved : goal.roots-preserved
roots-preserved c =
    let h = c.roots.invariant in
    let visits : Visits c.args.edges.now c.roots.root (state_of c.roots.search) (state_of c.visit.new.self) = rw c.in_default.is at
    c.in_ok-vertex.ensures.none in
    record {
      search = visits.search;
      path = visits.path;
      len = visits.keeps.len ∙ h.len;
      met = λ v less. elim (cases_eq v c.roots.root) [
        | inl same ↦ rw same visits.visited
        | inr other ↦ λ at. h.met v (omega arith) (visits.keeps.met v at)
      ];
    }

pub returns-in-Some-clause-ok : goal.returns-in-Some-clause-ok
returns-in-Some-clause-ok c =
    let path = c.visit.new.self.path.items in
    let closes : ClosesPath c.args.edges.now path c.in-Some.vertex = rw c.in-Some.is at c.in_ok-vertex.ensures.met in
    let (i, at, is) = c.in_ok-cycle_from.ensures in
    let here = subst (λ xs. slice_get xs i ≡ Some c.in-Some.vertex) c.deref.ensures.value at in
    subst (IsSimpleCycle c.args.edges.now) (sym (is ∙ ap (drop i) c.deref.ensures.value))
    (simple_cycle c.args.edges.now path c.in-Some.vertex i closes here)

pub returns-in-Some-clause-exact : goal.returns-in-Some-clause-exact
returns-in-Some-clause-exact c list is_order =
    let path = c.visit.new.self.path.items in
    let closes : ClosesPath c.args.edges.now path c.in-Some.vertex = rw c.in-Some.is at c.in_ok-vertex.ensures.met in
    let (i, at) = closes.on_path in
    order_excludes_cycle c.args.count c.args.edges.now list (drop i path) c.requires.edges is_order
    (closed_cycle c.args.edges.now path c.in-Some.vertex i closes at)

pub returns-clause-ok : goal.returns-clause-ok
returns-clause-ok c =
    let h = c.roots.invariant in
    rw c.replace.ensures.value (subst (λ n. IsOrder n c.args.edges.now c.roots.search.finished.items) h.len
    (searched_order c.args.edges.now [] (state_of c.roots.search) h.search h.path (λ v less. h.met v (omega (arith, h.len)))))

pub returns-clause-exact : goal.returns-clause-exact
returns-clause-exact c list is_cycle =
    let h = c.roots.invariant in
    let order = subst (λ n. IsOrder n c.args.edges.now c.roots.search.finished.items) h.len
    (searched_order c.args.edges.now [] (state_of c.roots.search) h.search h.path (λ v less. h.met v (omega (arith, h.len)))) in
    order_excludes_cycle c.args.count c.args.edges.now c.roots.search.finished.items list c.requires.edges order is_cycle
