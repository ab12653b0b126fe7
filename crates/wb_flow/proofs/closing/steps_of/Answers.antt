use Rattle.std.proofs.Common.{[], ◌≤◌, length, sym, subst, arith, rules}
use Rattle.std.proofs.lemmas.List.Sorted.{Contains-permutation, IsPermutation-sym, IsNonDecreasingBy-from_sort_by_key}
use Rattle.std.proofs.lemmas.Option.{slice_get-get_or}
use Rattle.wb_graph.specs.Graphs.{Edge}
use Rattle.wb_flow.specs.Inner.Adding.{SomeBefore, SomeOf}
use Rattle.wb_flow.specs.Adding.{Adds}
use Rattle.wb_flow.specs.Inner.Closing.{IsStepOf}
use Rattle.wb_flow.proofs.AddingLemmas.{adds_start, adds_more, adds_all, adds_to_nothing}
use Rattle.wb_flow.proofs.ClosingLemmas.{step_added}
use Rattle.wb_flow.proofs.closing.steps_of.Goals as goal

pub edges-init : goal.edges-init
edges-init c =
    let P = IsStepOf c.args.components.now in
    subst (λ z. Adds [] z (SomeBefore c.args.edges.now 0 P)) (sym c.new-steps.ensures.items) (adds_start [] c.args.edges.now P)

pub of-requires : goal.of-requires
of-requires c = (c.requires c.edges.edge-index _ c.edges-test.true).0

pub of-requires-in-edges : goal.of-requires-in-edges
of-requires-in-edges c = (c.requires c.edges.edge-index _ c.edges-test.true).1

pub edges-preserved : goal.edges-preserved
edges-preserved c =
    adds_more [] c.edges.steps.items c.add_step.new.steps.items c.args.edges.now (IsStepOf c.args.components.now) c.edges.edge-index _
    (slice_get-get_or c.args.edges.now c.edges.edge-index _ c.edges-test.true) c.edges.invariant
    (step_added c.args.components.now _ c.of.result c.of-in-edges.result c.of.ensures c.of-in-edges.ensures c.edges.steps.items
    c.add_step.new.steps.items
    c.in_ok-add_step.ensures)

pub returns : goal.returns
returns c =
    let P = IsStepOf c.args.components.now in
    let ended : length c.args.edges.now ≤ c.edges.edge-index = omega arith in
    let before = c.edges.steps.items in
    let after = c.sort_unstable_by_key.new.self.items in
    let moved = c.sort_unstable_by_key.ensures.permutation in
    let whole = adds_to_nothing before (SomeOf c.args.edges.now P)
    (adds_all [] before c.args.edges.now P c.edges.edge-index ended c.edges.invariant) in record {
      each = λ s. (
        (λ has. (whole s).0 (Contains-permutation after before s (IsPermutation-sym before after moved) has)),
        (λ is. Contains-permutation before after s moved ((whole s).1 is)),
      );
      rising = IsNonDecreasingBy-from_sort_by_key (λ (s : Edge). s.0) _ c.sort_unstable_by_key.ensures.sorted (λ a r q k. search rules);
    }
