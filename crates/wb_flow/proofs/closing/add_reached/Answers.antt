use Rattle.std.proofs.Common.{ℕ, List, length, sym, subst}
use Rattle.std.specs.List.Sorted.{IsNonDecreasingBy}
use Rattle.wb_graph.specs.Graphs.{Edge}
use Rattle.wb_flow.specs.Inner.Closing.{AreFalling, AreClosed}
use Rattle.wb_flow.proofs.ClosingLemmas.{steps_fall}
use Rattle.wb_flow.proofs.closing.add_reached.Goals as goal

pub close-requires-clause-falls : goal.close-requires-clause-falls
close-requires-clause-falls c =
    subst (λ (z : List Edge). AreFalling (length c.args.sets.now.items) z) (sym c.deref.ensures.value)
    (subst (λ (n : ℕ). AreFalling n c.in_ok-steps.steps.items) (sym c.requires.len)
    (steps_fall (length c.args.components.now.numbers) c.args.edges.now c.args.components.now c.requires.components c.requires.edges
    c.in_ok-steps.steps.items c.in_ok-steps.ensures))

pub close-requires-clause-rising : goal.close-requires-clause-rising
close-requires-clause-rising c =
    subst (λ (z : List Edge). IsNonDecreasingBy (λ (s : Edge). s.0) z) (sym c.deref.ensures.value) c.in_ok-steps.ensures.rising

pub returns : goal.returns
returns c = (
  c.in_ok-steps.steps.items,
  c.in_ok-steps.ensures,
  subst (λ (z : List Edge). AreClosed z c.args.sets.now.items c.close.new.sets.items) c.deref.ensures.value c.close.ensures,
)
