use Rattle.std.proofs.Common.{◌+◌, ◌∙◌, false, sym, subst, ap, arith}
use Rattle.std.proofs.lemmas.List.{length-replicate}
use Rattle.std.proofs.lemmas.List.Elements.{Contains-get_or}
use Rattle.std.proofs.lemmas.Option.{slice_get-get_or}
use Rattle.wb_base.specs.Grammar.{GrammarView}
use Rattle.wb_determinism.proofs.EnvelopeLemmas.{AreAdded, added_none, added_more, added_all, contained_has}
use Rattle.wb_determinism.proofs.envelope.envelope_set.Goals as goal

pub kernels-init : goal.kernels-init
kernels-init c =
    let host = c.args.context.now.host.now in
    subst (AreAdded host c.args.containing.now c.args.item 0) (sym c.in_ok-set.ensures)
    (added_none host c.args.containing.now c.args.item _
    (c.in_ok-lookahead_count.ensures.count ∙ ap (λ (g : GrammarView). g.terminals + 1) (sym c.requires.context.grammar))
    (length-replicate _ false))

pub add_lookaheads-requires-clause-state : goal.add_lookaheads-requires-clause-state
add_lookaheads-requires-clause-state c =
    ((c.requires.containing _).0 (Contains-get_or c.args.containing.now c.kernels.state-index 0 c.kernels-test.true)).0

pub add_lookaheads-requires-clause-item : goal.add_lookaheads-requires-clause-item
add_lookaheads-requires-clause-item c =
    contained_has c.args.context.now.host.now c.requires.context.host c.args.own.now _
    ((c.requires.containing _).0 (Contains-get_or c.args.containing.now c.kernels.state-index 0 c.kernels-test.true)) c.requires.item

pub kernels-preserved : goal.kernels-preserved
kernels-preserved c =
    added_more c.args.context.now.host.now c.args.containing.now c.args.item c.kernels.state-index _ c.kernels.set c.add_lookaheads.new.set
    (slice_get-get_or c.args.containing.now c.kernels.state-index 0 c.kernels-test.true) c.add_lookaheads.ensures.len
    c.add_lookaheads.ensures.each c.kernels.invariant

pub returns : goal.returns
returns c =
    added_all c.args.context.now.host.now c.requires.context.host c.args.own.now c.args.containing.now c.args.item c.kernels.state-index
    c.kernels.set c.requires.containing (omega (arith, c.kernels-test.false)) c.kernels.invariant
