use Rattle.std.proofs.Common.{[], List, reverse, take, sym, ap, ◌∙◌, subst, append-nil}
use Rattle.std.proofs.lemmas.List.{take_all}
use Rattle.wb_terms.specs.declared.event.Event.{Event}
use Rattle.wb_terms.specs.Inner.Holding.{Holds}
use Rattle.wb_terms.proofs.ReadLemmas.{met_more, found_tree, found_fault, trees_more}
use Rattle.wb_terms.proofs.read.tree_of.Goals as goal

pub loop-event-init : goal.loop-event-init
loop-event-init c = (c.new-builder.ensures c.args.signatures.now c.args.store.now, ([], sym (append-nil c.args.store.now)))

pub handle-requires : goal.handle-requires
handle-requires c = record { events = reverse (take c.loop-event.event-index c.args.events.now); holds = c.loop-event.invariant.0 }

pub loop-event-preserved : goal.loop-event-preserved
loop-event-preserved c = (
  subst (λ (v : List Event). Holds c.args.signatures.now c.handle.new.store v c.handle.new.self)
      (sym (met_more c.args.events.now c.loop-event.event-index c.event-item.result c.loop-event-test.true c.event-item.is))
      (c.in_ok-handle.ensures.ok (reverse (take c.loop-event.event-index c.args.events.now)) c.loop-event.invariant.0),
  trees_more c.args.store.now c.loop-event.store c.handle.new.store c.loop-event.invariant.1 c.in_ok-handle.ensures.grown,
)

pub into_tree-requires : goal.into_tree-requires
into_tree-requires c = record {
  term = c.requires.0;
  holds = subst (λ (v : List Event). Holds c.args.signatures.now c.loop-event.store v c.loop-event.builder)
      (ap reverse (take_all c.loop-event.event-index c.args.events.now c.loop-event-test.false)
      ∙ sym c.requires.1) c.loop-event.invariant.0;
}

pub returns-clause-ok : goal.returns-clause-ok
returns-clause-ok c =
    found_tree c.args.signatures.now c.loop-event.store (reverse c.args.events.now) c.loop-event.builder c.into_tree.result
    (subst (λ (v : List Event). Holds c.args.signatures.now c.loop-event.store v c.loop-event.builder)
    (ap reverse (take_all c.loop-event.event-index c.args.events.now c.loop-event-test.false)) c.loop-event.invariant.0)
    c.into_tree.ensures.ok

pub returns-clause-refused : goal.returns-clause-refused
returns-clause-refused c =
    found_fault c.args.signatures.now c.loop-event.store (reverse c.args.events.now) c.loop-event.builder c.into_tree.result
    (subst (λ (v : List Event). Holds c.args.signatures.now c.loop-event.store v c.loop-event.builder)
    (ap reverse (take_all c.loop-event.event-index c.args.events.now c.loop-event-test.false)) c.loop-event.invariant.0)
    c.into_tree.ensures.refused
