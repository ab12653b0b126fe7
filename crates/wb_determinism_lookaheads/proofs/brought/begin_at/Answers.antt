use Rattle.std.proofs.Common.{get_or}
use Rattle.std.proofs.lemmas.List.Elements.{Contains-get_or}
use Rattle.wb_grammar_theory.specs.declared.item.Item.{Item}
use Rattle.wb_determinism_lookaheads.proofs.StartLemmas.{brought_true, start_is}
use Rattle.wb_determinism_lookaheads.proofs.brought.begin_at.Goals as goal

pub put-requires-clause-holds : goal.put-requires-clause-holds
put-requires-clause-holds c =
    let none : Item = record { production = 0; dot = 0 } in
    let kernel = c.kernel-item-items.result.now in
    brought_true c.requires.context c.args.start (start_is c.requires.context c.args.start c.requires.start) c.in-Some.place kernel
    (get_or kernel c.items.item-index none) c.in_ok-set.set c.in-Some.ensures c.kernel-item-items.ensures
    (Contains-get_or kernel c.items.item-index none c.items-test.true) c.in_ok-set.ensures
