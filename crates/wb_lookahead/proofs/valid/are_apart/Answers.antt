use Rattle.std.proofs.Common.{◌≡◌, Some, get_or, subst}
use Rattle.std.specs.Prelude.{slice_get}
use Rattle.std.proofs.lemmas.List.Elements.{Contains-get_or}
use Rattle.std.proofs.lemmas.Option.{slice_get-get_or}
use Rattle.wb_lemmas.proofs.Booleans.{not_false}
use Rattle.wb_grammar_theory.specs.declared.item.Item.{Item}
use Rattle.wb_items.specs.Kernels.{closure_of}
use Rattle.wb_lookahead.proofs.ValidLemmas.{intersects_conflict, meets_conflict, none_yet, sets_more}
use Rattle.wb_lookahead.proofs.valid.are_apart.Goals as goal

pub items-init : goal.items-init
items-init c = none_yet c.args.kernels.now c.args.state c.args.sets.now c.requires.sets

pub add_item-requires-clause-item : goal.add_item-requires-clause-item
add_item-requires-clause-item c =
    let item : Item = get_or c.closure-item-items.result.now c.items.item-index (record { production = 0; dot = 0 }) in
    (c.closure-item-items.ensures.exact item).0 (Contains-get_or c.closure-item-items.result.now c.items.item-index
    (record { production = 0; dot = 0 }) c.items-test.true)

pub returns-then-not-add_item-clause-conflict : goal.returns-then-not-add_item-clause-conflict
returns-then-not-add_item-clause-conflict c _ =
    let item : Item = get_or c.closure-item-items.result.now c.items.item-index (record { production = 0; dot = 0 }) in
    let here : slice_get (closure_of c.args.kernels.now c.args.state) c.items.item-index ≡ Some item = subst
    (λ z. slice_get z c.items.item-index ≡ Some item) c.closure-item-items.ensures.is
    (slice_get-get_or c.closure-item-items.result.now c.items.item-index (record { production = 0; dot = 0 }) c.items-test.true) in
    meets_conflict c.requires.kernels c.requires.state c.items.item-index item c.items.sets here c.items.invariant
    (c.add_item.ensures.meets c.if-not-add_item.true)

pub items-preserved : goal.items-preserved
items-preserved c =
    let item : Item = get_or c.closure-item-items.result.now c.items.item-index (record { production = 0; dot = 0 }) in
    let here : slice_get (closure_of c.args.kernels.now c.args.state) c.items.item-index ≡ Some item = subst
    (λ z. slice_get z c.items.item-index ≡ Some item) c.closure-item-items.ensures.is
    (slice_get-get_or c.closure-item-items.result.now c.items.item-index (record { production = 0; dot = 0 }) c.items-test.true) in
    sets_more c.items.item-index item c.items.sets c.add_item.new.sets here c.items.invariant
    (c.add_item.ensures.apart c.if-not-add_item.false)

pub returns-clause-conflict : goal.returns-clause-conflict
returns-clause-conflict c is =
    intersects_conflict c.requires.kernels c.requires.state c.items.item-index c.items.sets c.items.invariant
    (c.intersects.ensures.0 (not_false c.intersects.result is))
