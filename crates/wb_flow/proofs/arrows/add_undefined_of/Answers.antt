use Rattle.std.proofs.Common.{◌≤◌, length, get_or, arith}
use Rattle.std.proofs.lemmas.Option.{slice_get-get_or}
use Rattle.wb_flow.specs.Inner.Arrows.{IsCopyArrow, IsLeftCopyArrow}
use Rattle.wb_flow.proofs.AddingLemmas.{adds_start, adds_as}
use Rattle.wb_flow.proofs.RowLemmas.{OfNumber, OnNonterminal, row_within, row_more, row_all, on_attribute}
use Rattle.wb_syntax_resolved.specs.declared.attributes.Occurrence.{Occurrence}
use Rattle.wb_flow.proofs.arrows.add_undefined_of.Goals as goal

pub occurrences-init : goal.occurrences-init
occurrences-init c =
    adds_start c.args.arrows.now.items c.on-number-items.result.now
    (OfNumber c.args.scope.now.attributes.now.occurrences (λ o. IsCopyArrow c.args.scope.now.attributes.now c.args.production.now o.attribute))

pub occurrence-requires : goal.occurrence-requires
occurrence-requires c =
    row_within c.args.scope.now.attributes.now.occurrences c.args.scope.now.index.now c.requires.index c.args.production.now.left
    c.on-number-items.result.now c.on-number-items.ensures c.occurrences.number-index 0 c.occurrences-test.true

pub occurrences-preserved : goal.occurrences-preserved
occurrences-preserved c =
    let row = c.on-number-items.result.now in
    row_more c.args.scope.now.attributes.now.occurrences c.args.scope.now.index.now c.requires.index c.args.production.now.left
    (λ (o : Occurrence). IsCopyArrow c.args.scope.now.attributes.now c.args.production.now o.attribute) c.args.arrows.now.items
    c.occurrences.arrows.items c.add_copy.new.arrows.items row c.occurrences.number-index (get_or row c.occurrences.number-index 0)
    c.occurrence.result.now (slice_get-get_or row c.occurrences.number-index 0 c.occurrences-test.true) c.occurrence.ensures
    c.occurrences.invariant c.in_ok-add_copy.ensures

pub returns : goal.returns
returns c =
    let row = c.on-number-items.result.now in
    let ended : length row ≤ c.occurrences.number-index = omega arith in
    let Q = λ (o : Occurrence). IsCopyArrow c.args.scope.now.attributes.now c.args.production.now o.attribute in
    let on = on_attribute c.args.scope.now.attributes.now c.args.production.now.left
    (IsCopyArrow c.args.scope.now.attributes.now c.args.production.now) in
    adds_as c.args.arrows.now.items c.occurrences.arrows.items
    (OnNonterminal c.args.scope.now.attributes.now.occurrences c.args.production.now.left Q)
    (IsLeftCopyArrow c.args.scope.now.attributes.now c.args.production.now)
    (λ r. ((λ is. (c.requires.forwards, (on r).0 is)), (λ copy. (on r).1 copy.1)))
    (row_all c.args.scope.now.attributes.now.occurrences c.args.scope.now.index.now c.requires.index c.args.production.now.left Q
    c.args.arrows.now.items c.occurrences.arrows.items row c.on-number-items.ensures c.occurrences.number-index ended c.occurrences.invariant)
