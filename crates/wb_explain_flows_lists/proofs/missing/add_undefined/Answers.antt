use Rattle.std.proofs.Common.{◌≤◌, length, get_or, arith}
use Rattle.std.proofs.lemmas.Option.{slice_get-get_or}
use Rattle.wb_flow.proofs.AddingLemmas.{adds_start, adds_as}
use Rattle.wb_flow.proofs.RowLemmas.{OfNumber, OnNonterminal, row_within, row_more, row_all}
use Rattle.wb_syntax_resolved.specs.declared.attributes.Occurrence.{Occurrence}
use Rattle.wb_explain_flows_lists.specs.Inner.Found.{IsMissingFor, IsMissingOf}
use Rattle.wb_explain_flows_lists.proofs.MissingLemmas.{missing, missing_of}
use Rattle.wb_explain_flows_lists.proofs.missing.add_undefined.Goals as goal

pub occurrences-init : goal.occurrences-init
occurrences-init c =
    adds_start c.args.found.now.items c.on-place-items.result.now
    (OfNumber c.args.scope.now.attributes.now.occurrences
    (λ (o : Occurrence). IsMissingFor c.args.scope.now.attributes.now c.args.defined.now (missing c.args.number o.attribute)))

pub occurrence-requires : goal.occurrence-requires
occurrence-requires c =
    row_within c.args.scope.now.attributes.now.occurrences c.args.scope.now.index.now c.requires.index c.args.production.now.left
    c.on-place-items.result.now c.on-place-items.ensures c.occurrences.place-index 0 c.occurrences-test.true

pub occurrences-preserved : goal.occurrences-preserved
occurrences-preserved c =
    let row = c.on-place-items.result.now in
    row_more c.args.scope.now.attributes.now.occurrences c.args.scope.now.index.now c.requires.index c.args.production.now.left
    (λ (o : Occurrence). IsMissingFor c.args.scope.now.attributes.now c.args.defined.now (missing c.args.number o.attribute))
    c.args.found.now.items c.occurrences.found.items c.add_one.new.found.items row c.occurrences.place-index
    (get_or row c.occurrences.place-index 0) c.occurrence.result.now
    (slice_get-get_or row c.occurrences.place-index 0 c.occurrences-test.true) c.occurrence.ensures c.occurrences.invariant
    c.in_ok-add_one.ensures

pub returns : goal.returns
returns c =
    let row = c.on-place-items.result.now in
    let ended : length row ≤ c.occurrences.place-index = omega arith in
    let a = c.args.scope.now.attributes.now in
    let p = c.args.production.now in
    let Q = λ (o : Occurrence). IsMissingFor a c.args.defined.now (missing c.args.number o.attribute) in
    adds_as c.args.found.now.items c.occurrences.found.items (OnNonterminal a.occurrences p.left Q) (IsMissingOf a c.args.number p)
    (missing_of a c.args.number p c.args.defined.now c.requires.defined c.requires.forward)
    (row_all a.occurrences c.args.scope.now.index.now c.requires.index p.left Q c.args.found.now.items c.occurrences.found.items row
    c.on-place-items.ensures c.occurrences.place-index ended c.occurrences.invariant)
