use Rattle.std.proofs.Common.{◌≢◌, ◌≤◌, length, get_or, refl, arith}
use Rattle.std.proofs.lemmas.Option.{slice_get-get_or}
use Rattle.wb_flow.specs.declared.positions.Position.TheVariants.{Top}
use Rattle.wb_flow.specs.Inner.Arrows.{IsOccurrenceArrow, IsBelowArrow}
use Rattle.wb_flow.proofs.AddingLemmas.{adds_start, adds_as, adds_none}
use Rattle.wb_flow.proofs.RowLemmas.{OfNumber, OnNonterminal, row_within, row_more, row_all}
use Rattle.wb_flow.proofs.arrows.add_needs_of.Goals as goal

pub returns-then-is_top : goal.returns-then-is_top
returns-then-is_top c =
    adds_none c.args.arrows.now.items (IsBelowArrow c.args.scope.now.attributes.now c.args.tree) (λ r below. below.0 (c.if-is_top.ensures.0 refl))

pub occurrences-init : goal.occurrences-init
occurrences-init c =
    adds_start c.args.arrows.now.items c.on-number-items.result.now
    (OfNumber c.args.scope.now.attributes.now.occurrences (IsOccurrenceArrow c.args.scope.now.attributes.now c.args.tree.position))

pub occurrence-requires : goal.occurrence-requires
occurrence-requires c =
    row_within c.args.scope.now.attributes.now.occurrences c.args.scope.now.index.now c.requires c.args.tree.nonterminal
    c.on-number-items.result.now c.on-number-items.ensures c.occurrences.number-index 0 c.occurrences-test.true

pub occurrences-preserved : goal.occurrences-preserved
occurrences-preserved c =
    let row = c.on-number-items.result.now in
    row_more c.args.scope.now.attributes.now.occurrences c.args.scope.now.index.now c.requires c.args.tree.nonterminal
    (IsOccurrenceArrow c.args.scope.now.attributes.now c.args.tree.position) c.args.arrows.now.items c.occurrences.arrows.items
    c.add_occurrence.new.arrows.items row c.occurrences.number-index (get_or row c.occurrences.number-index 0) c.occurrence.result.now
    (slice_get-get_or row c.occurrences.number-index 0 c.occurrences-test.true) c.occurrence.ensures c.occurrences.invariant
    c.in_ok-add_occurrence.ensures

pub returns : goal.returns
returns c =
    let row = c.on-number-items.result.now in
    let ended : length row ≤ c.occurrences.number-index = omega arith in
    let other : c.args.tree.position ≢ Top = λ same. (let bad = c.if-is_top.ensures.1 same in cc) in
    let Q = IsOccurrenceArrow c.args.scope.now.attributes.now c.args.tree.position in
    adds_as c.args.arrows.now.items c.occurrences.arrows.items
    (OnNonterminal c.args.scope.now.attributes.now.occurrences c.args.tree.nonterminal Q)
    (IsBelowArrow c.args.scope.now.attributes.now c.args.tree) (λ r. ((λ on. (other, on)), (λ below. below.1)))
    (row_all c.args.scope.now.attributes.now.occurrences c.args.scope.now.index.now c.requires c.args.tree.nonterminal Q
    c.args.arrows.now.items c.occurrences.arrows.items row c.on-number-items.ensures c.occurrences.number-index ended c.occurrences.invariant)
