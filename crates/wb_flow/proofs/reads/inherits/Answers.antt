use Rattle.std.proofs.Common.{◌≤◌, get_or, length, arith}
use Rattle.std.proofs.lemmas.Option.{slice_get-get_or}
use Rattle.wb_flow.proofs.RowLemmas.{row_within}
use Rattle.wb_flow.proofs.IndexLemmas.{downs_more, downs_all}
use Rattle.wb_flow.proofs.reads.inherits.Goals as goal

pub occurrences-init : goal.occurrences-init
occurrences-init c j n o lt = absurd (omega (arith, lt))

pub occurrence-requires : goal.occurrence-requires
occurrence-requires c =
    row_within c.args.scope.now.attributes.now.occurrences c.args.scope.now.index.now c.requires c.args.nonterminal
    c.on-number-items.result.now c.on-number-items.ensures c.occurrences.number-index 0 c.occurrences-test.true

pub occurrences-preserved : goal.occurrences-preserved
occurrences-preserved c =
    let row = c.on-number-items.result.now in
    let n = get_or row c.occurrences.number-index 0 in
    downs_more c.args.scope.now.attributes.now row c.occurrences.number-index n c.occurrence.result.now
    (slice_get-get_or row c.occurrences.number-index 0 c.occurrences-test.true) c.occurrence.ensures
    (λ goes. let bad = c.if-is_inherited.ensures.1 goes in cc) c.occurrences.invariant

pub returns : goal.returns
returns c same =
    let row = c.on-number-items.result.now in
    let ended : length row ≤ c.occurrences.number-index = omega arith in
    downs_all c.args.scope.now.attributes.now c.args.scope.now.index.now c.requires c.args.nonterminal row c.on-number-items.ensures
    c.occurrences.number-index ended c.occurrences.invariant
