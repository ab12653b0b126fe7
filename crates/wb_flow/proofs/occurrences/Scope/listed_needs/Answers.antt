use Rattle.std.proofs.Common.{◌≤◌, ℕ, List, Contains, get_or, length, sym, subst, arith}
use Rattle.std.specs.Prelude.{◌↔◌}
use Rattle.std.proofs.lemmas.Option.{slice_get-get_or}
use Rattle.wb_flow_theory.specs.Occurrences.{Needs}
use Rattle.wb_flow.proofs.IndexLemmas.{row_number, number_within, needs_found, others_more, needs_nothing, on_of_number}
use Rattle.wb_flow.proofs.occurrences.Scope.listed_needs.Goals as goal

pub occurrences-init : goal.occurrences-init
occurrences-init c j n o lt = omega (arith, lt)

pub occurrence-occurrence-requires : goal.occurrence-occurrence-requires
occurrence-occurrence-requires c =
    let a = c.args.self.now.attributes.now in
    let rows = c.args.self.now.index.now in
    let row = c.on-number-items.result.now in
    let at = slice_get-get_or row c.occurrences.number-index 0 c.occurrences-test.true in
    let n = get_or row c.occurrences.number-index 0 in
    number_within a.occurrences rows c.requires.index c.args.nonterminal n
    (row_number a.occurrences rows c.requires.index c.args.nonterminal row c.on-number-items.ensures c.occurrences.number-index n at)

pub returns-then-occurrence-attribute : goal.returns-then-occurrence-attribute
returns-then-occurrence-attribute c i =
    let a = c.args.self.now.attributes.now in
    let rows = c.args.self.now.index.now in
    let row = c.on-number-items.result.now in
    let at = slice_get-get_or row c.occurrences.number-index 0 c.occurrences-test.true in
    let n = get_or row c.occurrences.number-index 0 in
    let o = c.occurrence-occurrence.result.now in
    let on = row_number a.occurrences rows c.requires.index c.args.nonterminal row c.on-number-items.ensures
    c.occurrences.number-index n at in
    subst (λ (z : List ℕ). Contains z i ↔ Needs a c.args.attribute c.args.nonterminal i) (sym c.as_slice.ensures)
    (needs_found a c.requires.attribution rows c.requires.index c.args.nonterminal c.args.attribute n o c.occurrence-occurrence.ensures
    (on_of_number a.occurrences c.args.nonterminal n o on c.occurrence-occurrence.ensures) c.if-occurrence-attribute.true i)

pub occurrences-preserved : goal.occurrences-preserved
occurrences-preserved c =
    let a = c.args.self.now.attributes.now in
    let rows = c.args.self.now.index.now in
    let row = c.on-number-items.result.now in
    let at = slice_get-get_or row c.occurrences.number-index 0 c.occurrences-test.true in
    let n = get_or row c.occurrences.number-index 0 in
    others_more a c.requires.attribution rows c.requires.index c.args.nonterminal c.args.attribute row c.occurrences.number-index n
    c.occurrence-occurrence.result.now at c.occurrence-occurrence.ensures c.if-occurrence-attribute.false c.occurrences.invariant

pub returns : goal.returns
returns c =
    let row = c.on-number-items.result.now in
    let ended : length row ≤ c.occurrences.number-index = omega arith in
    needs_nothing c.args.self.now.attributes.now c.requires.attribution c.args.self.now.index.now c.requires.index c.args.nonterminal
    c.args.attribute row c.on-number-items.ensures c.occurrences.number-index ended c.occurrences.invariant
