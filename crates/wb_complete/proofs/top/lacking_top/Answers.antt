use Rattle.std.proofs.Common.{◌≡◌, ◌≤◌, Some, length, get_or, slice_get, refl, arith}
use Rattle.std.proofs.lemmas.Option.{slice_get-get_or}
use Rattle.wb_lemmas.proofs.Members.{contains_at}
use Rattle.wb_flow.specs.declared.vertex.Vertex.TheVariants as v
use Rattle.wb_flow.proofs.EachLemmas.{each_more, each_all}
use Rattle.wb_flow.proofs.IndexLemmas.{row_number, on_of_number}
use Rattle.wb_flow.proofs.RowLemmas.{row_within}
use Rattle.wb_syntax_resolved.specs.declared.attributes.Occurrence.{Occurrence}
use Rattle.wb_complete.specs.Inner.Tests.{DefinesAttribute}
use Rattle.wb_complete.proofs.TestLemmas.{defines_top, lacks_top, of_row, of_number, none_forwards}
use Rattle.wb_complete.proofs.top.lacking_top.Goals as goal

pub occurrence-requires : goal.occurrence-requires
occurrence-requires c =
    row_within c.args.scope.now.attributes.now.occurrences c.args.scope.now.index.now c.requires.index c.args.production.now.left
    c.on-place-items.result.now c.on-place-items.ensures c.occurrences.place-index 0 c.occurrences-test.true

pub returns-then-not-contains-clause-some : goal.returns-then-not-contains-clause-some
returns-then-not-contains-clause-some c =
    let a = c.args.scope.now.attributes.now in
    let row = c.on-place-items.result.now in
    let n = get_or row c.occurrences.place-index 0 in
    let o = c.occurrence.result.now in
    let there = slice_get-get_or row c.occurrences.place-index 0 c.occurrences-test.true in
    let on = row_number a.occurrences c.args.scope.now.index.now c.requires.index c.args.production.now.left row c.on-place-items.ensures
    c.occurrences.place-index n there in
    lacks_top a c.args.production.now o (contains_at a.occurrences o n c.occurrence.ensures)
    (on_of_number a.occurrences c.args.production.now.left n o on c.occurrence.ensures) (c.if-not-is_synthesized.ensures.0 refl)
    (λ defined. let bad = c.if-not-contains.ensures.1 ((c.requires.defined (v.Top o.attribute)).1 defined) in cc)
    (none_forwards c.args.production.now c.in-None.is)

pub occurrences-preserved-then-not-is_synthesized : goal.occurrences-preserved-then-not-is_synthesized
occurrences-preserved-then-not-is_synthesized c =
    let a = c.args.scope.now.attributes.now in
    let row = c.on-place-items.result.now in
    each_more row (λ n. (o : Occurrence) → slice_get a.occurrences n ≡ Some o → DefinesAttribute a c.args.production.now o)
    c.occurrences.place-index (get_or row c.occurrences.place-index 0)
    (slice_get-get_or row c.occurrences.place-index 0 c.occurrences-test.true) c.occurrences.invariant
    (of_number a.occurrences (DefinesAttribute a c.args.production.now) (get_or row c.occurrences.place-index 0)
    c.occurrence.result.now c.occurrence.ensures
    (λ goes. absurd (let bad = c.if-not-is_synthesized.ensures.1 goes in cc)))

pub occurrences-preserved : goal.occurrences-preserved
occurrences-preserved c =
    let a = c.args.scope.now.attributes.now in
    let row = c.on-place-items.result.now in
    each_more row (λ n. (o : Occurrence) → slice_get a.occurrences n ≡ Some o → DefinesAttribute a c.args.production.now o)
    c.occurrences.place-index (get_or row c.occurrences.place-index 0)
    (slice_get-get_or row c.occurrences.place-index 0 c.occurrences-test.true) c.occurrences.invariant
    (of_number a.occurrences (DefinesAttribute a c.args.production.now) (get_or row c.occurrences.place-index 0)
    c.occurrence.result.now c.occurrence.ensures
    (λ goes. (c.requires.defined (v.Top c.occurrence.result.now.attribute)).0 (c.if-not-contains.ensures.0 refl)))

pub returns-clause-none : goal.returns-clause-none
returns-clause-none c =
    let a = c.args.scope.now.attributes.now in
    let row = c.on-place-items.result.now in
    let ended : length row ≤ c.occurrences.place-index = omega arith in
    defines_top a c.args.production.now
    (of_row a c.args.scope.now.index.now c.requires.index c.args.production.now.left row c.on-place-items.ensures
    (DefinesAttribute a c.args.production.now)
    (each_all row (λ n. (o : Occurrence) → slice_get a.occurrences n ≡ Some o → DefinesAttribute a c.args.production.now o)
    c.occurrences.place-index ended c.occurrences.invariant))
