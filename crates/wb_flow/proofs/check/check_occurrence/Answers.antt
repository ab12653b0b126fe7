use Rattle.std.proofs.Common.{◌≤◌, Contains, length, get_or, refl, arith}
use Rattle.std.proofs.lemmas.Option.{slice_get-get_or}
use Rattle.wb_lemmas.proofs.Members.{contains_at, place_of}
use Rattle.wb_flow.proofs.EachLemmas.{lacks_need, each_more, each_all, not_contained, is_contained}
use Rattle.wb_flow.proofs.check.check_occurrence.Goals as goal

pub returns-then-not-contains-clause-refused : goal.returns-then-not-contains-clause-refused
returns-then-not-contains-clause-refused c =
    let items = c.forward_needs-inherited-items.result.now in
    let i = get_or items c.needs.inherited-index 0 in
    let at = slice_get-get_or items c.needs.inherited-index 0 c.needs-test.true in
    lacks_need c.args.scope.now.attributes.now c.requires.attribution c.args.occurrence.now c.requires.listed
    (c.if-not-is_synthesized.ensures.0 refl) i
    ((c.forward_needs-inherited-items.ensures i).0 (contains_at items i c.needs.inherited-index at))
    (not_contained c.as_slice.result.now c.args.occurrence.now.needs c.as_slice.ensures i c.contains.result c.contains.ensures.cases
    c.if-not-contains.true)

pub needs-preserved : goal.needs-preserved
needs-preserved c =
    let items = c.forward_needs-inherited-items.result.now in
    let i = get_or items c.needs.inherited-index 0 in
    each_more items (Contains c.args.occurrence.now.needs) c.needs.inherited-index i
    (slice_get-get_or items c.needs.inherited-index 0 c.needs-test.true) c.needs.invariant
    (is_contained c.as_slice.result.now c.args.occurrence.now.needs c.as_slice.ensures i c.contains.result c.contains.ensures.cases
    c.if-not-contains.false)

pub returns-clause-ok : goal.returns-clause-ok
returns-clause-ok c goes i forward =
    let items = c.forward_needs-inherited-items.result.now in
    let ended : length items ≤ c.needs.inherited-index = omega arith in
    let (k, at) = place_of items i ((c.forward_needs-inherited-items.ensures i).1 forward) in
    each_all items (Contains c.args.occurrence.now.needs) c.needs.inherited-index ended c.needs.invariant k i at
