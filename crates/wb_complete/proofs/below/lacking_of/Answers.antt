use Rattle.std.proofs.Common.{get_or, refl, subst}
use Rattle.std.proofs.lemmas.Option.{slice_get-get_or}
use Rattle.wb_lemmas.proofs.Members.{contains_at, place_of}
use Rattle.wb_flow.specs.Rules.{attribute_at, IsDefined}
use Rattle.wb_flow.proofs.EachLemmas.{each_more, each_all}
use Rattle.wb_complete.proofs.below.lacking_of.Goals as goal

pub needs-preserved : goal.needs-preserved
needs-preserved c =
    let production = c.args.production.now in
    let needs = c.args.needs.now in
    each_more needs (λ i. IsDefined production (attribute_at c.args.at i)) c.needs.inherited-index (get_or needs c.needs.inherited-index 0)
    (slice_get-get_or needs c.needs.inherited-index 0 c.needs-test.true) c.needs.invariant
    (subst (IsDefined production) c.inherited_at-vertex.ensures ((c.requires.defined c.inherited_at-vertex.result).0
    (c.if-not-contains.ensures.0 refl)))

pub returns-clause-none : goal.returns-clause-none
returns-clause-none c i listed =
    let (k, at) = place_of c.args.needs.now i listed in
    each_all c.args.needs.now (λ z. IsDefined c.args.production.now (attribute_at c.args.at z)) c.needs.inherited-index
    c.needs-test.false c.needs.invariant k i at

pub returns-then-not-contains-clause-some : goal.returns-then-not-contains-clause-some
returns-then-not-contains-clause-some c =
    let needs = c.args.needs.now in
    let i = get_or needs c.needs.inherited-index 0 in
    let there = slice_get-get_or needs c.needs.inherited-index 0 c.needs-test.true in (
      i,
      contains_at needs i c.needs.inherited-index there,
      c.inherited_at-vertex.ensures,
      (λ defined. let bad = c.if-not-contains.ensures.1 ((c.requires.defined c.inherited_at-vertex.result).1 defined) in cc),
    )
