use Rattle.std.proofs.Common.{◌≡◌, ◌∙◌, Bool, List, length, get_or, refl, sym, ap, subst}
use Rattle.wb_lemmas.proofs.Places.{at_once}
use Rattle.wb_lemmas.proofs.Refusals.{handed_on}
use Rattle.wb_flow_theory.specs.Occurrences.{ForwardNeeds}
use Rattle.wb_flow_theory.specs.Vertices.{made, forward}
use Rattle.wb_flow.specs.declared.refusal.AttributeRefusal.TheVariants.{NoMemory}
use Rattle.wb_flow.specs.declared.vertex.Vertex.TheVariants.{Top, Forward}
use Rattle.wb_flow.specs.Tops.{IsSelection}
use Rattle.wb_flow.proofs.ArrowLemmas.{below_rule}
use Rattle.wb_flow.proofs.ReachLemmas.{has_set, beyond_leads, none_beyond, selection_with}
use Rattle.wb_flow.proofs.ReadLemmas.{known_production, read_vertex_at}
use Rattle.wb_complete.specs.Inner.ForwardTests.{IsAllowed, KeepsFrom, RefusesProduction}
use Rattle.wb_complete.proofs.ForwardLemmas.{defined_goes, keeps_from, reads_outside}
use Rattle.wb_complete.proofs.equations.check_from.Goals as goal

pub returns-in_err-allowed-clause-refused : goal.returns-in_err-allowed-clause-refused
returns-in_err-allowed-clause-refused c =
    let t = c.args.reading.now.tested.now in
    let refuses = RefusesProduction t.scope.now.attributes.now t.number t.production.now in
    handed_on (λ f. f ≡ NoMemory c.in_err-allowed.field-0.0) refuses c.from_residual.result (NoMemory c.in_err-allowed.field-0.0)
    c.from_residual.ensures.1 (λ f same. subst refuses (sym same) tt) refl

pub returns-in_default-clause-ok : goal.returns-in_default-clause-ok
returns-in_default-clause-ok c vertex at attribute is inherited_one rule reaches =
    let t = c.args.reading.now.tested.now in
    let there = read_vertex_at c.as_slice.result.now t.graph.now.vertices c.as_slice.ensures c.args.start (Top 0) c.requires.start in
    let same = at_once t.graph.now.vertices c.args.start (get_or c.as_slice.result.now c.args.start (Top 0)) vertex there at in
    absurd (c.in_default.ensures.none attribute (same ∙ is)
    ((c.requires.defined (Forward attribute)).1 (below_rule t.production.now (made forward) attribute rule)))

pub select-requires : goal.select-requires
select-requires c = ap (λ (z : List Bool). length z) c.in_ok-allowed.ensures ∙ c.requires.reading.allowed.len

pub first_outside-found-requires-clause-place : goal.first_outside-found-requires-clause-place
first_outside-found-requires-clause-place c =
    let r = c.args.reading.now in
    has_set r.tested.now.scope.now.attributes.now r.tested.now.graph.now r.reach.now c.requires.reading.reach c.args.start c.requires.start

pub first_outside-found-requires-clause-allowed : goal.first_outside-found-requires-clause-allowed
first_outside-found-requires-clause-allowed c =
    c.select.ensures.len ∙ ap (λ (z : List Bool). length z) c.in_ok-allowed.ensures ∙ c.requires.reading.allowed.len

pub returns-in_default-found-clause-ok : goal.returns-in_default-found-clause-ok
returns-in_default-found-clause-ok c vertex at =
    let r = c.args.reading.now in
    let t = r.tested.now in
    let a = t.scope.now.attributes.now in
    let v = get_or c.as_slice.result.now c.args.start (Top 0) in
    let there = read_vertex_at c.as_slice.result.now t.graph.now.vertices c.as_slice.ensures c.args.start (Top 0) c.requires.start in
    let known = known_production a c.requires.reading.tested.attribution t.number t.production.now c.requires.reading.tested.there in
    let x = c.in-Some.attribute in
    let needs = ForwardNeeds a t.production.now.left in
    let own = selection_with r.reach.now needs x c.in_ok-allowed.allowed c.select.new.set
    (subst (λ (z : List Bool). IsSelection r.reach.now needs z) (sym c.in_ok-allowed.ensures) c.requires.reading.allowed) c.select.ensures in
    subst (KeepsFrom a t.production.now) (at_once t.graph.now.vertices c.args.start v vertex there at)
    (keeps_from a c.requires.reading.tested.attribution t.production.now known t.graph.now c.requires.reading.tested.graph c.args.start v there
    x c.in-Some.ensures.some.0
    (none_beyond a t.graph.now r.reach.now c.requires.reading.reach c.args.start (IsAllowed a t.production.now x) c.select.new.set own
    c.requires.start c.in_default-found.ensures.none))

pub returns-clause-refused : goal.returns-clause-refused
returns-clause-refused c =
    let r = c.args.reading.now in
    let t = r.tested.now in
    let a = t.scope.now.attributes.now in
    let v = get_or c.as_slice.result.now c.args.start (Top 0) in
    let there = read_vertex_at c.as_slice.result.now t.graph.now.vertices c.as_slice.ensures c.args.start (Top 0) c.requires.start in
    let known = known_production a c.requires.reading.tested.attribution t.number t.production.now c.requires.reading.tested.there in
    let x = c.in-Some.attribute in
    let i = c.in-Some-found.inherited in
    let needs = ForwardNeeds a t.production.now.left in
    let own = selection_with r.reach.now needs x c.in_ok-allowed.allowed c.select.new.set
    (subst (λ (z : List Bool). IsSelection r.reach.now needs z) (sym c.in_ok-allowed.ensures) c.requires.reading.allowed) c.select.ensures in
    let (leads, lacks) = beyond_leads a t.graph.now r.reach.now c.requires.reading.reach c.args.start (IsAllowed a t.production.now x)
    c.select.new.set own i c.in-Some-found.ensures.some in
    let defined = (c.requires.defined (Forward x)).0 c.in-Some.ensures.some.1 in (
      refl,
      reads_outside a c.requires.reading.tested.attribution t.production.now known t.graph.now c.requires.reading.tested.graph c.args.start v
          there x c.in-Some.ensures.some.0 (defined_goes a t.production.now known x defined) defined i leads lacks,
    )
