use Rattle.std.proofs.Common.{◌≡◌, ◌≤◌, ◌<◌, ◌∙◌, Contains, List, ap, get_or, length, refl, subst}
use Rattle.std.proofs.lemmas.List.{take_all}
use Rattle.wb_lemmas.proofs.Members.{contains_at}
use Rattle.wb_lemmas.proofs.Places.{read_at}
use Rattle.wb_syntax_resolved.specs.declared.attribution.AttributionParts.{AttributionParts}
use Rattle.wb_syntax_resolved.specs.declared.production.Production.{Production}
use Rattle.wb_names.specs.Inner.Bodies.{file_of}
use Rattle.wb_names.specs.Inner.Now.{IsExtendedNow}
use Rattle.wb_names.specs.Inner.Rows.{AddsProductions, has_concrete}
use Rattle.wb_names.proofs.ProductionsGrouped.{nothing_added, next_added}
use Rattle.wb_names.proofs.productions.add_base.Goals as goal

pub add_extended-requires-clause-there : goal.add_extended-requires-clause-there
add_extended-requires-clause-there c =
    let rows = c.as_slice-productions.result.now in
    let i = c.loop-production.production-index in
    let x = c.production-item.result in
    subst (λ (z : List Production). Contains z x)
    (c.as_slice-productions.ensures ∙ ap (λ (a : AttributionParts). a.productions) c.parts.ensures.parts)
    (contains_at rows x i (read_at rows rows i x refl c.loop-production-test.true c.production-item.is))

pub loop-production-init : goal.loop-production-init
loop-production-init c =
    let context = c.args.context.now in
    nothing_added has_concrete (IsExtendedNow (file_of context) context.scope.now context.moves.now) c.args.made.now

pub loop-production-preserved : goal.loop-production-preserved
loop-production-preserved c =
    let context = c.args.context.now in
    let all = context.file.base.now.attributes.productions in
    let i = c.loop-production.production-index in
    let x = c.production-item.result in
    let same : c.as_slice-productions.result.now ≡ all =
    c.as_slice-productions.ensures ∙ ap (λ (a : AttributionParts). a.productions) c.parts.ensures.parts in
    let within : i < length all = subst (λ (z : List Production). i < length z) same c.loop-production-test.true in
    let is : x ≡ get_or all i x = subst (λ (z : List Production). x ≡ get_or z i x) same c.production-item.is in
    next_added has_concrete (IsExtendedNow (file_of context) context.scope.now context.moves.now) all i x c.args.made.now
    c.loop-production.made c.add_extended.new.made c.loop-production.invariant within is c.in_ok-add_extended.ensures

pub returns : goal.returns
returns c =
    let context = c.args.context.now in
    let all = context.file.base.now.attributes.productions in
    let i = c.loop-production.production-index in
    let R = IsExtendedNow (file_of context) context.scope.now context.moves.now in
    let same : c.as_slice-productions.result.now ≡ all =
    c.as_slice-productions.ensures ∙ ap (λ (a : AttributionParts). a.productions) c.parts.ensures.parts in
    subst (λ (z : List Production). AddsProductions has_concrete R z c.args.made.now c.loop-production.made)
    (take_all i all (subst (λ (z : List Production). length z ≤ i) same c.loop-production-test.false)) c.loop-production.invariant
