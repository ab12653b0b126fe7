-- The name at this number is one of the grammar, then one of a hole, and then none.
use Rattle.std.proofs.Common.{◌≡◌, ◌<◌, ◌≤◌, ◌-◌, IfOk, Some, None, slice_get, subst, ap, ◌∙◌}
use Rattle.wb_syntax_resolved.specs.declared.resolved.ResolvedParts.{ResolvedParts}
use Rattle.wb_certify_files.specs.Names.{productions_in}
use Rattle.wb_certify_files.proofs.HoleLemmas.{reduction_before, reduction_hole, reduction_none}
use Rattle.wb_explain_conflicts.proofs.ListLemmas.{at_place, past_end}
use Rattle.wb_explain_conflicts.proofs.names.reduction_name.Goals as goal

pub returns-then-number-productions : goal.returns-then-number-productions
returns-then-number-productions c =
    let r = c.args.resolved.now in
    let count : c.productions_in-productions.result ≡ productions_in r.grammar =
    c.productions_in-productions.ensures ∙ ap (λ (z : ResolvedParts). productions_in z.grammar) c.parts-parts.ensures.parts in
    let below : c.args.number < productions_in r.grammar = subst (λ z. c.args.number < z) count c.if-number-productions.true in
    subst (λ z. IfOk c.production_name.result (λ name. name ≡ z)) (reduction_before r c.parts-parts.ensures.whole c.args.number below)
    c.production_name.ensures

pub returns-in-Some : goal.returns-in-Some
returns-in-Some c =
    let r = c.args.resolved.now in
    let n = c.in-Some.nonterminal.now in
    let count : c.productions_in-productions.result ≡ productions_in r.grammar =
    c.productions_in-productions.ensures ∙ ap (λ (z : ResolvedParts). productions_in z.grammar) c.parts-parts.ensures.parts in
    let above : productions_in r.grammar ≤ c.args.number = subst (λ z. z ≤ c.args.number) count c.if-number-productions.false in
    let same = c.as_slice.ensures ∙ ap (λ (z : ResolvedParts). z.extensible) c.parts-parts.ensures.parts in
    let at : slice_get r.extensible (c.args.number - productions_in r.grammar) ≡ Some n =
    subst (λ z. slice_get r.extensible (c.args.number - z) ≡ Some n) count
    (at_place r.extensible c.as_slice.result.now (c.args.number - c.productions_in-productions.result) n c.in-Some.ensures.lookup.0
    c.in-Some.ensures.lookup.1 same) in
    subst (λ z. IfOk c.hole_name.result (λ name. name ≡ z)) (reduction_hole r c.parts-parts.ensures.whole c.args.number above n at)
    c.hole_name.ensures

pub returns-in-None : goal.returns-in-None
returns-in-None c =
    let r = c.args.resolved.now in
    let count : c.productions_in-productions.result ≡ productions_in r.grammar =
    c.productions_in-productions.ensures ∙ ap (λ (z : ResolvedParts). productions_in z.grammar) c.parts-parts.ensures.parts in
    let above : productions_in r.grammar ≤ c.args.number = subst (λ z. z ≤ c.args.number) count c.if-number-productions.false in
    let same = c.as_slice.ensures ∙ ap (λ (z : ResolvedParts). z.extensible) c.parts-parts.ensures.parts in
    let none : slice_get r.extensible (c.args.number - productions_in r.grammar) ≡ None =
    subst (λ z. slice_get r.extensible (c.args.number - z) ≡ None) count
    (past_end r.extensible c.as_slice.result.now (c.args.number - c.productions_in-productions.result) c.in-None.ensures.lookup.0 same) in
    c.empty.ensures ∙ reduction_none r c.parts-parts.ensures.whole c.args.number above none
