-- The name at this number is one of the grammar, then one of a hole, and then the end of a text.
use Rattle.std.proofs.Common.{◌≡◌, ◌<◌, ◌≤◌, ◌-◌, IfOk, Some, None, slice_get, subst, ap, ◌∙◌}
use Rattle.wb_syntax_resolved.specs.declared.resolved.ResolvedParts.{ResolvedParts}
use Rattle.wb_certify_files.specs.Names.{terminals_in}
use Rattle.wb_certify_files.proofs.HoleLemmas.{lookahead_before, lookahead_hole, lookahead_end}
use Rattle.wb_explain_conflicts.proofs.ListLemmas.{at_place, past_end}
use Rattle.wb_explain_conflicts.proofs.names.lookahead_name.Goals as goal

pub returns-then-number-terminals : goal.returns-then-number-terminals
returns-then-number-terminals c =
    let r = c.args.resolved.now in
    let count : c.terminals_in-terminals.result ≡ terminals_in r.grammar =
    c.terminals_in-terminals.ensures ∙ ap (λ (z : ResolvedParts). terminals_in z.grammar) c.parts-parts.ensures.parts in
    let below : c.args.number < terminals_in r.grammar = subst (λ z. c.args.number < z) count c.if-number-terminals.true in
    subst (λ z. IfOk c.terminal_name.result (λ name. name ≡ z)) (lookahead_before r c.parts-parts.ensures.whole c.args.number below)
    c.terminal_name.ensures

pub returns-in-Some : goal.returns-in-Some
returns-in-Some c =
    let r = c.args.resolved.now in
    let n = c.in-Some.nonterminal.now in
    let count : c.terminals_in-terminals.result ≡ terminals_in r.grammar =
    c.terminals_in-terminals.ensures ∙ ap (λ (z : ResolvedParts). terminals_in z.grammar) c.parts-parts.ensures.parts in
    let above : terminals_in r.grammar ≤ c.args.number = subst (λ z. z ≤ c.args.number) count c.if-number-terminals.false in
    let same = c.as_slice.ensures ∙ ap (λ (z : ResolvedParts). z.extensible) c.parts-parts.ensures.parts in
    let at : slice_get r.extensible (c.args.number - terminals_in r.grammar) ≡ Some n =
    subst (λ z. slice_get r.extensible (c.args.number - z) ≡ Some n) count
    (at_place r.extensible c.as_slice.result.now (c.args.number - c.terminals_in-terminals.result) n c.in-Some.ensures.lookup.0
    c.in-Some.ensures.lookup.1 same) in
    subst (λ z. IfOk c.hole_name.result (λ name. name ≡ z)) (lookahead_hole r c.parts-parts.ensures.whole c.args.number above n at)
    c.hole_name.ensures

pub returns-in-None : goal.returns-in-None
returns-in-None c =
    let r = c.args.resolved.now in
    let count : c.terminals_in-terminals.result ≡ terminals_in r.grammar =
    c.terminals_in-terminals.ensures ∙ ap (λ (z : ResolvedParts). terminals_in z.grammar) c.parts-parts.ensures.parts in
    let above : terminals_in r.grammar ≤ c.args.number = subst (λ z. z ≤ c.args.number) count c.if-number-terminals.false in
    let same = c.as_slice.ensures ∙ ap (λ (z : ResolvedParts). z.extensible) c.parts-parts.ensures.parts in
    let none : slice_get r.extensible (c.args.number - terminals_in r.grammar) ≡ None =
    subst (λ z. slice_get r.extensible (c.args.number - z) ≡ None) count
    (past_end r.extensible c.as_slice.result.now (c.args.number - c.terminals_in-terminals.result) c.in-None.ensures.lookup.0 same) in
    subst (λ z. IfOk c.from_slice.result (λ name. name ≡ z)) (lookahead_end r c.parts-parts.ensures.whole c.args.number above none)
    c.from_slice.ensures.ok
