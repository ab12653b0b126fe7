use Rattle.std.proofs.Common.{◌∙◌, ◌∷◌, sym, ap, subst}
use Rattle.std.proofs.lemmas.Bool.{true≢false}
use Rattle.wb_base.specs.declared.symbol.Symbol.{Symbol}
use Rattle.wb_determinism_lookaheads.specs.Inner.Spreading.{IsSlot}
use Rattle.wb_determinism_lookaheads.proofs.PassedLemmas.{opened_listed}
use Rattle.wb_determinism_lookaheads.proofs.test_open.is_opened.Goals as goal

pub returns-then-not-rest : goal.returns-then-not-rest
returns-then-not-rest c = λ _.
    let x = c.args.context.now in
    let (rest, is) = c.requires.symbol in
    let (p, e, of) = c.in-Some.ensures in
    let here = is ∙ ap (λ (z : Symbol). z ∷ rest) c.in-Nonterminal.is in
    opened_listed x c.args.sets.now c.args.place c.args.item c.in-Nonterminal.nonterminal p c.in-Some-slot_place.at c.args.set.now rest
    c.in-Some-rest_after.rest.now here of (subst (IsSlot x c.args.place c.in-Some-slot_place.at) e c.in-Some-slot_place.ensures)
    (c.in-Some-rest_after.ensures _ rest here) (c.is_within.ensures c.if-not-is_within.false)
    (λ empty. absurd (true≢false (sym empty ∙ c.if-not-rest.true)))

pub returns-else-not-rest : goal.returns-else-not-rest
returns-else-not-rest c = λ holds.
    let x = c.args.context.now in
    let (rest, is) = c.requires.symbol in
    let (p, e, of) = c.in-Some.ensures in
    let here = is ∙ ap (λ (z : Symbol). z ∷ rest) c.in-Nonterminal.is in
    opened_listed x c.args.sets.now c.args.place c.args.item c.in-Nonterminal.nonterminal p c.in-Some-slot_place.at c.args.set.now rest
    c.in-Some-rest_after.rest.now here of (subst (IsSlot x c.args.place c.in-Some-slot_place.at) e c.in-Some-slot_place.ensures)
    (c.in-Some-rest_after.ensures _ rest here) (c.is_within.ensures c.if-not-is_within.false)
    (λ empty. c.is_within-else-not-rest.ensures holds)
