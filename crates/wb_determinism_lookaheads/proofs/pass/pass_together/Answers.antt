use Rattle.std.proofs.Common.{◌≡◌, ◌<◌, ◌∙◌, Some, get_or, length, sym, ap, refl, inl, arith}
use Rattle.std.specs.Prelude.{slice_get}
use Rattle.std.proofs.lemmas.List.Elements.{Contains-get_or}
use Rattle.std.proofs.lemmas.Option.{slice_get-get_or}
use Rattle.wb_grammar_theory.specs.Items.{initial_item}
use Rattle.wb_determinism_lookaheads.specs.Inner.Spreading.{both_of}
use Rattle.wb_determinism_lookaheads.proofs.TogetherLemmas.{rules_together}
use Rattle.wb_determinism_lookaheads.proofs.pass.pass_together.Goals as goal

pub pass_item-requires-clause-holds : goal.pass_item-requires-clause-holds
pass_item-requires-clause-holds c = c.requires.holds c.args.one (inl refl)

pub pass_item-requires-in-productions-clause-holds : goal.pass_item-requires-in-productions-clause-holds
pass_item-requires-in-productions-clause-holds c =
    let x = c.args.context.now in
    let numbers = c.as_slice-numbers.result.now in
    let (dot, below) = c.stands_alone.ensures.others c.if-stands_alone.false in
    let lt : c.left-left.result < length x.rules.now = (let e = c.requires.context.rules.len in
    omega (arith, e, c.left-left.ensures.in_range)) in
    let at : slice_get x.rules.now c.left-left.result ≡ Some numbers =
    slice_get-get_or x.rules.now c.left-left.result c.index-context-left.result lt ∙ ap Some (sym c.as_slice-numbers.ensures) in
    let q = get_or numbers c.productions.production-index 0 in
    c.requires.holds (initial_item q)
    (rules_together (both_of x) x.rules.now c.requires.context.rules c.args.one c.left-left.result numbers dot below
    c.left-left.ensures.left at q
    (Contains-get_or numbers c.productions.production-index 0 c.productions-test.true))
