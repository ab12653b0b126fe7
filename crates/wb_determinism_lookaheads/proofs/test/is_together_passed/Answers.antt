use Rattle.std.proofs.Common.{◌≡◌, ◌<◌, ◌∙◌, ℕ, Some, length, sym, ap, subst, arith}
use Rattle.std.specs.Prelude.{slice_get}
use Rattle.std.proofs.lemmas.Option.{slice_get-get_or}
use Rattle.wb_grammar_theory.specs.Items.{initial_item}
use Rattle.wb_determinism_lookaheads.specs.Inner.Spreading.{IsPassedOn, both_of}
use Rattle.wb_determinism_lookaheads.proofs.ListLemmas.{before_all, before_more}
use Rattle.wb_determinism_lookaheads.proofs.TogetherLemmas.{rules_all}
use Rattle.wb_determinism_lookaheads.proofs.test.is_together_passed.Goals as goal

pub returns-then-stands_alone : goal.returns-then-stands_alone
returns-then-stands_alone c = λ holds item belong.
    subst (λ z. IsPassedOn c.args.context.now c.args.sets.now c.args.place z c.args.set.now)
    (c.stands_alone.ensures.alone c.if-stands_alone.true item belong) (c.is_passed_on.ensures holds)

pub productions-preserved : goal.productions-preserved
productions-preserved c =
    before_more (λ (q : ℕ). IsPassedOn c.args.context.now c.args.sets.now c.args.place (initial_item q) c.args.set.now)
    c.as_slice-numbers.result.now c.productions.production-index 0 c.productions-test.true c.productions.invariant
    (c.is_passed_on-in-productions.ensures c.if-not-is_passed_on.false)

pub returns : goal.returns
returns c = λ _ item belong.
    let x = c.args.context.now in
    let numbers = c.as_slice-numbers.result.now in
    let (dot, below) = c.stands_alone.ensures.others c.if-stands_alone.false in
    let lt : c.left-left.result < length x.rules.now = (let e = c.requires.context.rules.len in
    omega (arith, e, c.left-left.ensures.in_range)) in
    let at : slice_get x.rules.now c.left-left.result ≡ Some numbers =
    slice_get-get_or x.rules.now c.left-left.result c.index-context-left.result lt ∙ ap Some (sym c.as_slice-numbers.ensures) in
    let (q, has, e) = rules_all (both_of x) x.rules.now c.requires.context.rules c.args.one c.left-left.result numbers dot below
    c.left-left.ensures.left at item belong in
    subst (λ z. IsPassedOn x c.args.sets.now c.args.place z c.args.set.now) (sym e)
    (before_all (λ (n : ℕ). IsPassedOn x c.args.sets.now c.args.place (initial_item n) c.args.set.now) numbers
    c.productions.production-index c.productions-test.false c.productions.invariant q has)
