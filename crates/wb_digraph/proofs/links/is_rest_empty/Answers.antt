use Rattle.std.proofs.Common.{◌≡◌, ◌+◌, ◌<◌, ◌≤◌, length, refl, ap, arith}
use Rattle.std.proofs.lemmas.Bool.{le-leb, leb-true}
use Rattle.wb_lemmas.proofs.Places.{at_within}
use Rattle.wb_base.specs.Grammar.{GrammarView}
use Rattle.wb_digraph.proofs.StepLemmas.{tail_empty, top_empty}
use Rattle.wb_digraph.proofs.links.is_rest_empty.Goals as goal

pub returns-then-item-productions : goal.returns-then-item-productions
returns-then-item-productions c = λ x rest is.
    let past : length c.args.context.now.kernels.now.grammar.productions ≤ c.args.item.production =
    (let e = c.productions.ensures.count in
    let f = ap (λ (g : GrammarView). length g.productions) c.requires.context.of_grammar in
    let g = c.if-item-productions.true in omega (arith, e, f, g)) in
    (λ _. top_empty c.args.context.now.kernels.now.grammar c.args.item x rest past is, λ _. refl)

pub returns : goal.returns
returns c = λ x rest is.
    let lt : c.args.item.production < length c.args.context.now.kernels.now.grammar.productions =
    (let e = c.productions.ensures.count in
    let f = ap (λ (g : GrammarView). length g.productions) c.requires.context.of_grammar in
    let g = c.if-item-productions.false in omega (arith, e, f, g)) in
    let (rule, at) = at_within c.args.context.now.kernels.now.grammar.productions c.args.item.production lt in
    let one = tail_empty c.args.context.now.kernels.now.grammar c.args.item rule.0 _ rule.1 x rest at
    (c.requires.context.are_tails.each c.args.item.production rule.0 rule.1 lt at) is in
    (λ holds. one.0 (leb-true _ _ holds), λ empty. le-leb _ _ (one.1 empty))
