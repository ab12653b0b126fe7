use Rattle.std.proofs.Common.{◌≡◌, ◌<◌, length, get_or, Some, sym, ◌∙◌, ap, subst, inl, inr, arith}
use Rattle.std.specs.Prelude.{slice_get}
use Rattle.std.proofs.lemmas.List.Elements.{Contains-get_or}
use Rattle.std.proofs.lemmas.Option.{slice_get-get_or}
use Rattle.wb_grammar_theory.specs.Items.{initial_item}
use Rattle.wb_items.specs.Table.{AreProductionsOf}
use Rattle.wb_lookahead.specs.Inner.Spreading.{IsItemPassed}
use Rattle.wb_lookahead.proofs.PassLemmas.{passed_kept}
use Rattle.wb_lookahead.proofs.PlaceLemmas.{productions_here}
use Rattle.wb_lookahead.proofs.SpreadLemmas.{spreads_then, contains_more, contains_all}
use Rattle.wb_lookahead.proofs.propagate.pass_all.Goals as goal

pub pass_item-requires-clause-has : goal.pass_item-requires-clause-has
pass_item-requires-clause-has c =
    let numbers = c.as_slice-numbers.result.now in
    let lt : c.args.nonterminal < length c.args.context.now.productions.now = (let e = c.requires.context.are_productions.len in let f =
    c.requires.nonterminal in omega (arith, e, f)) in
    let at : slice_get c.args.context.now.productions.now c.args.nonterminal ≡ Some numbers =
    slice_get-get_or c.args.context.now.productions.now c.args.nonterminal c.index-context-nonterminal.result lt ∙
    ap Some (sym c.as_slice-numbers.ensures) in
    let are : AreProductionsOf c.args.context.now.kernels.now.grammar c.args.nonterminal numbers =
    productions_here c.args.context.now.kernels.now c.requires.context.of_grammar c.args.context.now.productions.now
    c.requires.context.are_productions c.args.nonterminal numbers at in
    let q = get_or numbers c.productions.production-index 0 in
    let (right, rule) = are.sound q (Contains-get_or numbers c.productions.production-index 0 c.productions-test.true) in
    c.requires.has q right rule

pub pass_item-requires-clause-flows : goal.pass_item-requires-clause-flows
pass_item-requires-clause-flows c =
    let numbers = c.as_slice-numbers.result.now in
    let lt : c.args.nonterminal < length c.args.context.now.productions.now = (let e = c.requires.context.are_productions.len in let f =
    c.requires.nonterminal in omega (arith, e, f)) in
    let at : slice_get c.args.context.now.productions.now c.args.nonterminal ≡ Some numbers =
    slice_get-get_or c.args.context.now.productions.now c.args.nonterminal c.index-context-nonterminal.result lt ∙
    ap Some (sym c.as_slice-numbers.ensures) in
    let are : AreProductionsOf c.args.context.now.kernels.now.grammar c.args.nonterminal numbers =
    productions_here c.args.context.now.kernels.now c.requires.context.of_grammar c.args.context.now.productions.now
    c.requires.context.are_productions c.args.nonterminal numbers at in
    let q = get_or numbers c.productions.production-index 0 in
    let (right, rule) = are.sound q (Contains-get_or numbers c.productions.production-index 0 c.productions-test.true) in
    λ t has. c.requires.flows q t right rule has

pub productions-preserved : goal.productions-preserved
productions-preserved c = record {
  sound = c.in_ok-pass_item.ensures.sound;
  spreads = spreads_then c.productions.invariant.spreads c.in_ok-pass_item.ensures.spreads;
  passed = λ q t there has. elim
      (contains_more c.as_slice-numbers.result.now c.productions.production-index 0 q c.productions-test.true there) [
        | inl before ↦ passed_kept c.productions.lookaheads c.in_ok-pass_item.ensures.spreads.keeps
            (c.productions.invariant.passed q t before has)
        | inr same ↦ subst (λ z. IsItemPassed c.args.context.now.kernels.now c.pass_item.new.lookaheads c.args.state
            (initial_item z) t) same
            (c.in_ok-pass_item.ensures.passed t has)
      ];
}

pub returns-clause-passed : goal.returns-clause-passed
returns-clause-passed c =
    let numbers = c.as_slice-numbers.result.now in
    let lt : c.args.nonterminal < length c.args.context.now.productions.now = (let e = c.requires.context.are_productions.len in let f =
    c.requires.nonterminal in omega (arith, e, f)) in
    let at : slice_get c.args.context.now.productions.now c.args.nonterminal ≡ Some numbers =
    slice_get-get_or c.args.context.now.productions.now c.args.nonterminal c.index-context-nonterminal.result lt ∙
    ap Some (sym c.as_slice-numbers.ensures) in
    let are : AreProductionsOf c.args.context.now.kernels.now.grammar c.args.nonterminal numbers =
    productions_here c.args.context.now.kernels.now c.requires.context.of_grammar c.args.context.now.productions.now
    c.requires.context.are_productions c.args.nonterminal numbers at in
    λ q t right rule has. c.productions.invariant.passed q t (contains_all numbers c.productions.production-index q c.productions-test.false
    (are.complete q right rule)) has
