use Rattle.std.proofs.Common.{arith, sym, ◌∙◌}
use Rattle.std.proofs.lemmas.Bool.{true≢false}
use Rattle.wb_digraph.proofs.EmptyLemmas.{empty_all, empty_more, empty_start, empty_stop}
use Rattle.wb_digraph.proofs.tails.empty_from.Goals as goal

pub symbols-init : goal.symbols-init
symbols-init c = record {
  within = omega arith;
  empty = empty_start c.args.grammar.now c.args.symbols.now;
}

pub symbols-preserved : goal.symbols-preserved
symbols-preserved c = record {
  within = (let h = c.symbols.invariant.within in omega (arith, h));
  empty = empty_more c.args.grammar.now c.args.symbols.now c.symbols.from _ c.symbols-test.true
      c.symbols.invariant.within
      (c.is_empty.ensures.0 c.if-not-is_empty.false) c.symbols.invariant.empty;
}

pub returns-then-not-is_empty : goal.returns-then-not-is_empty
returns-then-not-is_empty c =
    empty_stop c.args.grammar.now c.args.symbols.now c.symbols.from _ c.symbols-test.true c.symbols.invariant.within
    (λ empty. true≢false (sym (c.is_empty.ensures.1 empty) ∙ c.if-not-is_empty.true)) c.symbols.invariant.empty

pub returns : goal.returns
returns c =
    empty_all c.args.grammar.now c.args.symbols.now c.symbols.from c.symbols-test.false c.symbols.invariant.empty
