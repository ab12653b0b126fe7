use Rattle.std.proofs.Common.{◌<◌, length, ap, inl, arith}
use Rattle.wb_base.specs.Grammar.{GrammarView}
use Rattle.wb_digraph.proofs.OpenLemmas.{first_read, read_opens, row_at, row_some}
use Rattle.wb_digraph.proofs.numbers.stand_in.Goals as goal

pub bounds-numbers-0 : goal.bounds-numbers-0
bounds-numbers-0 c =
    let lt : c.args.item.production < length c.args.context.now.grammar.now.productions =
    (let e = c.productions.ensures.count in let f = c.if-item-productions.false in omega (arith, e, f)) in
    let opens = read_opens c.args.item c.left-left.result c.requires.of_grammar (let z = c.if-item-gt0.false in omega (arith, z)) lt
    c.left-left.ensures.left in
    let below : c.left-left.result < length c.args.context.now.productions.now =
    (let e = c.requires.are_productions.len in let f = c.left-left.ensures.in_range in
    let g = ap (λ (g : GrammarView). g.nonterminals) c.requires.of_grammar in omega (arith, e, f, g)) in
    let at = row_at c.args.context.now.productions.now c.left-left.result c.as_slice-numbers.result.now _ below c.as_slice-numbers.ensures in
    let some = row_some c.requires.are_productions c.left-left.result c.args.item c.as_slice-numbers.result.now opens at in
    some

pub returns : goal.returns
returns c =
    let lt : c.args.item.production < length c.args.context.now.grammar.now.productions =
    (let e = c.productions.ensures.count in let f = c.if-item-productions.false in omega (arith, e, f)) in
    let opens = read_opens c.args.item c.left-left.result c.requires.of_grammar (let z = c.if-item-gt0.false in omega (arith, z)) lt
    c.left-left.ensures.left in
    let below : c.left-left.result < length c.args.context.now.productions.now =
    (let e = c.requires.are_productions.len in let f = c.left-left.ensures.in_range in
    let g = ap (λ (g : GrammarView). g.nonterminals) c.requires.of_grammar in omega (arith, e, f, g)) in
    let at = row_at c.args.context.now.productions.now c.left-left.result c.as_slice-numbers.result.now _ below c.as_slice-numbers.ensures in
    let some = row_some c.requires.are_productions c.left-left.result c.args.item c.as_slice-numbers.result.now opens at in
    inl (c.left-left.result, opens, first_read c.args.context.now.productions.now c.left-left.result 0 c.as_slice-numbers.result.now at some)
