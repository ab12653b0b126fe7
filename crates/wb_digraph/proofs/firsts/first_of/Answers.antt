use Rattle.std.proofs.Common.{◌≡◌, ◌<◌, ◌≤◌, length, ap, sym, subst, refl, arith}
use Rattle.std.proofs.lemmas.Option.{slice_get-get_or}
use Rattle.wb_base.specs.Grammar.{GrammarView}
use Rattle.wb_grammar_theory.specs.declared.item.Item.{Item}
use Rattle.wb_digraph.specs.Inner.Numbers.{none, opened, starts}
use Rattle.wb_digraph.proofs.NumberLemmas.{opener}
use Rattle.wb_digraph.proofs.OpenLemmas.{is_first_read, not_first_read, read_opens, row_at, row_some, start_is}
use Rattle.wb_digraph.proofs.firsts.first_of.Goals as goal

pub returns-then-item-productions : goal.returns-then-item-productions
returns-then-item-productions c =
    let (u, v) = c.requires.has in
    let past : length c.args.context.now.kernels.now.grammar.productions ≤ c.args.item.production =
    (let e = c.productions.ensures.count in
    let f = ap (λ (g : GrammarView). length g.productions) c.requires.context.of_grammar in
    let g = c.if-item-productions.true in omega (arith, e, f, g)) in
    starts (start_is v (let z = c.if-item-gt0.false in omega (arith, z)) past) refl

pub bounds-as_slice-0 : goal.bounds-as_slice-0
bounds-as_slice-0 c =
    let lt : c.args.item.production < length c.args.context.now.grammar.now.productions =
    (let e = c.productions.ensures.count in let f = c.if-item-productions.false in omega (arith, e, f)) in
    let opens = read_opens c.args.item c.left-left.result c.requires.context.of_grammar (let z = c.if-item-gt0.false in omega (arith, z)) lt
    c.left-left.ensures.left in
    let below : c.left-left.result < length c.args.context.now.productions.now =
    (let e = c.requires.context.are_productions.len in let f = c.left-left.ensures.in_range in
    let g = ap (λ (g : GrammarView). g.nonterminals) c.requires.context.of_grammar in omega (arith, e, f, g)) in
    let at = row_at c.args.context.now.productions.now c.left-left.result c.as_slice.result.now _ below c.as_slice.ensures in
    let some = row_some c.requires.context.are_productions c.left-left.result c.args.item c.as_slice.result.now opens at in
    some

pub returns-then-as_slice-item : goal.returns-then-as_slice-item
returns-then-as_slice-item c =
    let lt : c.args.item.production < length c.args.context.now.grammar.now.productions =
    (let e = c.productions.ensures.count in let f = c.if-item-productions.false in omega (arith, e, f)) in
    let opens = read_opens c.args.item c.left-left.result c.requires.context.of_grammar (let z = c.if-item-gt0.false in omega (arith, z)) lt
    c.left-left.ensures.left in
    let below : c.left-left.result < length c.args.context.now.productions.now =
    (let e = c.requires.context.are_productions.len in let f = c.left-left.ensures.in_range in
    let g = ap (λ (g : GrammarView). g.nonterminals) c.requires.context.of_grammar in omega (arith, e, f, g)) in
    let at = row_at c.args.context.now.productions.now c.left-left.result c.as_slice.result.now _ below c.as_slice.ensures in
    let some = row_some c.requires.context.are_productions c.left-left.result c.args.item c.as_slice.result.now opens at in
    none
    (not_first_read c.args.context.now.kernels.now.grammar c.args.context.now.productions.now c.left-left.result 0 c.args.item
    c.as_slice.result.now at opens (λ same. let d = c.if-as_slice-item.true in omega (arith, d, same)))
    (λ is. let e = ap (λ (i : Item). i.production) is in
    let f = ap (λ (g : GrammarView). length g.productions) c.requires.context.of_grammar in omega (arith, e, f, lt)) refl

pub next_of-next-requires-clause-has : goal.next_of-next-requires-clause-has
next_of-next-requires-clause-has c =
    let lt : c.args.item.production < length c.args.context.now.grammar.now.productions =
    (let e = c.productions.ensures.count in let f = c.if-item-productions.false in omega (arith, e, f)) in
    let opens = read_opens c.args.item c.left-left.result c.requires.context.of_grammar (let z = c.if-item-gt0.false in omega (arith, z)) lt
    c.left-left.ensures.left in
    let below : c.left-left.result < length c.args.context.now.productions.now =
    (let e = c.requires.context.are_productions.len in let f = c.left-left.ensures.in_range in
    let g = ap (λ (g : GrammarView). g.nonterminals) c.requires.context.of_grammar in omega (arith, e, f, g)) in
    let at = row_at c.args.context.now.productions.now c.left-left.result c.as_slice.result.now _ below c.as_slice.ensures in
    let some = row_some c.requires.context.are_productions c.left-left.result c.args.item c.as_slice.result.now opens at in
    let (u, v) = c.requires.has in
    let o = opener v c.left-left.result opens in
    (o.item, o.rest, (o.look, o.valid), o.before_dot)

pub returns : goal.returns
returns c =
    let lt : c.args.item.production < length c.args.context.now.grammar.now.productions =
    (let e = c.productions.ensures.count in let f = c.if-item-productions.false in omega (arith, e, f)) in
    let opens = read_opens c.args.item c.left-left.result c.requires.context.of_grammar (let z = c.if-item-gt0.false in omega (arith, z)) lt
    c.left-left.ensures.left in
    let below : c.left-left.result < length c.args.context.now.productions.now =
    (let e = c.requires.context.are_productions.len in let f = c.left-left.ensures.in_range in
    let g = ap (λ (g : GrammarView). g.nonterminals) c.requires.context.of_grammar in omega (arith, e, f, g)) in
    let at = row_at c.args.context.now.productions.now c.left-left.result c.as_slice.result.now _ below c.as_slice.ensures in
    let some = row_some c.requires.context.are_productions c.left-left.result c.args.item c.as_slice.result.now opens at in
    let leads = c.next_of-next.ensures in
    opened c.left-left.result c.next_of-next.result opens
    (is_first_read c.args.context.now.productions.now c.left-left.result 0 c.args.item c.as_slice.result.now at some
    (let z = c.if-item-gt0.false in omega (arith, z)) (let e = c.if-as_slice-item.false in omega (arith, e))) leads
    (slice_get-get_or c.args.reads.now c.next_of-next.result 0 (let e = c.requires.reads in let k = leads.1 in omega (arith, e, k)))
