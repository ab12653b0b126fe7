use Rattle.std.proofs.Common.{◌≡◌, ◌<◌, ◌∷◌, ◌∙◌, length, get_or, ap, sym, rules, arith}
use Rattle.std.proofs.lemmas.Bool.{true≢false}
use Rattle.wb_digraph.proofs.OpenLemmas.{row_at}
use Rattle.wb_digraph.proofs.RowLemmas.{row_opens}
use Rattle.wb_digraph.proofs.StepLemmas.{adds_opened, opened_has, opens_no_terminal, opens_not_empty, symbol_below}
use Rattle.wb_digraph.proofs.links.add_opened.Goals as goal

pub bounds-context-nonterminal : goal.bounds-context-nonterminal
bounds-context-nonterminal c =
    let (rest, is) = c.requires.symbol in
    let below = symbol_below c.args.context.now.kernels.now.grammar c.requires.context.in_range c.args.item c.args.symbol rest
    c.in-Nonterminal.nonterminal is c.in-Nonterminal.is in
    let lt : c.in-Nonterminal.nonterminal < length c.args.context.now.productions.now =
    (let e = c.requires.context.are_productions.len in omega (arith, e, below)) in
    lt

pub offset_bounds-context-nonterminal : goal.offset_bounds-context-nonterminal
offset_bounds-context-nonterminal c =
    let (rest, is) = c.requires.symbol in
    let below = symbol_below c.args.context.now.kernels.now.grammar c.requires.context.in_range c.args.item c.args.symbol rest
    c.in-Nonterminal.nonterminal is c.in-Nonterminal.is in
    let within : c.in-Nonterminal.nonterminal < length c.args.context.now.productions.now =
    (let e = c.requires.context.are_productions.len in omega (arith, e, below)) in
    search rules

pub bounds-numbers-0 : goal.bounds-numbers-0
bounds-numbers-0 c =
    let (rest, is) = c.requires.symbol in
    let below = symbol_below c.args.context.now.kernels.now.grammar c.requires.context.in_range c.args.item c.args.symbol rest
    c.in-Nonterminal.nonterminal is c.in-Nonterminal.is in
    let lt : c.in-Nonterminal.nonterminal < length c.args.context.now.productions.now =
    (let e = c.requires.context.are_productions.len in omega (arith, e, below)) in
    let at = row_at c.args.context.now.productions.now c.in-Nonterminal.nonterminal c.as_slice-numbers.result.now _ lt
    c.as_slice-numbers.ensures in
    let (some, (right, rule)) = row_opens c.args.context.now.kernels.now.grammar c.args.context.now.productions.now
    c.requires.context.are_facts.reduced c.requires.context.are_productions c.in-Nonterminal.nonterminal 0 c.as_slice-numbers.result.now below
    at in
    let is' = is ∙ ap (λ z. z ∷ rest) c.in-Nonterminal.is in
    some

pub number_of-to-requires-clause-has : goal.number_of-to-requires-clause-has
number_of-to-requires-clause-has c =
    let (rest, is) = c.requires.symbol in
    let below = symbol_below c.args.context.now.kernels.now.grammar c.requires.context.in_range c.args.item c.args.symbol rest
    c.in-Nonterminal.nonterminal is c.in-Nonterminal.is in
    let lt : c.in-Nonterminal.nonterminal < length c.args.context.now.productions.now =
    (let e = c.requires.context.are_productions.len in omega (arith, e, below)) in
    let at = row_at c.args.context.now.productions.now c.in-Nonterminal.nonterminal c.as_slice-numbers.result.now _ lt
    c.as_slice-numbers.ensures in
    let (some, (right, rule)) = row_opens c.args.context.now.kernels.now.grammar c.args.context.now.productions.now
    c.requires.context.are_facts.reduced c.requires.context.are_productions c.in-Nonterminal.nonterminal 0 c.as_slice-numbers.result.now below
    at in
    let is' = is ∙ ap (λ z. z ∷ rest) c.in-Nonterminal.is in
    opened_has c.args.item c.in-Nonterminal.nonterminal (get_or c.as_slice-numbers.result.now 0 0) rest right
    c.requires.context.are_kernels.live c.requires.has is' rule

pub returns : goal.returns
returns c =
    let (rest, is) = c.requires.symbol in
    let below = symbol_below c.args.context.now.kernels.now.grammar c.requires.context.in_range c.args.item c.args.symbol rest
    c.in-Nonterminal.nonterminal is c.in-Nonterminal.is in
    let lt : c.in-Nonterminal.nonterminal < length c.args.context.now.productions.now =
    (let e = c.requires.context.are_productions.len in omega (arith, e, below)) in
    let at = row_at c.args.context.now.productions.now c.in-Nonterminal.nonterminal c.as_slice-numbers.result.now _ lt
    c.as_slice-numbers.ensures in
    let (some, (right, rule)) = row_opens c.args.context.now.kernels.now.grammar c.args.context.now.productions.now
    c.requires.context.are_facts.reduced c.requires.context.are_productions c.in-Nonterminal.nonterminal 0 c.as_slice-numbers.result.now below
    at in
    let is' = is ∙ ap (λ z. z ∷ rest) c.in-Nonterminal.is in
    adds_opened c.requires.context.are_kernels c.args.context.now.productions.now c.args.context.now.bases.now c.requires.context.in_range
    c.requires.context.are_productions c.requires.context.are_bases c.args.state c.in-Nonterminal.nonterminal c.number_of-to.result
    c.args.from (get_or c.as_slice-numbers.result.now 0 0) c.args.item rest right c.args.edges.now.items c.push.new.list.items
    c.requires.state c.requires.has is' ((c.is_rest_empty.ensures c.args.symbol rest is).0 c.if-not-is_rest_empty.false) rule
    c.requires.from c.number_of-to.ensures c.in_ok-push.ensures.ok
