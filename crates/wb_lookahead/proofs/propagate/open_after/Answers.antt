use Rattle.std.proofs.Common.{◌≡◌, ◌<◌, ◌≤◌, ◌∷◌, length, Some, refl, sym, ◌∙◌, ap, arith, rules}
use Rattle.std.specs.Prelude.{slice_get}
use Rattle.std.proofs.lemmas.Bool.{true≢false}
use Rattle.std.proofs.lemmas.Option.{slice_get_read, slice_get-get_or}
use Rattle.wb_base.specs.declared.symbol.Symbol.TheVariants.{Nonterminal}
use Rattle.wb_base.specs.Grammar.{GrammarView}
use Rattle.wb_grammar_theory.specs.Items.{after_dot, initial_item}
use Rattle.wb_lemmas.proofs.Refusals.{on_ok_both}
use Rattle.wb_lookahead.specs.Inner.Rests.{IsOpening}
use Rattle.wb_lookahead.proofs.PassLemmas.{open_flows_on, open_has, opened_together, opening_flows}
use Rattle.wb_lookahead.proofs.PropagateLemmas.{nothing_after, nothing_begins, open_lists, rest_there}
use Rattle.wb_lookahead.proofs.SpreadLemmas.{spreads_then}
use Rattle.wb_lookahead.proofs.propagate.open_after.Goals as goal

pub spread-requires-clause-has : goal.spread-requires-clause-has
spread-requires-clause-has c =
    let g = c.args.context.now.grammar.now in
    let n = c.in-Nonterminal.nonterminal in
    let p = c.in-Some.production in
    let (rest, is) = c.requires.symbol in
    let here : after_dot g c.args.item ≡ Nonterminal n ∷ rest = is ∙ ap (λ z. z ∷ rest) c.in-Nonterminal.is in
    open_has c.requires.context.are_kernels c.requires.context.of_grammar c.args.state c.args.item c.requires.has n p rest here
    c.in-Some.ensures

pub spread-requires-clause-flows : goal.spread-requires-clause-flows
spread-requires-clause-flows c =
    let g = c.args.context.now.grammar.now in
    let n = c.in-Nonterminal.nonterminal in
    let p = c.in-Some.production in
    let (rest, is) = c.requires.symbol in
    let here : after_dot g c.args.item ≡ Nonterminal n ∷ rest = is ∙ ap (λ z. z ∷ rest) c.in-Nonterminal.is in
    let past : length g.productions ≤ c.args.item.production = (let e = c.productions.ensures.count in let f =
    c.if-item-productions.true in omega (arith, e, f)) in
    λ t has. open_flows_on c.args.context.now.kernels.now c.requires.context.of_grammar c.args.state c.args.item n p rest here
    c.in-Some.ensures
    (nothing_after g c.args.item past (Nonterminal n) rest here) t (c.requires.flows t has)

pub returns-then-item-productions-clause-lists : goal.returns-then-item-productions-clause-lists
returns-then-item-productions-clause-lists c =
    let g = c.args.context.now.grammar.now in
    let n = c.in-Nonterminal.nonterminal in
    let p = c.in-Some.production in
    let (rest, is) = c.requires.symbol in
    let here : after_dot g c.args.item ≡ Nonterminal n ∷ rest = is ∙ ap (λ z. z ∷ rest) c.in-Nonterminal.is in
    let past : length g.productions ≤ c.args.item.production = (let e = c.productions.ensures.count in let f =
    c.if-item-productions.true in omega (arith, e, f)) in
    on_ok_both c.spread.result
    (λ sound lists. open_lists g c.args.set.now c.spread.new.lookaheads c.args.state c.args.item n p rest here
    (opened_together c.requires.context.are_kernels c.requires.context.of_grammar c.spread.new.lookaheads sound c.args.state
    c.requires.state c.args.item c.requires.has n p rest here c.in-Some.ensures)
    (λ u begins. absurd (nothing_begins g c.args.item past (Nonterminal n) rest here u begins)) (λ _. lists))
    c.spread.ensures.sound c.spread.ensures.lists

pub offset_bounds-as_slice-item : goal.offset_bounds-as_slice-item
offset_bounds-as_slice-item c =
    let g = c.args.context.now.grammar.now in
    let n = c.in-Nonterminal.nonterminal in
    let p = c.in-Some.production in
    let (rest, is) = c.requires.symbol in
    let here : after_dot g c.args.item ≡ Nonterminal n ∷ rest = is ∙ ap (λ z. z ∷ rest) c.in-Nonterminal.is in
    let lt : c.args.item.production < length g.productions = (let e = c.productions.ensures.count in let f =
    c.if-item-productions.false in omega (arith, e, f)) in
    let rests = c.args.context.now.rests.now in
    let row : slice_get rests c.args.item.production ≡ Some c.as_slice.result.now =
    slice_get-get_or rests c.args.item.production c.index-context-item.result
    (let e = c.requires.context.are_rests.len in omega (arith, e, lt)) ∙ ap Some (sym c.as_slice.ensures) in
    let there = rest_there g rests c.requires.context.are_rests c.args.item lt (Nonterminal n) rest here c.as_slice.result.now row in
    let within : c.args.item.dot < length c.as_slice.result.now = there.0 in
    search rules

pub bounds-as_slice-item : goal.bounds-as_slice-item
bounds-as_slice-item c =
    let g = c.args.context.now.grammar.now in
    let n = c.in-Nonterminal.nonterminal in
    let p = c.in-Some.production in
    let (rest, is) = c.requires.symbol in
    let here : after_dot g c.args.item ≡ Nonterminal n ∷ rest = is ∙ ap (λ z. z ∷ rest) c.in-Nonterminal.is in
    let lt : c.args.item.production < length g.productions = (let e = c.productions.ensures.count in let f =
    c.if-item-productions.false in omega (arith, e, f)) in
    let rests = c.args.context.now.rests.now in
    let row : slice_get rests c.args.item.production ≡ Some c.as_slice.result.now =
    slice_get-get_or rests c.args.item.production c.index-context-item.result
    (let e = c.requires.context.are_rests.len in omega (arith, e, lt)) ∙ ap Some (sym c.as_slice.ensures) in
    let there = rest_there g rests c.requires.context.are_rests c.args.item lt (Nonterminal n) rest here c.as_slice.result.now row in
    there.0

pub spread-requires-2-clause-has : goal.spread-requires-2-clause-has
spread-requires-2-clause-has c =
    let g = c.args.context.now.grammar.now in
    let n = c.in-Nonterminal.nonterminal in
    let p = c.in-Some.production in
    let (rest, is) = c.requires.symbol in
    let here : after_dot g c.args.item ≡ Nonterminal n ∷ rest = is ∙ ap (λ z. z ∷ rest) c.in-Nonterminal.is in
    open_has c.requires.context.are_kernels c.requires.context.of_grammar c.args.state c.args.item c.requires.has n p rest here
    c.in-Some.ensures

pub spread-requires-2-clause-len : goal.spread-requires-2-clause-len
spread-requires-2-clause-len c =
    let g = c.args.context.now.grammar.now in
    let n = c.in-Nonterminal.nonterminal in
    let p = c.in-Some.production in
    let (rest, is) = c.requires.symbol in
    let here : after_dot g c.args.item ≡ Nonterminal n ∷ rest = is ∙ ap (λ z. z ∷ rest) c.in-Nonterminal.is in
    let lt : c.args.item.production < length g.productions = (let e = c.productions.ensures.count in let f =
    c.if-item-productions.false in omega (arith, e, f)) in
    let rests = c.args.context.now.rests.now in
    let row : slice_get rests c.args.item.production ≡ Some c.as_slice.result.now =
    slice_get-get_or rests c.args.item.production c.index-context-item.result
    (let e = c.requires.context.are_rests.len in omega (arith, e, lt)) ∙ ap Some (sym c.as_slice.ensures) in
    let there = rest_there g rests c.requires.context.are_rests c.args.item lt (Nonterminal n) rest here c.as_slice.result.now row in
    let is_rest : IsOpening g (Nonterminal n) rest c.index-as_slice-item.result =
    there.1 c.index-as_slice-item.result
    (slice_get_read c.as_slice.result.now
    (length c.as_slice.result.now) c.args.item.dot c.index-as_slice-item.result refl there.0 c.index-as_slice-item.is) in
    (let same = ap (λ (z : GrammarView). z.terminals) c.requires.context.of_grammar in omega (arith, is_rest.len, same))

pub spread-requires-2-clause-flows : goal.spread-requires-2-clause-flows
spread-requires-2-clause-flows c =
    let g = c.args.context.now.grammar.now in
    let n = c.in-Nonterminal.nonterminal in
    let p = c.in-Some.production in
    let (rest, is) = c.requires.symbol in
    let here : after_dot g c.args.item ≡ Nonterminal n ∷ rest = is ∙ ap (λ z. z ∷ rest) c.in-Nonterminal.is in
    let lt : c.args.item.production < length g.productions = (let e = c.productions.ensures.count in let f =
    c.if-item-productions.false in omega (arith, e, f)) in
    let rests = c.args.context.now.rests.now in
    let row : slice_get rests c.args.item.production ≡ Some c.as_slice.result.now =
    slice_get-get_or rests c.args.item.production c.index-context-item.result
    (let e = c.requires.context.are_rests.len in omega (arith, e, lt)) ∙ ap Some (sym c.as_slice.ensures) in
    let there = rest_there g rests c.requires.context.are_rests c.args.item lt (Nonterminal n) rest here c.as_slice.result.now row in
    let is_rest : IsOpening g (Nonterminal n) rest c.index-as_slice-item.result =
    there.1 c.index-as_slice-item.result
    (slice_get_read c.as_slice.result.now
    (length c.as_slice.result.now) c.args.item.dot c.index-as_slice-item.result refl there.0 c.index-as_slice-item.is) in
    λ u has. opening_flows c.requires.context.are_kernels c.requires.context.of_grammar c.args.state c.requires.state c.args.item
    c.requires.has n p rest here c.in-Some.ensures u
    (is_rest.sound u has)

pub spread-requires-then-rest-clause-has : goal.spread-requires-then-rest-clause-has
spread-requires-then-rest-clause-has c =
    let g = c.args.context.now.grammar.now in
    let n = c.in-Nonterminal.nonterminal in
    let p = c.in-Some.production in
    let (rest, is) = c.requires.symbol in
    let here : after_dot g c.args.item ≡ Nonterminal n ∷ rest = is ∙ ap (λ z. z ∷ rest) c.in-Nonterminal.is in
    open_has c.requires.context.are_kernels c.requires.context.of_grammar c.args.state c.args.item c.requires.has n p rest here
    c.in-Some.ensures

pub spread-requires-then-rest-clause-flows : goal.spread-requires-then-rest-clause-flows
spread-requires-then-rest-clause-flows c =
    let g = c.args.context.now.grammar.now in
    let n = c.in-Nonterminal.nonterminal in
    let p = c.in-Some.production in
    let (rest, is) = c.requires.symbol in
    let here : after_dot g c.args.item ≡ Nonterminal n ∷ rest = is ∙ ap (λ z. z ∷ rest) c.in-Nonterminal.is in
    let lt : c.args.item.production < length g.productions = (let e = c.productions.ensures.count in let f =
    c.if-item-productions.false in omega (arith, e, f)) in
    let rests = c.args.context.now.rests.now in
    let row : slice_get rests c.args.item.production ≡ Some c.as_slice.result.now =
    slice_get-get_or rests c.args.item.production c.index-context-item.result
    (let e = c.requires.context.are_rests.len in omega (arith, e, lt)) ∙ ap Some (sym c.as_slice.ensures) in
    let there = rest_there g rests c.requires.context.are_rests c.args.item lt (Nonterminal n) rest here c.as_slice.result.now row in
    let is_rest : IsOpening g (Nonterminal n) rest c.index-as_slice-item.result =
    there.1 c.index-as_slice-item.result
    (slice_get_read c.as_slice.result.now
    (length c.as_slice.result.now) c.args.item.dot c.index-as_slice-item.result refl there.0 c.index-as_slice-item.is) in
    λ t has. open_flows_on c.args.context.now.kernels.now c.requires.context.of_grammar c.args.state c.args.item n p rest here
    c.in-Some.ensures
    (is_rest.empty.0 c.if-rest.true) t (c.requires.flows t has)

pub returns-in_ok-spread-2-clause-spreads : goal.returns-in_ok-spread-2-clause-spreads
returns-in_ok-spread-2-clause-spreads c = spreads_then c.in_ok-spread.ensures.spreads c.in_ok-spread-2.ensures.spreads

pub returns-in_ok-spread-2-clause-lists : goal.returns-in_ok-spread-2-clause-lists
returns-in_ok-spread-2-clause-lists c =
    let g = c.args.context.now.grammar.now in
    let n = c.in-Nonterminal.nonterminal in
    let p = c.in-Some.production in
    let (rest, is) = c.requires.symbol in
    let here : after_dot g c.args.item ≡ Nonterminal n ∷ rest = is ∙ ap (λ z. z ∷ rest) c.in-Nonterminal.is in
    let lt : c.args.item.production < length g.productions = (let e = c.productions.ensures.count in let f =
    c.if-item-productions.false in omega (arith, e, f)) in
    let rests = c.args.context.now.rests.now in
    let row : slice_get rests c.args.item.production ≡ Some c.as_slice.result.now =
    slice_get-get_or rests c.args.item.production c.index-context-item.result
    (let e = c.requires.context.are_rests.len in omega (arith, e, lt)) ∙ ap Some (sym c.as_slice.ensures) in
    let there = rest_there g rests c.requires.context.are_rests c.args.item lt (Nonterminal n) rest here c.as_slice.result.now row in
    let is_rest : IsOpening g (Nonterminal n) rest c.index-as_slice-item.result =
    there.1 c.index-as_slice-item.result
    (slice_get_read c.as_slice.result.now
    (length c.as_slice.result.now) c.args.item.dot c.index-as_slice-item.result refl there.0 c.index-as_slice-item.is) in
    open_lists g c.args.set.now c.spread-then-rest.new.lookaheads c.args.state c.args.item n p rest here
    (opened_together c.requires.context.are_kernels c.requires.context.of_grammar c.spread-then-rest.new.lookaheads
    c.in_ok-spread-2.ensures.sound c.args.state c.requires.state c.args.item c.requires.has n p rest here c.in-Some.ensures)
    (λ u begins. c.in_ok-spread-2.ensures.spreads.keeps c.args.state (initial_item p) u
    (c.in_ok-spread.ensures.lists u (is_rest.first u begins))) (λ _. c.in_ok-spread-2.ensures.lists)

pub returns-else-rest-clause-lists : goal.returns-else-rest-clause-lists
returns-else-rest-clause-lists c =
    let g = c.args.context.now.grammar.now in
    let n = c.in-Nonterminal.nonterminal in
    let p = c.in-Some.production in
    let (rest, is) = c.requires.symbol in
    let here : after_dot g c.args.item ≡ Nonterminal n ∷ rest = is ∙ ap (λ z. z ∷ rest) c.in-Nonterminal.is in
    let lt : c.args.item.production < length g.productions = (let e = c.productions.ensures.count in let f =
    c.if-item-productions.false in omega (arith, e, f)) in
    let rests = c.args.context.now.rests.now in
    let row : slice_get rests c.args.item.production ≡ Some c.as_slice.result.now =
    slice_get-get_or rests c.args.item.production c.index-context-item.result
    (let e = c.requires.context.are_rests.len in omega (arith, e, lt)) ∙ ap Some (sym c.as_slice.ensures) in
    let there = rest_there g rests c.requires.context.are_rests c.args.item lt (Nonterminal n) rest here c.as_slice.result.now row in
    let is_rest : IsOpening g (Nonterminal n) rest c.index-as_slice-item.result =
    there.1 c.index-as_slice-item.result
    (slice_get_read c.as_slice.result.now
    (length c.as_slice.result.now) c.args.item.dot c.index-as_slice-item.result refl there.0 c.index-as_slice-item.is) in
    open_lists g c.args.set.now c.spread-2.new.lookaheads c.args.state c.args.item n p rest here
    (opened_together c.requires.context.are_kernels c.requires.context.of_grammar c.spread-2.new.lookaheads
    c.in_ok-spread.ensures.sound c.args.state c.requires.state c.args.item c.requires.has n p rest here c.in-Some.ensures)
    (λ u begins. c.in_ok-spread.ensures.lists u (is_rest.first u begins))
    (λ empty. absurd (true≢false (sym (is_rest.empty.1 empty) ∙ c.if-rest.false)))
