use Rattle.std.proofs.Common.{◌+◌, ◌∷◌, ◌∙◌, drop, sym, ap, subst, arith}
use Rattle.std.proofs.lemmas.Bool.{true≢false}
use Rattle.std.proofs.lemmas.List.{drop_all, drop_more}
use Rattle.wb_base.specs.declared.symbol.Symbol.TheVariants.{Terminal}
use Rattle.wb_base.specs.Grammar.{IsSymbolBelow}
use Rattle.wb_lookahead.specs.Inner.Rests.{BeginsSoFar}
use Rattle.wb_lookahead.proofs.RestLemmas.{begins_end, begins_insert, begins_on, begins_stop}
use Rattle.wb_recheck_writer.proofs.FirstLemmas.{first_closed, first_open}
use Rattle.wb_recheck_writer.proofs.first_after.first_after.Goals as goal

pub insert-requires : goal.insert-requires
insert-requires c =
    let below : IsSymbolBelow c.args.grammar.now.terminals c.args.grammar.now.nonterminals (Terminal c.in-Terminal.first) =
    subst (IsSymbolBelow c.args.grammar.now.terminals c.args.grammar.now.nonterminals) c.in-Terminal.is
    (c.requires.symbols c.symbols.symbol-index (Terminal 0) c.symbols-test.true) in
    let len = c.symbols.invariant.len in
    omega (arith, len, below)

pub returns-in-Terminal : goal.returns-in-Terminal
returns-in-Terminal c =
    let i = c.symbols.symbol-index in
    let w = c.args.symbols.now in
    let below : IsSymbolBelow c.args.grammar.now.terminals c.args.grammar.now.nonterminals (Terminal c.in-Terminal.first) =
    subst (IsSymbolBelow c.args.grammar.now.terminals c.args.grammar.now.nonterminals) c.in-Terminal.is
    (c.requires.symbols i (Terminal 0) c.symbols-test.true) in
    first_closed c.args.grammar.now w c.args.terminal c.insert.new.self
    (begins_insert c.args.grammar.now w (drop (i + 1) w) (drop i w) c.symbols.set c.insert.new.self c.in-Terminal.first
    (drop_more w i (Terminal 0) c.symbols-test.true ∙ ap (λ z. z ∷ drop (i + 1) w) c.in-Terminal.is)
    (let len = c.symbols.invariant.len in omega (arith, len, below)) c.symbols.invariant c.insert.ensures.after)

pub returns-then-not-nullable : goal.returns-then-not-nullable
returns-then-not-nullable c =
    let i = c.symbols.symbol-index in
    let w = c.args.symbols.now in
    let all = drop_more w i (Terminal 0) c.symbols-test.true ∙ ap (λ z. z ∷ drop (i + 1) w) c.in-Nonterminal.is in
    first_closed c.args.grammar.now w c.args.terminal c.union_with.new.self
    (begins_stop c.args.grammar.now w (drop (i + 1) w) c.symbols.set c.first.result.now c.union_with.new.self c.in-Nonterminal.nonterminal
    (subst (BeginsSoFar c.args.grammar.now w c.symbols.set) all c.symbols.invariant) c.union_with.ensures.after
    (c.first.ensures.exact c.args.grammar.now c.requires.facts)
    (λ r. true≢false (sym ((c.nullable.ensures.exact c.args.grammar.now c.requires.facts).1 r) ∙ c.if-not-nullable.true)))

pub symbols-preserved : goal.symbols-preserved
symbols-preserved c =
    let i = c.symbols.symbol-index in
    let w = c.args.symbols.now in
    let all = drop_more w i (Terminal 0) c.symbols-test.true ∙ ap (λ z. z ∷ drop (i + 1) w) c.in-Nonterminal.is in
    begins_on c.args.grammar.now w (drop (i + 1) w) c.symbols.set c.first.result.now c.union_with.new.self c.in-Nonterminal.nonterminal
    (subst (BeginsSoFar c.args.grammar.now w c.symbols.set) all c.symbols.invariant) c.union_with.ensures.after
    (c.first.ensures.exact c.args.grammar.now c.requires.facts)
    ((c.nullable.ensures.exact c.args.grammar.now c.requires.facts).0 c.if-not-nullable.false)

pub returns : goal.returns
returns c =
    let len = c.symbols.invariant.len in
    let le = c.requires.terminal in
    first_open c.args.grammar.now c.args.symbols.now c.args.terminal c.symbols.set c.insert-2.new.self
    (begins_end c.args.grammar.now c.args.symbols.now (drop c.symbols.symbol-index c.args.symbols.now) c.symbols.set
    (drop_all c.symbols.symbol-index c.args.symbols.now c.symbols-test.false) c.symbols.invariant) (omega (arith, len, le))
    c.insert-2.ensures.after
