use Rattle.std.proofs.Common.{◌+◌, ◌∷◌, [], drop, refl, sym, ◌∙◌, ap, subst}
use Rattle.std.proofs.lemmas.Bool.{true≢false}
use Rattle.std.proofs.lemmas.List.{drop_more, drop_all}
use Rattle.wb_base.specs.declared.symbol.Symbol.TheVariants.{Terminal, Nonterminal}
use Rattle.wb_grammar_theory.specs.Derives.{Derives, done}
use Rattle.wb_recheck_entries.proofs.BeginLemmas.{empty_on, empty_stop, empty_terminal}
use Rattle.wb_recheck_entries.proofs.begins.is_empty.Goals as goal

pub symbols-init : goal.symbols-init
symbols-init c = (λ r. r, λ r. r)

pub returns-in-Terminal : goal.returns-in-Terminal
returns-in-Terminal c =
    let i = c.symbols.symbol-index in
    let w = c.args.symbols.now in
    let all = drop_more w i (Terminal 0) c.symbols-test.true ∙ ap (λ z. z ∷ drop (i + 1) w) c.in-Terminal.is in (
      λ t. absurd (true≢false (sym t)),
      λ r. absurd (empty_terminal c.in-Terminal.field-0 (drop (i + 1) w)
          (subst (λ z. Derives c.args.grammar.now z []) all (c.symbols.invariant.0 r))),
    )

pub returns-then-not-nullable : goal.returns-then-not-nullable
returns-then-not-nullable c =
    let i = c.symbols.symbol-index in
    let w = c.args.symbols.now in
    let all = drop_more w i (Terminal 0) c.symbols-test.true ∙ ap (λ z. z ∷ drop (i + 1) w) c.in-Nonterminal.is in (
      λ t. absurd (true≢false (sym t)),
      λ r. absurd (empty_stop (Nonterminal c.in-Nonterminal.nonterminal) (drop (i + 1) w)
          (λ e. true≢false (sym ((c.nullable.ensures.exact c.args.grammar.now c.requires.facts).1 e) ∙ c.if-not-nullable.true))
          (subst (λ z. Derives c.args.grammar.now z []) all (c.symbols.invariant.0 r))),
    )

pub symbols-preserved : goal.symbols-preserved
symbols-preserved c =
    let i = c.symbols.symbol-index in
    let w = c.args.symbols.now in
    let all = drop_more w i (Terminal 0) c.symbols-test.true ∙ ap (λ z. z ∷ drop (i + 1) w) c.in-Nonterminal.is in
    let on = empty_on c.in-Nonterminal.nonterminal (drop (i + 1) w)
    ((c.nullable.ensures.exact c.args.grammar.now c.requires.facts).0 c.if-not-nullable.false) in (
      λ r. on.0 (subst (λ z. Derives c.args.grammar.now z []) all (c.symbols.invariant.0 r)),
      λ r. c.symbols.invariant.1 (subst (λ z. Derives c.args.grammar.now z []) (sym all) (on.1 r)),
    )

pub returns : goal.returns
returns c =
    let none = drop_all c.symbols.symbol-index c.args.symbols.now c.symbols-test.false in
    (λ t. c.symbols.invariant.1 (subst (λ z. Derives c.args.grammar.now z []) (sym none) done), λ r. refl)
