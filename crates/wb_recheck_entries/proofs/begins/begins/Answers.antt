use Rattle.std.proofs.Common.{◌+◌, ◌∷◌, ◌++◌, [], drop, refl, sym, ◌∙◌, ap, subst}
use Rattle.std.proofs.lemmas.Bool.{true≢false}
use Rattle.std.proofs.lemmas.List.{drop_more, drop_all}
use Rattle.wb_base.specs.declared.symbol.Symbol.TheVariants.{Terminal, Nonterminal}
use Rattle.wb_grammar_theory.specs.Derives.{IsFirst}
use Rattle.wb_grammar_theory.proofs.DerivesLemmas.{First-of_head}
use Rattle.wb_recheck_entries.proofs.BeginLemmas.{first_on, first_stop, terminal_first}
use Rattle.wb_recheck_entries.proofs.begins.begins.Goals as goal

pub symbols-init : goal.symbols-init
symbols-init c = (λ r. r, λ r. r)

pub returns-in-Terminal : goal.returns-in-Terminal
returns-in-Terminal c =
    let g = c.args.grammar.now in
    let i = c.symbols.symbol-index in
    let w = c.args.symbols.now in
    let last = Terminal c.args.last ∷ [] in
    let all = drop_more w i (Terminal 0) c.symbols-test.true ∙ ap (λ z. z ∷ drop (i + 1) w) c.in-Terminal.is in
    let here = terminal_first {g = g} c.in-Terminal.first (drop (i + 1) w ++ Terminal c.args.last ∷ []) c.args.terminal in (
      λ t. c.symbols.invariant.1 (subst (λ z. IsFirst g (z ++ last) c.args.terminal) (sym all) (here.1 (c.is_same.ensures.0 t))),
      λ f. c.is_same.ensures.1 (here.0 (subst (λ z. IsFirst g (z ++ last) c.args.terminal) all (c.symbols.invariant.0 f))),
    )

pub returns-then-has : goal.returns-then-has
returns-then-has c =
    let g = c.args.grammar.now in
    let i = c.symbols.symbol-index in
    let w = c.args.symbols.now in
    let last = Terminal c.args.last ∷ [] in
    let all = drop_more w i (Terminal 0) c.symbols-test.true ∙ ap (λ z. z ∷ drop (i + 1) w) c.in-Nonterminal.is in
    let b = c.in-Nonterminal.nonterminal in (
      λ t. c.symbols.invariant.1 (subst (λ z. IsFirst g (z ++ last) c.args.terminal) (sym all)
          (First-of_head (Nonterminal b) (drop (i + 1) w ++ last) c.args.terminal
          ((c.first.ensures.exact g c.requires.facts c.args.terminal).0 (c.has.ensures.0 c.if-has.true)))),
      λ f. refl,
    )

pub returns-then-not-nullable : goal.returns-then-not-nullable
returns-then-not-nullable c =
    let g = c.args.grammar.now in
    let i = c.symbols.symbol-index in
    let w = c.args.symbols.now in
    let last = Terminal c.args.last ∷ [] in
    let all = drop_more w i (Terminal 0) c.symbols-test.true ∙ ap (λ z. z ∷ drop (i + 1) w) c.in-Nonterminal.is in
    let b = c.in-Nonterminal.nonterminal in (
      λ t. absurd (true≢false (sym t)),
      λ f. absurd (true≢false (sym (c.has.ensures.1 ((c.first.ensures.exact g c.requires.facts c.args.terminal).1
          (first_stop b (drop (i + 1) w ++ last) c.args.terminal
          (λ e. true≢false (sym ((c.nullable.ensures.exact g c.requires.facts).1 e) ∙ c.if-not-nullable.true))
          (subst (λ z. IsFirst g (z ++ last) c.args.terminal) all (c.symbols.invariant.0 f))))) ∙ c.if-has.false)),
    )

pub symbols-preserved : goal.symbols-preserved
symbols-preserved c =
    let g = c.args.grammar.now in
    let i = c.symbols.symbol-index in
    let w = c.args.symbols.now in
    let last = Terminal c.args.last ∷ [] in
    let all = drop_more w i (Terminal 0) c.symbols-test.true ∙ ap (λ z. z ∷ drop (i + 1) w) c.in-Nonterminal.is in
    let b = c.in-Nonterminal.nonterminal in
    let on = first_on b (drop (i + 1) w ++ last) c.args.terminal
    ((c.nullable.ensures.exact g c.requires.facts).0 c.if-not-nullable.false)
    (λ f. true≢false (sym (c.has.ensures.1 ((c.first.ensures.exact g c.requires.facts c.args.terminal).1 f)) ∙ c.if-has.false)) in (
      λ f. on.0 (subst (λ z. IsFirst g (z ++ last) c.args.terminal) all (c.symbols.invariant.0 f)),
      λ f. c.symbols.invariant.1 (subst (λ z. IsFirst g (z ++ last) c.args.terminal) (sym all) (on.1 f)),
    )

pub returns : goal.returns
returns c =
    let g = c.args.grammar.now in
    let last = Terminal c.args.last ∷ [] in
    let none = drop_all c.symbols.symbol-index c.args.symbols.now c.symbols-test.false in
    let here = terminal_first {g = g} c.args.last [] c.args.terminal in (
      λ t. c.symbols.invariant.1 (subst (λ z. IsFirst g (z ++ last) c.args.terminal) (sym none) (here.1 (c.is_same-2.ensures.0 t))),
      λ f. c.is_same-2.ensures.1 (here.0 (subst (λ z. IsFirst g (z ++ last) c.args.terminal) none (c.symbols.invariant.0 f))),
    )
