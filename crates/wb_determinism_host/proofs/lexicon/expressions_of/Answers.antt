use Rattle.std.proofs.Common.{◌≡◌, ◌∙◌, ◌+◌, ◌++◌, ◌∷◌, [], ap, map, sym, take}
use Rattle.std.proofs.lemmas.List.{take_more, take_all, map-append}
use Rattle.wb_regex.specs.declared.regex.Regex.{Regex}
use Rattle.wb_syntax_resolved.specs.declared.terminal.Terminal.{Terminal}
use Rattle.wb_determinism_host.proofs.lexicon.expressions_of.Goals as goal

pub terminals-preserved : goal.terminals-preserved
terminals-preserved c =
    let pattern : Terminal → Regex = λ t. t.pattern in
    let xs = c.args.terminals.now in
    let i = c.terminals.terminal-index in
    let x = c.terminal-item.result in
    let more : take (i + 1) xs ≡ take i xs ++ x ∷ [] =
    take_more xs i x c.terminals-test.true ∙ ap (λ z. take i xs ++ z ∷ []) (sym c.terminal-item.is) in
    c.in_ok-push.ensures.ok ∙ (ap (λ z. z ++ c.in_ok-copy.field-0 ∷ []) c.terminals.invariant
    ∙ (ap (λ y. map pattern (take i xs) ++ y ∷ []) c.in_ok-copy.ensures.same ∙ (sym (map-append pattern (take i xs) (x ∷ []))
    ∙ ap (map pattern) (sym more))))

pub returns : goal.returns
returns c =
    let pattern : Terminal → Regex = λ t. t.pattern in
    c.terminals.invariant ∙ ap (map pattern) (take_all c.terminals.terminal-index c.args.terminals.now c.terminals-test.false)
