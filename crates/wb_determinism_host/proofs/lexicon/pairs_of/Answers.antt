use Rattle.std.proofs.Common.{◌++◌, ◌∷◌, [], ℕ, ap, get_or, map, sym, take, ◌∙◌}
use Rattle.std.proofs.lemmas.List.{take_more, take_all, map-append}
use Rattle.wb_syntax_resolved.specs.declared.terminal.Preference.{Preference}
use Rattle.wb_determinism_host.proofs.lexicon.pairs_of.Goals as goal

pub preferences-preserved : goal.preferences-preserved
preferences-preserved c =
    let pair : Preference → ℕ × ℕ = λ p. (p.first, p.second) in
    let other : Preference = record { first = 0; second = 0 } in
    let xs = c.args.preferences.now in
    let i = c.preferences.preference-index in
    let x = get_or xs i other in
    c.in_ok-push.ensures.ok ∙ (ap (λ z. z ++ pair x ∷ []) c.preferences.invariant ∙ (sym (map-append pair (take i xs) (x ∷ []))
    ∙ ap (map pair) (sym (take_more xs i other c.preferences-test.true))))

pub returns : goal.returns
returns c =
    let pair : Preference → ℕ × ℕ = λ p. (p.first, p.second) in
    c.preferences.invariant ∙ ap (map pair) (take_all c.preferences.preference-index c.args.preferences.now c.preferences-test.false)
