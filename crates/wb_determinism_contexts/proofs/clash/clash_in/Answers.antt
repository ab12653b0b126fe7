use Rattle.std.proofs.Common.{◌∙◌, refl, sym, subst}
use Rattle.wb_base.specs.declared.symbol.Symbol.{Symbol}
use Rattle.std.specs.Prelude.{List}
use Rattle.wb_determinism_contexts.specs.Considered.{IsClashAt}
use Rattle.wb_determinism_contexts.specs.Sets.{lent}
use Rattle.wb_determinism_contexts.proofs.ClashLemmas.{clash_shown, no_clash_shown}
use Rattle.wb_determinism_contexts.proofs.clash.clash_in.Goals as goal

pub returns-in_ok-prefix-in-Some-clause-clash : goal.returns-in_ok-prefix-in-Some-clause-clash
returns-in_ok-prefix-in-Some-clause-clash c =
    let kernels = c.args.kernels.now in
    let lexicon = lent c.args.lexicon.now in
    let clash = c.in-Some.clash in
    subst (λ (prefix : List Symbol). IsClashAt kernels.grammar lexicon prefix clash.left clash.right clash.text)
    (sym (c.from_vec-prefix.ensures ∙ c.in_ok-prefix-in-Some.ensures))
    (clash_shown kernels lexicon c.args.sets.now clash.set clash.left clash.right clash.text c.count-count.ensures.exact c.requires
    (rw c.in-Some.is at c.in_ok-clash.ensures.clash))

pub returns-in-None-clause-none : goal.returns-in-None-clause-none
returns-in-None-clause-none c is =
    no_clash_shown c.args.kernels.now (lent c.args.lexicon.now) c.args.sets.now c.count-count.ensures.exact c.requires
    (c.in_ok-clash.ensures.none.0 (rw c.in-None.is refl))
