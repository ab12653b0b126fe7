use Rattle.std.proofs.Common.{◌≡◌, ◌<◌, ◌+◌, ◌∙◌, [], get_or, length, subst, sym, arith}
use Rattle.std.specs.Prelude.{List, Bool}
use Rattle.std.proofs.lemmas.List.{get_or_default}
use Rattle.wb_lookahead.specs.Tables.{IsValidSet}
use Rattle.wb_determinism_contexts.specs.Sets.{AreConsideredSets, lent}
use Rattle.wb_determinism_contexts.proofs.SetLemmas.{considered_is, sets_more}
use Rattle.wb_determinism_contexts.proofs.considered.considered_sets.Goals as goal

pub kernels-preserved : goal.kernels-preserved
kernels-preserved c =
    let kernels = c.args.kernels.now in
    let lexicon = lent c.args.lexicon.now in
    let valid = c.args.valid.now in
    let within : c.kernels.state < length valid = omega (arith, c.requires.valid.len, c.kernels-test.true, c.count-state-end.ensures.count) in
    let is : get_or valid c.kernels.state [] ≡ c.index-valid-state.result =
    get_or_default valid c.kernels.state [] c.index-valid-state.result within ∙ sym c.index-valid-state.is in
    subst (λ (sets : List (List Bool)). AreConsideredSets kernels lexicon (c.kernels.state + 1) sets) (sym c.in_ok-push.ensures.ok)
    (sets_more kernels lexicon c.kernels.state c.kernels.sets.items c.in_ok-set.set c.kernels.invariant
    (considered_is kernels lexicon c.kernels.state c.index-valid-state.result c.in_ok-set.set c.kernel.result.now
    c.requires.lexicon
    (subst (IsValidSet kernels c.kernels.state) is (c.requires.valid.each c.kernels.state (omega (arith, c.requires.valid.len, within))))
    c.kernel.ensures.exact c.in_ok-set.ensures.len c.in_ok-set.ensures.each))
