use Rattle.std.proofs.Common.{◌+◌, ◌∷◌, ◌++◌, [], refl, subst, sym}
use Rattle.wb_determinism_contexts.specs.Sets.{lent}
use Rattle.wb_determinism_beside.specs.Inner.Found.{AreClear}
use Rattle.wb_determinism_beside.proofs.ClearLemmas.{clear_more}
use Rattle.wb_determinism_beside.proofs.considered.add_considered.Goals as goal

pub kernels-preserved : goal.kernels-preserved
kernels-preserved c =
    let x = c.args.found.now in
    let lexicon = lent c.args.lexicon.now in
    subst (AreClear x lexicon (c.kernels.place + 1)) (sym c.in_ok-push.ensures.ok)
    (clear_more x lexicon c.kernels.place c.kernels.sets.items (c.kernels.sets.items ++ c.in-Some.set ∷ []) c.in-Some.set refl
    c.kernels.invariant (rw c.in-Some.is at c.in_ok-set.ensures))
