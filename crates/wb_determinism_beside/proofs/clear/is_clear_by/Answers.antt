use Rattle.std.proofs.Common.{Bool, List, refl, subst, sym}
use Rattle.wb_determinism_contexts.specs.Sets.{lent}
use Rattle.wb_determinism_beside.specs.Inner.Found.{AreClear, new_in}
use Rattle.wb_determinism_beside.proofs.ClearLemmas.{clear_all}
use Rattle.wb_determinism_beside.proofs.clear.is_clear_by.Goals as goal

pub returns-in_default : goal.returns-in_default
returns-in_default c = λ _.
    let x = c.args.found.now in
    let lexicon = lent c.args.lexicon.now in
    clear_all x lexicon c.requires.none_own (new_in x) c.deref.result.now refl
    (subst (λ (z : List (List Bool)). AreClear x lexicon (new_in x) z) (sym c.deref.ensures.value)
    (c.in_ok-decided.ensures c.if-not-decided.false)) (c.in_ok-clash.ensures.none.0 (rw c.in_default.is refl))
