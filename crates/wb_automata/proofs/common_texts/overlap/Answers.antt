use Rattle.std.proofs.Common.{◌∷◌, [], subst}
use Rattle.wb_automata.specs.Sharing.{IsSharedText}
use Rattle.wb_automata.proofs.CommonLemmas.{none_shared}
use Rattle.wb_automata.proofs.common_texts.overlap.Goals as goal

pub returns-in-None : goal.returns-in-None
returns-in-None c = none_shared c.args.left.now c.args.right.now
    (subst (IsSharedText (c.args.left.now ∷ c.args.right.now ∷ []) ((0, 1) ∷ [])) c.in-None.is
    (rw (c.as_slice.ensures.value, c.in_ok-both.ensures) at c.in_ok-shared.ensures))
