use Rattle.std.proofs.Common.{◌++◌, ◌∷◌, ◌∙◌, [], ℕ, List, ap}
use Rattle.std.proofs.lemmas.List.{replicate_more}
use Rattle.wb_determinism.proofs.host_index.empty_index.Goals as goal

pub rows-preserved : goal.rows-preserved
rows-preserved c =
    c.in_ok-push.ensures.ok ∙ ap (λ (x : List ℕ). c.rows.index.items ++ x ∷ []) c.new.ensures
    ∙ ap (λ (z : List (List ℕ)). z ++ [] ∷ []) c.rows.invariant ∙ replicate_more c.rows._row []
