use Rattle.std.proofs.Common.{◌≡◌, ◌++◌, ◌∷◌, [], ◌∙◌, ap, sym, subst}
use Rattle.wb_termset.specs.Sets.{IsEmpty}
use Rattle.wb_termset.proofs.CallerLemmas.{IsEmpty-replicate}
use Rattle.wb_digraph.specs.Inner.Pools.{IsPool}
use Rattle.wb_digraph.proofs.PoolLemmas.{pool_start}
use Rattle.wb_digraph.proofs.pool.Pool.new.Goals as goal

pub invariant_of-result : goal.invariant_of-result
invariant_of-result c =
    let is : c.push.new.list.items ≡ c.in_ok-new.field-0 ∷ [] =
    c.in_ok-push.ensures.ok ∙ ap (λ z. z ++ c.in_ok-new.field-0 ∷ []) c.new-sets.ensures.items in
    subst (λ z. IsPool z c.in_ok-unions.unions.items) (sym is)
    (pool_start c.in_ok-new.field-0 c.in_ok-unions.unions.items (subst IsEmpty (sym c.in_ok-new.ensures) (IsEmpty-replicate c.args.count))
    c.in_ok-unions.ensures)
