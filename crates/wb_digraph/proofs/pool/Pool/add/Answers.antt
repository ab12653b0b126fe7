use Rattle.std.proofs.Common.{◌≡◌, length, sym, subst}
use Rattle.wb_digraph.specs.Inner.Pools.{set_at}
use Rattle.wb_digraph.proofs.PoolLemmas.{pool_push}
use Rattle.wb_digraph.proofs.pool.Pool.add.Goals as goal

pub invariant_of-self-2 : goal.invariant_of-self-2
invariant_of-self-2 c =
    rw c.in_ok-push.ensures.ok
    (pool_push c.self.inside.sets.items c.args.set c.self.inside.unions.items
    (subst (λ z. length c.args.set ≡ length (set_at z 0)) (sym c.self.view_is) c.requires) c.self.invariant)
