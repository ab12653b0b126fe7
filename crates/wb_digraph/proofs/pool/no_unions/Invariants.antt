use Rattle.std.proofs.Common.{◌≡◌, [], All}
use Rattle.wb_digraph.specs.declared.pool.Union.{Union}
use Rattle.wb_digraph.proofs.pool.no_unions.Given as goal

abbrev pub invariant-unions : goal.invariant-unions
invariant-unions l = All (λ (union : Union). (union.parts.items ≡ []) × (union.whole ≡ 0)) l.unions.items
