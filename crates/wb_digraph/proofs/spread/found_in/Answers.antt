use Rattle.std.proofs.Common.{◌≡◌, ◌+◌, ◌++◌, ◌∷◌, [], ◌∙◌, length, ap, sym, subst, length-append}
use Rattle.wb_digraph.specs.Inner.Pools.{AreNumbers, IsUnionOf}
use Rattle.wb_digraph.specs.Inner.Spreading.{AreFound, AreParts}
use Rattle.wb_digraph.proofs.PoolLemmas.{extends_then}
use Rattle.wb_digraph.proofs.SpreadingLemmas.{found_more, parts_below}
use Rattle.wb_digraph.proofs.spread.found_in.Goals as goal

pub union_of-requires : goal.union_of-requires
union_of-requires c =
    let g = c.args.graph.now in
    let are = subst (λ z. AreParts g.edges.now g.components.now.numbers g.firsts.now z c.groups.group c.find_parts.new.parts.items)
    c.deref.ensures.value c.in_ok-find_parts.ensures in
    subst (AreNumbers c.groups.pool) (sym c.deref-in-groups.ensures.value)
    (parts_below g.edges.now g.firsts.now g.components.now c.requires.graph.below c.requires.graph.groups c.args.pool.now c.groups.pool
    c.groups.found.items c.find_parts.new.parts.items c.groups.group c.groups.invariant.extends c.requires.firsts
    c.groups.invariant.found.below are)

pub groups-preserved : goal.groups-preserved
groups-preserved c =
    let g = c.args.graph.now in
    let are = subst (λ z. AreParts g.edges.now g.components.now.numbers g.firsts.now z c.groups.group c.find_parts.new.parts.items)
    c.deref.ensures.value c.in_ok-find_parts.ensures in
    let whole = c.in_ok-union_of.field-0 in
    record {
      len = ap length c.in_ok-push.ensures.ok ∙ length-append c.groups.found.items (whole ∷ []) ∙ ap (λ z. z + 1) c.groups.invariant.len;
      extends = extends_then c.args.pool.now c.groups.pool c.union_of.new.self c.groups.invariant.extends c.in_ok-union_of.ensures.extends;
      found = subst (AreFound g.edges.now g.firsts.now g.components.now.numbers c.args.pool.now c.union_of.new.self)
          (sym c.in_ok-push.ensures.ok)
          (found_more g.edges.now g.firsts.now g.components.now c.requires.graph.below c.requires.graph.groups c.args.pool.now c.groups.pool
          c.union_of.new.self c.groups.found.items c.find_parts.new.parts.items c.groups.group whole c.groups.invariant.extends
          c.in_ok-union_of.ensures.extends c.requires.firsts c.groups.invariant.len are
          (subst (λ z. IsUnionOf c.union_of.new.self z whole) c.deref-in-groups.ensures.value c.in_ok-union_of.ensures.union)
          c.groups.invariant.found);
    }
