use Rattle.std.proofs.Common.{◌≡◌, ◌+◌, ◌<◌, ◌∙◌, length, ap, sym, subst, arith, length-set}
use Rattle.std.proofs.lemmas.Option.{slice_get-get_or}
use Rattle.std.proofs.lemmas.List.Elements.{All-contains}
use Rattle.wb_lemmas.proofs.Members.{contains_at}
use Rattle.wb_digraph.specs.Inner.Spreading.{IsInGroup}
use Rattle.wb_digraph.proofs.ChainLemmas.{chained_more, in_group_once, pushed_len}
use Rattle.wb_digraph.proofs.spread.vertex_chains.Goals as goal

pub vertices-preserved : goal.vertices-preserved
vertices-preserved c =
    let below : c.of.result < length c.args.components.now.roots =
    All-contains (λ k. k < length c.args.components.now.roots) c.args.components.now.numbers c.of.result c.requires.below
    (contains_at c.args.components.now.numbers c.of.result _ c.of.ensures) in
    let lt : c.of.result < length c.vertices.chains.lasts.items = (let e = c.vertices.invariant.keys in omega (arith, e, below)) in
    record {
      len = pushed_len c.vertices.chains.earlier.items c.push.new.self.earlier.items _ c.vertices.vertex c.in_ok-push.ensures.earlier
          c.vertices.invariant.len;
      keys = ap length c.in_ok-push.ensures.lasts ∙ length-set c.vertices.chains.lasts.items c.of.result _ ∙ c.vertices.invariant.keys;
      chained = chained_more (IsInGroup c.args.components.now.numbers) c.of.result c.vertices.chains.lasts.items c.push.new.self.lasts.items c.vertices.chains.earlier.items
          c.push.new.self.earlier.items (in_group_once c.args.components.now.numbers) (subst (λ z. IsInGroup c.args.components.now.numbers z c.of.result) (sym c.vertices.invariant.len)
          c.of.ensures) lt c.in_ok-push.ensures.lasts c.in_ok-push.ensures.earlier c.vertices.invariant.chained;
    }
