use Rattle.std.proofs.Common.{◌≡◌, ◌+◌, ◌<◌, ◌∙◌, length, ap, sym, subst, arith, length-set}
use Rattle.std.proofs.lemmas.Option.{slice_get-get_or}
use Rattle.std.proofs.lemmas.List.Elements.{All-contains}
use Rattle.wb_lemmas.proofs.Members.{contains_at}
use Rattle.wb_digraph.specs.Inner.Spreading.{LeavesGroup}
use Rattle.wb_digraph.proofs.ChainLemmas.{chained_more, leaves_once, pushed_len}
use Rattle.wb_digraph.proofs.spread.edge_chains.Goals as goal

pub edges-preserved : goal.edges-preserved
edges-preserved c =
    let below : c.of.result < length c.args.components.now.roots =
    All-contains (λ k. k < length c.args.components.now.roots) c.args.components.now.numbers c.of.result c.requires.below
    (contains_at c.args.components.now.numbers c.of.result _ c.of.ensures) in
    let lt : c.of.result < length c.edges.chains.lasts.items = (let e = c.edges.invariant.keys in omega (arith, e, below)) in
    record {
      len = pushed_len c.edges.chains.earlier.items c.push.new.self.earlier.items _ c.edges.number c.in_ok-push.ensures.earlier
          c.edges.invariant.len;
      keys = ap length c.in_ok-push.ensures.lasts ∙ length-set c.edges.chains.lasts.items c.of.result _ ∙ c.edges.invariant.keys;
      chained = chained_more (LeavesGroup c.args.edges.now c.args.components.now.numbers) c.of.result c.edges.chains.lasts.items c.push.new.self.lasts.items c.edges.chains.earlier.items
          c.push.new.self.earlier.items (leaves_once c.args.edges.now c.args.components.now.numbers) (subst (λ z. LeavesGroup c.args.edges.now c.args.components.now.numbers z c.of.result) (sym c.edges.invariant.len)
          (_, slice_get-get_or c.args.edges.now c.edges.number _ c.edges-test.true, c.of.ensures)) lt c.in_ok-push.ensures.lasts c.in_ok-push.ensures.earlier c.edges.invariant.chained;
    }
