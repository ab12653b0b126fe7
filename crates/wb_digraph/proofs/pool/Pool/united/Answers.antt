use Rattle.std.proofs.Common.{◌≡◌, ◌<◌, ◌∙◌, get_or, length, subst}
use Rattle.std.proofs.lemmas.List.Elements.{All-get_or}
use Rattle.wb_termset.specs.Sets.{IsUnion}
use Rattle.wb_digraph.proofs.PoolLemmas.{set_read, united_all, united_more}
use Rattle.wb_digraph.proofs.pool.Pool.united.Goals as goal

pub parts-preserved : goal.parts-preserved
parts-preserved c =
    let lt = All-get_or (λ n. n < length c.args.self.now) c.args.parts.now c.parts.part-index _ c.parts-test.true c.requires in
    record {
      width = c.union_with.ensures.after.len ∙ c.parts.invariant.width;
      members = united_more c.args.self.now c.args.parts.now c.parts.part-index _ c.parts.set c.union_with.new.self c.parts-test.true
          (subst (λ z. IsUnion c.parts.set z c.union_with.new.self)
          (set_read c.self.inside.sets.items c.args.self.now _ c.index-in-parts.result.now c.self.view_is lt c.index-in-parts.ensures)
          c.union_with.ensures.after) c.parts.invariant.members;
    }

pub returns-clause-members : goal.returns-clause-members
returns-clause-members c =
    united_all c.args.self.now c.args.parts.now c.parts.part-index c.parts.set c.parts-test.false c.parts.invariant.members
