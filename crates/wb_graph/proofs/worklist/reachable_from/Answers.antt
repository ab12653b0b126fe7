use Rattle.std.proofs.Common.{◌≡◌, ◌<◌, ◌∙◌, ℕ, All, length, replicate, false, ap, subst, sym}
use Rattle.std.proofs.lemmas.List.{length-replicate}
use Rattle.wb_graph.specs.Graphs.{AreReached}
use Rattle.wb_graph.specs.Inner.Worklist.{IsReaching, worklist_of}
use Rattle.wb_graph.proofs.WorklistLemmas.{reaching_begun}
use Rattle.wb_graph.proofs.worklist.reachable_from.Goals as goal

pub reach-requires-clause-from : goal.reach-requires-clause-from
reach-requires-clause-from c =
    let clear : c.in_ok-vec.field-0.items ≡ replicate c.args.count false = c.in_ok-vec.ensures.items_if_clones_equal (λ y same. same) in
    let len : length c.in_ok-vec.field-0.items ≡ c.args.count = ap length clear ∙ length-replicate c.args.count false in
    subst (λ n. All (λ (v : ℕ). v < n) c.args.from.now) (sym len) c.requires.from

pub reach-requires-clause-reaching : goal.reach-requires-clause-reaching
reach-requires-clause-reaching c =
    let made = c.in_ok-new.field-0 in
    let clear : c.in_ok-vec.field-0.items ≡ replicate c.args.count false = c.in_ok-vec.ensures.items_if_clones_equal (λ y same. same) in
    let len : length c.in_ok-vec.field-0.items ≡ c.args.count = ap length clear ∙ length-replicate c.args.count false in
    subst (λ n. IsReaching n c.args.edges.now c.args.from.now (worklist_of (record {
      untaken = made;
      reached = c.in_ok-vec.field-0;
      waiting = c.new-2.result;
    }))) (sym len) (rw (clear, c.new-2.ensures.items)
    (reaching_begun c.args.count c.args.edges.now c.args.from.now made.firsts.items made.links.items c.requires.edges
    c.in_ok-new.ensures.linked c.in_ok-new.ensures.len c.in_ok-new.ensures.nothing))

pub returns : goal.returns
returns c =
    let clear : c.in_ok-vec.field-0.items ≡ replicate c.args.count false = c.in_ok-vec.ensures.items_if_clones_equal (λ y same. same) in
    let len : length c.in_ok-vec.field-0.items ≡ c.args.count = ap length clear ∙ length-replicate c.args.count false in
    subst (λ n. AreReached n c.args.edges.now c.args.from.now c.reach.new.self.reached.items) len c.in_ok-reach.ensures
