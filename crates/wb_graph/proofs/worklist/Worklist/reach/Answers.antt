use Rattle.std.proofs.Common.{◌≡◌, ◌<◌, ℕ, Bool, false, [], length, get_or, refl, sym, subst, arith, below_more}
use Rattle.std.proofs.lemmas.Grind.{common_steps}
use Rattle.std.proofs.lemmas.List.Elements.{All-get_or, Contains-get_or}
use Rattle.std.proofs.lemmas.Option.{slice_get_within, get_or_from_slice_get}
use Rattle.wb_graph.specs.Graphs.{AreReached}
use Rattle.wb_graph.specs.Inner.Worklist.{worklist_of, State, IsMarked, IsReaching, marked}
use Rattle.wb_lemmas.proofs.Members.{place_of}
use Rattle.wb_graph.proofs.WorklistLemmas.{reaching_mark, reaching_step, worklist_reached, marked_at}
use Rattle.wb_graph.proofs.WorklistLemmas.{marked_keeps}
use Rattle.wb_graph.proofs.worklist.Worklist.reach.Goals as goal

pub starts-init : goal.starts-init
starts-init c = record { reaching = c.requires.reaching; starts = λ k less. absurd (omega arith) }

pub starts-preserved : goal.starts-preserved
starts-preserved c =
    let count = length c.args.self.now.reached.items in
    let from = c.args.from.now in
    let edges = c.args.edges.now in
    let s : State = worklist_of c.starts.self in
    let h = c.starts.invariant in
    let v : ℕ = get_or from c.starts.start-index 0 in
    let b : Bool = get_or s.reached v false in
    let below : v < count = All-get_or (λ w. w < count) from c.starts.start-index 0 c.starts-test.true c.requires.from in
    let within : v < length s.reached = omega (arith, below, h.reaching.len) in
    let e : worklist_of c.mark.new.self ≡ marked s v b = c.in_ok-mark.ensures in
    record {
      reaching = subst (IsReaching count edges from) (sym e)
          (reaching_mark count edges from s h.reaching v (Contains-get_or from c.starts.start-index 0 c.starts-test.true) below);
      starts = below_more _ _
          (λ k less. subst (λ n. IsMarked n (get_or from k 0)) (sym e)
          (marked_keeps edges s v b refl within (get_or from k 0) (h.starts k less)))
          (subst (λ n. IsMarked n v) (sym e) (marked_at edges s v b refl within));
    }

pub steps-init : goal.steps-init
steps-init c =
    let count = length c.args.self.now.reached.items in
    let from = c.args.from.now in
    let h = c.starts.invariant in
    record {
      reaching = h.reaching;
      starts = λ v there.
          let (k, at) = place_of from v there in
          let less : k < c.starts.start-index = omega (arith, slice_get_within from k v at) in
          subst (IsMarked (worklist_of c.starts.self)) (get_or_from_slice_get from k v 0 at) (h.starts k less);
    }

pub steps-preserved : goal.steps-preserved
steps-preserved c =
    let count = length c.args.self.now.reached.items in
    let h = c.steps.invariant in
    record {
      reaching = reaching_step count c.args.edges.now c.args.from.now (worklist_of c.steps.self) h.reaching
          (worklist_of c.advance.new.self) c.in_ok-advance.ensures;
      starts = λ v there. c.in_ok-advance.ensures.keeps v (h.starts v there);
    }

pub returns : goal.returns
returns c =
    let h = c.steps.invariant in
    let empty : c.steps.self.waiting.items ≡ [] = grind (arith, common_steps, c.is_empty.ensures, c.steps-test.false) in
    subst (λ n. AreReached n c.args.edges.now c.args.from.now c.steps.self.reached.items) h.reaching.len
    (worklist_reached c.args.edges.now c.args.from.now
    (worklist_of c.steps.self) h.reaching.worklist empty h.reaching.sound h.starts)
