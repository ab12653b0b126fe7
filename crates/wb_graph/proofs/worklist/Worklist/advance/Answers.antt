use Rattle.std.proofs.Common.{◌≡◌, ◌-◌, ◌++◌, ◌∷◌, [], ℕ, length, arith}
use Rattle.std.proofs.lemmas.Grind.{common_steps}
use Rattle.std.proofs.lemmas.Option.{gets}
use Rattle.wb_graph.specs.Inner.Worklist.{worklist_of}
use Rattle.wb_graph.proofs.Places.{read_last}
use Rattle.wb_graph.proofs.WorklistLemmas.{marked_within, advances_on, advances_off}
use Rattle.wb_graph.proofs.worklist.Worklist.advance.Goals as goal

pub take-requires-clause-vertex : goal.take-requires-clause-vertex
take-requires-clause-vertex c =
    let waiting = c.args.self.now.waiting.items in
    let last = read_last waiting c.len.result c.index-vertex.result.now (omega arith) c.requires.waiting c.index-vertex.ensures in
    let h = c.requires.worklist in
    omega (
      arith,
      h.len,
      marked_within c.args.self.now.reached.items c.index-vertex.result.now
          (h.waits c.index-vertex.result.now (length waiting - 1) last),
    )

pub returns-in-Some : goal.returns-in-Some
returns-in-Some c =
    let last = read_last c.args.self.now.waiting.items c.len.result c.index-vertex.result.now
    (omega arith) c.requires.waiting c.index-vertex.ensures in
    advances_on c.args.edges.now
    (worklist_of c.args.self.now) c.take.new.self.firsts.items c.take.new.self.links.items c.take.ensures.linked c.requires.worklist
    (worklist_of c.mark.new.self) c.index-vertex.result.now c.in-Some.target c.take.ensures.len last c.in-Some.ensures.some
    c.in_ok-mark.ensures

pub returns : goal.returns
returns c =
    let waiting = c.args.self.now.waiting.items in
    let u : ℕ = c.index-vertex.result.now in
    let last = read_last waiting c.len.result u (omega arith) c.requires.waiting c.index-vertex.ensures in
    let popped : waiting ≡ c.pop.new.self.items ++ u ∷ [] = grind
    (arith, common_steps, gets, c.pop.ensures.items, c.pop.ensures.value, last) in
    let none_left = c.in_default.ensures.none in
    advances_off c.args.edges.now
    (worklist_of c.args.self.now) c.take.new.self.firsts.items c.take.new.self.links.items c.take.ensures.linked c.requires.worklist
    c.pop.new.self.items u none_left.1 none_left.0 popped
