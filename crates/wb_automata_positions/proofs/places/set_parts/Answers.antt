use Rattle.std.proofs.Common.{◌≡◌, ◌<◌, ◌+◌, ◌-◌, ℕ, length, get_or, subst, arith, []}
use Rattle.std.proofs.lemmas.Option.{slice_get-get_or}
use Rattle.wb_regex.specs.declared.node.RegexNode.TheVariants as n
use Rattle.wb_automata_positions.specs.Inner.Machines.{AreContinued}
use Rattle.wb_automata_positions.proofs.NextLemmas.{continued_more}
use Rattle.wb_automata_positions.proofs.PartLemmas.{parts_more}
use Rattle.wb_automata_positions.proofs.places.set_parts.Goals as goal

pub set_next-requires-clause-parts : goal.set_next-requires-clause-parts
set_next-requires-clause-parts c =
    let nodes = c.args.nodes.now in
    let k : ℕ = c.nodes.place - 1 in
    let node = get_or nodes k (n.Set []) in
    let lt : k < length nodes = omega (arith, c.nodes.invariant.within, c.nodes-test.true) in
    parts_more node k (length nodes) (omega arith)
    (c.requires.parents.parts k node (slice_get-get_or nodes k (n.Set []) lt))

pub nodes-preserved : goal.nodes-preserved
nodes-preserved c =
    let nodes = c.args.nodes.now in
    let k : ℕ = c.nodes.place - 1 in
    let node = get_or nodes k (n.Set []) in
    let lt : k < length nodes = omega (arith, c.nodes.invariant.within, c.nodes-test.true) in
    let next : c.nodes.place ≡ k + 1 = omega (arith, c.nodes-test.true) in
    let h = subst (AreContinued nodes c.args.roots.now c.nodes.next.items c.args.count) next c.nodes.invariant.continued in
    record {
      within = omega arith;
      continued = rw (c.set_next.ensures) (continued_more nodes c.args.roots.now c.nodes.next.items c.args.count k node
          c.requires.parents c.requires.count (slice_get-get_or nodes k (n.Set []) lt) h);
    }
