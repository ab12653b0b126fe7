use Rattle.std.proofs.Common.{◌+◌, ℕ, length}
use Rattle.wb_automata_positions.proofs.ClosureLemmas.{leaf_places}
use Rattle.wb_automata_positions.proofs.closure.Following.find.Goals as goal

pub returns-clause-ahead : goal.returns-clause-ahead
returns-clause-ahead c q =
    let h = rw (c.as_slice.ensures.value, c.as_slice-2.ensures) at c.in_ok-leaves_among.ensures.exact in (
      λ has. let (leaf, there) = (h q).0 has in record { leaf = leaf; reached = (c.in_ok-closure.ensures q).0 there },
      λ a. (h q).1 (a.leaf, (c.in_ok-closure.ensures q).1 a.reached),
    )

pub returns-clause-places : goal.returns-clause-places
returns-clause-places c = leaf_places c.args.tables.now.nodes.items c.closure.new.met c.leaves_among.new.all
    (rw (c.as_slice.ensures.value, c.as_slice-2.ensures) at c.in_ok-leaves_among.ensures.exact) c.in_ok-leaves_among.ensures.rising

pub returns-clause-ends : goal.returns-clause-ends
returns-clause-ends c k =
    let n : ℕ = length c.args.tables.now.nodes.items in
    let h = rw (c.as_slice-3.ensures, c.len.ensures, c.args.tables.now.nodes.ok.0) at c.in_ok-ends_among.ensures.exact in (
      λ has. (c.in_ok-closure.ensures (n + n + k)).0 ((h k).0 has),
      λ e. (h k).1 ((c.in_ok-closure.ensures (n + n + k)).1 e),
    )
