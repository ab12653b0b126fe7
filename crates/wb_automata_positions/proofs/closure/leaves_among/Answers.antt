use Rattle.std.proofs.Common.{inl, inr}
use Rattle.wb_automata_positions.proofs.ClosureLemmas.{none_in}
use Rattle.wb_automata_positions.proofs.closure.leaves_among.Goals as goal

pub returns-clause-exact : goal.returns-clause-exact
returns-clause-exact c q =
    let a = rw (c.clear.ensures) at c.in_ok-add_leaves.ensures in (
      λ has. elim ((a.exact q).0 ((c.sort.ensures.same q).0 has)) [ inl was ↦ absurd (none_in q was) | inr want ↦ want ],
      λ want. (c.sort.ensures.same q).1 ((a.exact q).1 (inr want)),
    )
