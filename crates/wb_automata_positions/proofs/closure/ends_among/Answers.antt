use Rattle.std.proofs.Common.{inl, inr}
use Rattle.wb_automata_positions.proofs.ClosureLemmas.{none_in}
use Rattle.wb_automata_positions.proofs.closure.ends_among.Goals as goal

pub returns-clause-exact : goal.returns-clause-exact
returns-clause-exact c k =
    let a = rw (c.clear.ensures) at c.in_ok-add_ends.ensures in (
      λ has. elim ((a.exact k).0 ((c.sort.ensures.same k).0 has)) [ inl was ↦ absurd (none_in k was) | inr want ↦ want ],
      λ want. (c.sort.ensures.same k).1 ((a.exact k).1 (inr want)),
    )
