use Rattle.std.proofs.Common.{ℕ, List, Some, None, subst}
use Rattle.wb_names_rules.specs.Inner.Reads.{IsDirectionOf}
use Rattle.wb_names_rules.proofs.KindLemmas.{no_direction, one_direction, shows_direction}
use Rattle.wb_names_rules.proofs.ReadLemmas.{fails_when}
use Rattle.wb_names_rules.proofs.kinds.check_direction.Goals as goal

pub returns-in-None-clause-ok : goal.returns-in-None-clause-ok
returns-in-None-clause-ok c =
    no_direction c.args.index.now c.args.name.now c.args.wanted
    (subst (λ (z : List ℕ). IsDirectionOf c.args.index.now z None) c.as_slice.ensures (rw c.in-None.is at c.in_ok-direction_of.ensures))

pub returns-then-suits_direction-clause-ok : goal.returns-then-suits_direction-clause-ok
returns-then-suits_direction-clause-ok c =
    one_direction c.args.index.now c.args.name.now c.args.wanted c.in-Some.found
    (subst (λ (z : List ℕ). IsDirectionOf c.args.index.now z (Some c.in-Some.found)) c.as_slice.ensures (rw c.in-Some.is at c.in_ok-direction_of.ensures))
    (c.suits_direction.ensures.0 c.if-suits_direction.true)

pub returns-else-suits_direction-clause-refused : goal.returns-else-suits_direction-clause-refused
returns-else-suits_direction-clause-refused c =
    shows_direction c.args.index.now c.args.name.now c.args.wanted c.in-Some.found c.wrong_kind.result
    (subst (λ (z : List ℕ). IsDirectionOf c.args.index.now z (Some c.in-Some.found)) c.as_slice.ensures (rw c.in-Some.is at c.in_ok-direction_of.ensures))
    (fails_when c.suits_direction.result c.if-suits_direction.false c.suits_direction.ensures) c.wrong_kind.ensures
