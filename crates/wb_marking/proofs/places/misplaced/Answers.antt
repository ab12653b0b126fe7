use Rattle.std.proofs.Common.{◌<◌, subst, sym}
use Rattle.wb_marking.proofs.PlaceLemmas as p
use Rattle.wb_marking.proofs.places.misplaced.Goals as goal

pub returns-in_default-clause-none : goal.returns-in_default-clause-none
returns-in_default-clause-none c marker symbol is = absurd (c.in_default.ensures.none marker symbol is)

pub is_beginning-requires : goal.is_beginning-requires
is_beginning-requires c =
    subst (λ z. c.in-Some.marker < z) (sym c.requires) (p.marker_within c.args.parts.now c.in-Some.marker c.in-Some.ensures.some.1)
