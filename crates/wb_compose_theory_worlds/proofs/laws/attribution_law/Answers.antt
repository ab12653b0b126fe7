use Rattle.wb_compose_theory_worlds.proofs.AttributionLemmas.{is_union, are_union}
use Rattle.wb_compose_theory_worlds.proofs.laws.attribution_law.Goals as goal

pub returns : goal.returns
returns c = record { production = is_union; whole = are_union }
