use Rattle.wb_compose_theory.proofs.BlockLemmas.{lift_spread, name_once, spread_once}
use Rattle.wb_compose_theory.proofs.laws.blocks_law.Goals as goal

pub returns : goal.returns
returns c = record {
  names = name_once;
  spread = λ own before size total fits.
      record { once = spread_once own before size total fits; lifted = lift_spread own before size total fits };
}
