use Rattle.wb_compose_theory.proofs.TerminalLemmas.{twins}
use Rattle.wb_compose_theory.proofs.TwinLemmas.{valid_twin}
use Rattle.wb_compose_theory.proofs.laws.twins_law.Goals as goal

pub returns : goal.returns
returns c = record {
  items = λ w part ok live prefix i t u valid has same. twins ok live valid u has same;
  terminals = λ w part ok live prefix t u valid has same. valid_twin ok live prefix t u valid has same;
}
