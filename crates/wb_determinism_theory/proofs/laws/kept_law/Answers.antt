use Rattle.wb_determinism_theory.proofs.ClashLemmas.{no_clash_known}
use Rattle.wb_determinism_theory.proofs.KnownLemmas.{keeps_at}
use Rattle.wb_determinism_theory.proofs.LawLemmas.{kept}
use Rattle.wb_determinism_theory.proofs.laws.kept_law.Goals as goal

pub returns-clause-rule : goal.returns-clause-rule
returns-clause-rule c = λ w e ready keeps other prefix same. keeps_at ready.is_marked ready.host ready.both_parts keeps other prefix same

pub returns-clause-kept : goal.returns-clause-kept
returns-clause-kept c = λ w e ready other prefix same keeps. kept ready other prefix same keeps

pub returns-clause-clash : goal.returns-clause-clash
returns-clause-clash c = λ w e ready l clear other prefix same keeps none. no_clash_known ready l clear other prefix same keeps none
