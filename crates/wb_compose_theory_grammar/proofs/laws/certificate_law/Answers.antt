use Rattle.wb_compose_theory_grammar.proofs.CertificateLemmas.{certified_by}
use Rattle.wb_compose_theory_grammar.proofs.laws.certificate_law.Goals as goal

pub returns : goal.returns
returns c = certified_by
