use Rattle.wb_compose.proofs.AgreementLemmas.{agrees, has_united_grammar}
use Rattle.wb_compose.proofs.agreement.agreement_law.Goals as goal

pub returns : goal.returns
returns c = record {
  grammar = λ host g operations extended apart. has_united_grammar host g operations extended apart;
  signatures = λ host g operations extended apart. agrees host g operations extended apart;
}
