use Rattle.wb_program_theory.proofs.CertifiedLemmas.{no_refusal, one_value}
use Rattle.wb_program_theory.proofs.certified_laws.no_refusal_law.Goals as goal

pub returns : goal.returns
returns c = record {
  accepted = no_refusal c.one_extension_answer_law.ensures c.header_law.ensures;
  one = one_value c.one_extension_answer_law.ensures c.header_law.ensures;
}
