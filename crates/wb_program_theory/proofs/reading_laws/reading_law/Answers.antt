use Rattle.wb_program_theory.proofs.ReadingLemmas.{host_run, host_tree}
use Rattle.wb_program_theory.proofs.reading_laws.reading_law.Goals as goal

pub returns : goal.returns
returns c = record {
  tree = host_tree c.one_extension_answer_law.ensures c.header_law.ensures;
  run = host_run c.one_extension_answer_law.ensures c.header_law.ensures;
}
