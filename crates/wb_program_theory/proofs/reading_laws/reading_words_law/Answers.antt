use Rattle.wb_program_theory.proofs.HostWords.{host_run_of_words, host_tree_of_words}
use Rattle.wb_program_theory.proofs.reading_laws.reading_words_law.Goals as goal

pub returns : goal.returns
returns c = record {
  tree = host_tree_of_words c.one_status_law.ensures c.one_text_law.ensures c.one_extension_answer_law.ensures c.header_law.ensures;
  run = host_run_of_words c.one_status_law.ensures c.one_text_law.ensures c.one_extension_answer_law.ensures c.header_law.ensures;
}
