use Rattle.wb_program_texts.proofs.laws.laws_below.Goals as goal

pub returns : goal.returns
returns c = record {
  extensions = c.one_extension_answer_law.ensures;
  headers = c.header_law.ensures;
  withdrawn = c.withdrawn_law.ensures;
  texts = c.one_answer_law.ensures;
  lists = λ contents. record {
    one = c.list_law.ensures.one_list contents;
    no_fault = c.list_law.ensures.no_fault contents;
    one_fault = c.list_law.ensures.one_fault contents;
  };
  edits = c.one_edits_law.ensures;
  readings = c.one_reading_law.ensures;
  attributes = c.one_root_law.ensures;
  values = c.one_value_law.ensures;
  host_certificates = c.one_text_law-2.ensures.host;
  extension_certificates = c.one_text_law-2.ensures.extension;
  rechecked_hosts = c.one_rechecked_host_law.ensures;
  rechecked_extensions = c.one_rechecked_extension_law.ensures;
  made = c.one_text_law.ensures;
}
