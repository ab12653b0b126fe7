use Rattle.wb_recheck.proofs.AnswerLemmas.{one_extension, one_host}
use Rattle.wb_recheck.proofs.SortLemmas.{one_extension_sort, one_host_sort}
use Rattle.wb_recheck.proofs.laws.one_recheck_answer_law.Goals as goal

pub returns-clause-host : goal.returns-clause-host
returns-clause-host c = λ r operations text. one_host c.text_law.ensures.no_fault c.text_law.ensures.one_certificate r text operations

pub returns-clause-extension : goal.returns-clause-extension
returns-clause-extension c = λ host r operations text.
    one_extension c.text_law.ensures.no_fault c.text_law.ensures.one_certificate r text host operations
    (c.one_answer_law.ensures host r operations)

pub returns-clause-host_sort : goal.returns-clause-host_sort
returns-clause-host_sort c =
    one_host_sort c.text_law.ensures.no_fault c.text_law.ensures.one_certificate c.text_law.ensures.one_fault

pub returns-clause-extension_sort : goal.returns-clause-extension_sort
returns-clause-extension_sort c = λ host r operations text.
    one_extension_sort c.text_law.ensures.no_fault c.text_law.ensures.one_certificate c.text_law.ensures.one_fault r operations text host
