use Rattle.wb_recheck.proofs.TextLemmas.{one_extension, one_host, one_text}
use Rattle.wb_recheck.proofs.laws.one_text_law.Goals as goal

pub returns-clause-grammar : goal.returns-clause-grammar
returns-clause-grammar c = one_text

pub returns-clause-host : goal.returns-clause-host
returns-clause-host c = one_host

pub returns-clause-extension : goal.returns-clause-extension
returns-clause-extension c = one_extension
