use Rattle.wb_session_edits.specs.Edits.{IsList}
use Rattle.wb_text_parts.proofs.FaultLemmas.{no_fault, one_fault}
use Rattle.wb_session_edits.proofs.ProgressLemmas.{one_list}
use Rattle.wb_session_edits.proofs.laws.list_law.Goals as goal

pub returns-clause-one_list : goal.returns-clause-one_list
returns-clause-one_list c = one_list

pub returns-clause-no_fault : goal.returns-clause-no_fault
returns-clause-no_fault c text edits at list = no_fault IsList text at (edits, list)

pub returns-clause-one_fault : goal.returns-clause-one_fault
returns-clause-one_fault c = one_fault IsList
