use Rattle.wb_reader.proofs.NoneBegins.{faults_are_first}
use Rattle.wb_reader.proofs.first_fault.first_fault_law.Goals as goal

pub returns : goal.returns
returns c = faults_are_first
