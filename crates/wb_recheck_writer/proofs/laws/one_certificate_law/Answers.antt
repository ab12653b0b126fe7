use Rattle.wb_recheck_writer.proofs.OneEntries.{written_entries, written_lines}
use Rattle.wb_recheck_writer.proofs.laws.one_certificate_law.Goals as goal

pub returns-clause-lines : goal.returns-clause-lines
returns-clause-lines c g lines more entries others one two = written_lines lines more entries others one two

pub returns-clause-entries : goal.returns-clause-entries
returns-clause-entries c g lines more entries others one two = written_entries lines more entries others one two
