-- A read keeps what a shelf promises of each.
use Rattle.wb_explain_lines.proofs.file.read_piece.Goals as goal

pub returns-in_ok-extend_from_slice-in-Bytes-clause-keeps : goal.returns-in_ok-extend_from_slice-in-Bytes-clause-keeps
returns-in_ok-extend_from_slice-in-Bytes-clause-keeps g c =
    record { files = c.read.ensures.files; absences = c.read.ensures.absences; faults = c.read.ensures.faults }

pub returns-in_err-extend_from_slice-in-Bytes-clause-keeps : goal.returns-in_err-extend_from_slice-in-Bytes-clause-keeps
returns-in_err-extend_from_slice-in-Bytes-clause-keeps g c =
    record { files = c.read.ensures.files; absences = c.read.ensures.absences; faults = c.read.ensures.faults }

pub returns-in-NoMemory-clause-keeps : goal.returns-in-NoMemory-clause-keeps
returns-in-NoMemory-clause-keeps g c =
    record { files = c.read.ensures.files; absences = c.read.ensures.absences; faults = c.read.ensures.faults }

pub returns-in_default-clause-keeps : goal.returns-in_default-clause-keeps
returns-in_default-clause-keeps g c =
    record { files = c.read.ensures.files; absences = c.read.ensures.absences; faults = c.read.ensures.faults }
