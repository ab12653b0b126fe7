-- The numbers of statuses.
use Rattle.std.specs.Prelude.{ℕ}
use Rattle.wb_program_files.specs.declared.status.Status.{Status}
use Rattle.wb_program_files.specs.declared.status.Status.TheVariants.{Done, Usage, SpecRefused, OperationFault, MoreSteps, TermRefused}
use Rattle.wb_program_files.specs.declared.status.Status.TheVariants.{NoSentence, CertificateRefused, EditRefused}
use Rattle.wb_program_files.specs.declared.status.Status.TheVariants.{NotCertified, TextStopped, TextTooLong, TooLongToPrint, WrongHost}
use Rattle.wb_program_files.specs.declared.status.Status.TheVariants.{TooManyExtensions, DuplicateExtension, UnknownAttribute, Absent}
use Rattle.wb_program_files.specs.declared.status.Status.TheVariants.{ReadFault, WriteFault, NoMemory}

-- the number that a process with this status ends with
abbrev pub number_of : Status → ℕ
number_of Done = 0
number_of Usage = 2
number_of SpecRefused = 3
number_of NotCertified = 4
number_of TextStopped = 5
number_of OperationFault = 6
number_of MoreSteps = 7
number_of Absent = 8
number_of ReadFault = 9
number_of WriteFault = 10
number_of NoMemory = 11
number_of TextTooLong = 12
number_of TooLongToPrint = 13
number_of TooManyExtensions = 14
number_of DuplicateExtension = 15
number_of WrongHost = 16
number_of UnknownAttribute = 17
number_of TermRefused = 18
number_of NoSentence = 19
number_of CertificateRefused = 20
number_of EditRefused = 21
