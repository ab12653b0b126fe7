-- The numbers of refusals, as C gets them.
use Rattle.std.specs.Prelude.{ℕ}
use Rattle.wb_session_library.specs.declared.refusal.CallRefusal.{CallRefusal}
use Rattle.wb_session_library.specs.declared.refusal.CallRefusal.TheVariants as c

-- the number of a refusal; none has 0
abbrev pub number_of : CallRefusal → ℕ
number_of c.SpecRefused = 3
number_of c.NotCertified = 4
number_of c.TextStopped = 5
number_of c.OperationFault = 6
number_of c.MoreSteps = 7
number_of c.NoMemory = 11
number_of c.TextTooLong = 12
number_of c.TooLongToPrint = 13
number_of c.DuplicateExtension = 15
number_of c.WrongHost = 16
number_of c.UnknownAttribute = 17
number_of c.EditRefused = 21
number_of c.WrongHandle = 32
number_of c.Full = 33
number_of c.NotKept = 34
number_of c.OutOfRange = 35
