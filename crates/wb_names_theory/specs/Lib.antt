-- what the items of a file declare, sort by sort
pub mod Declarations
-- what items and a base declare, in one list
pub mod Declares
-- what names mean there
pub mod Meaning
-- which names items use, and what their places ask for
pub mod Uses
-- the rules, each by when it fails and with which name: nothing is declared twice
pub mod Duplicate
-- each name is declared
pub mod Unknown
-- each name is of the right kind
pub mod WrongKind
-- what an extension may say
pub mod Orphan
-- when no rule fails
pub mod NamesOk
-- which refusal is true
pub mod Refusals
-- what each name means where no rule fails
pub mod Hold
