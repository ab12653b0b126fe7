-- What words report of a text whose reading is the host's, that ask for one command with extensions and without.
use Rattle.std.specs.Prelude.{◌≡◌, [], ℕ, List, Some}
use Rattle.wb_operations.specs.Operations.{Operations}
use Rattle.wb_world.specs.Shelf.{Files}
use Rattle.wb_program.specs.status.Status.{Status}
use Rattle.wb_program_words.specs.Asked.{Asked}
use Rattle.wb_program_words.specs.Asked as a
use Rattle.wb_program_words.specs.Words.{Asks}
use Rattle.wb_program.specs.Report.{IsReport}
use Rattle.wb_program_theory.specs.ReadingLaws.{IsAttributeOf, ReportsHostReading}

-- what words report that ask for the one is what words report that ask for the other: the same status, and the same bytes
abbrev pub HaveEqualReports : Operations → Files → (asked other : Asked) → Type 0
HaveEqualReports operations files asked other =
    (words others : List (List ℕ)) (status end : Status) (bytes ends : List ℕ) → Asks words asked → Asks others other
    → IsReport operations words (Some files) status bytes → IsReport operations others (Some files) end ends
    → (status ≡ end) × (bytes ≡ ends)

-- so it is with `tree`, with the extensions and without
abbrev pub HaveHostTreeOfWords : Type 0
HaveHostTreeOfWords = (operations : Operations) (files : Files) (text host : List ℕ) (extensions : List (List ℕ))
    → ReportsHostReading operations.signatures files text host extensions
    → HaveEqualReports operations files (a.tree text host extensions) (a.tree text host [])

-- and with `run`, of each attribute of the host and for every number of steps
abbrev pub HaveHostRunOfWords : Type 0
HaveHostRunOfWords = (operations : Operations) (files : Files) (text name : List ℕ) (steps : ℕ) (host : List ℕ)
    (extensions : List (List ℕ)) → ReportsHostReading operations.signatures files text host extensions
    → IsAttributeOf operations.signatures files host name
    → HaveEqualReports operations files (a.run text name steps host extensions) (a.run text name steps host [])
