-- What is said of a text that stops.
use Rattle.std.specs.Prelude.{◌≡◌, ◌⊎◌, ◌++◌, ◌∷◌, ℕ, List, [], Option, Some, None, take, slice_get}
use Rattle.std.specs.List.{AllZip}
use lib.Chars.{codes}
use Rattle.wb_grammar_theory.specs.Trees.{Forest}
use Rattle.wb_scan_theory.specs.declared.stop_kind.StopKind.{StopKind}
use Rattle.wb_scan_theory.specs.Languages.{LanguageView}
use Rattle.wb_scan_theory.specs.Texts.{ParsesTo}
use Rattle.wb_parser_expected.specs.Expected.{AreExpected}

-- a name, and what the end of a text is called where there is none
abbrev pub or_end : Option (List ℕ) → List ℕ
or_end None = codes "the end of the text"
or_end (Some name) = name

-- a line that begins with four spaces and the name of the terminal, or what the end of a text is called
abbrev pub IsEntry : List (List ℕ) → ℕ → List ℕ → Type 0
IsEntry names t entry = (more : List ℕ) × (entry ≡ codes "    " ++ or_end (slice_get names t) ++ more)

-- the texts one after another
abbrev pub all_of : List (List ℕ) → List ℕ
all_of [] = []
all_of (x ∷ xs) = x ++ all_of xs

-- after what was there come lines that name the first 40 of these terminals, in their order, and further ones
pub record Lists (names : List (List ℕ)) (terminals : List ℕ) (old new : List ℕ) : Type 0 where
  pub entries : List (List ℕ)
  pub are : AllZip (IsEntry names) (take 40 terminals) entries
  pub rest : List ℕ
  pub lines : new ≡ old ++ codes "\nWhat could come here:\n\n" ++ all_of entries ++ rest

-- the text stops, and the lines name what could come there
pub record SaysStop (l : LanguageView) (names : List (List ℕ)) (text old new : List ℕ) : Type 0 where
  pub at : ℕ
  pub kind : StopKind
  pub terminals : List ℕ
  pub expected : AreExpected l text at kind terminals
  pub lists : Lists names terminals old new

-- so it is; or the text has a tree, and nothing is said
abbrev pub Says : LanguageView → List (List ℕ) → List ℕ → List ℕ → List ℕ → Type 0
Says l names text old new = SaysStop l names text old new ⊎ (((tree : Forest) × ParsesTo l text tree) × (new ≡ old))
