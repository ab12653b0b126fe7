-- Files whose names are right.
use Rattle.std.specs.Prelude.{ℕ}
use Rattle.wb_names_theory.specs.Hold.{NamesHold}
use Rattle.wb_names_theory.specs.NamesOk.{scope_of}
use Rattle.wb_names_numbers_theory.specs.Files.{File}
use Rattle.wb_names_numbers_theory.specs.Given.{IsFile}

-- it is a file on its base, and its names are right in this format
pub record IsRight (file : File) : Type 0 where
  pub is_file : IsFile file
  pub format : ℕ
  pub hold : NamesHold (scope_of file.base file.owner format file.items)
