-- The rows of all productions of a base and a file.
use Rattle.std.specs.Prelude.{ℕ, List}
use Rattle.wb_syntax_resolved.specs.declared.production.Production.{Production}
use Rattle.wb_names_theory.specs.Declarations.{productions}
use Rattle.wb_names_numbers_theory.specs.Files.{File}
use Rattle.wb_names_numbers_theory.specs.Resolves.{IsConcrete}
use Rattle.wb_names_numbers_theory.specs.Sources.{sources}
use Rattle.wb_names_rows.specs.declared.moves.Moves.{Moves}
use Rattle.wb_names_rows.specs.declared.scope.Scope.{Scope}
use Rattle.wb_names_symbols.specs.Rows.{AreGroupedBy}
use Rattle.wb_names.specs.Inner.Now.{IsProductionNow}

-- in one list, of which so many are concrete
abbrev pub AreProductions : File → Scope → Moves → ℕ → List Production → Type 0
AreProductions file s m count rows =
    AreGroupedBy count IsConcrete (IsProductionNow file s m) (sources file.base.attributes.productions (productions file.items)) rows
