-- Attributes, occurrences and preferences, extensible nonterminals and the start, as they are made before all have numbers.
use Rattle.std.specs.Prelude.{◌≡◌, ◌⊎◌, ℕ, List, [], None, length, option_to_list}
use Rattle.std.specs.List.{AllZip}
use Rattle.wb_syntax_resolved.specs.declared.resolved.ResolvedParts.{ResolvedParts}
use Rattle.wb_names_theory.specs.Declarations.{attributes, extensibles, occurrences, preferences, starts}
use Rattle.wb_names_numbers_theory.specs.Files.{File}
use Rattle.wb_names_numbers_theory.specs.Resolves.{starts_of}
use Rattle.wb_names_numbers_theory.specs.Sources.{sources, IsFrom}
use Rattle.wb_names_rows.specs.declared.moves.Moves.{Moves}
use Rattle.wb_names_rows.specs.declared.plains.Plains.{Plains}
use Rattle.wb_names_rows.specs.declared.scope.Scope.{Scope}
use Rattle.wb_names_rows.specs.Base.{IsAttributeNow, IsOccurrenceNow, IsPreferenceNow}
use Rattle.wb_names_rows.specs.Moves.{IsNow}
use Rattle.wb_names_rows.specs.Nodes.{IsAt}
use Rattle.wb_names_rows.specs.Plains.{AddsEach, IsFoundAttribute, IsFoundOccurrence, IsFoundPreference}
use Rattle.wb_names_symbols.specs.Right.{IsRight}
use Rattle.wb_names.specs.declared.rest.Rest.{Rest}

-- a host's own file comes on top of no grammar, and so of no start
abbrev pub BeginsAlone : File → Type 0
BeginsAlone file = file.owner ≡ 0 → file.base.grammar ≡ None

-- the file's names are right, and it comes on top of what it can
pub record IsReady (file : File) : Type 0 where
  pub right : IsRight file
  pub alone : BeginsAlone file

-- the tables have a number for each of a base's names
pub record HasTables (base : ResolvedParts) (m : Moves) : Type 0 where
  pub terminals : length m.terminals.items ≡ length base.terminals
  pub nonterminals : length m.nonterminals.items ≡ length base.attributes.nonterminals
  pub productions : length m.productions.items ≡ length base.attributes.productions

-- the number of a nonterminal of the base, or of one by its name
abbrev pub IsNumberNow : Scope → Moves → ℕ ⊎ List ℕ → ℕ → Type 0
IsNumberNow s m = IsFrom (IsNow m.nonterminals.items) (IsAt s.nonterminals)

-- the rows of the base are added
pub record AddsBase (base : ResolvedParts) (m : Moves) (old new : Plains) : Type 0 where
  pub attributes : AddsEach (IsAttributeNow m) base.attributes.attributes old.attributes.items new.attributes.items
  pub occurrences : AddsEach (IsOccurrenceNow m) base.attributes.occurrences old.occurrences.items new.occurrences.items
  pub preferences : AddsEach (IsPreferenceNow m) base.preferences old.preferences.items new.preferences.items

-- the rows of the base
pub record AreBasePlains (base : ResolvedParts) (m : Moves) (plains : Plains) : Type 0 where
  pub attributes : AllZip (IsAttributeNow m) base.attributes.attributes plains.attributes.items
  pub occurrences : AllZip (IsOccurrenceNow m) base.attributes.occurrences plains.occurrences.items
  pub preferences : AllZip (IsPreferenceNow m) base.preferences plains.preferences.items

-- no rows and numbers
pub record IsBare (rest : Rest) : Type 0 where
  pub attributes : rest.plains.attributes.items ≡ []
  pub occurrences : rest.plains.occurrences.items ≡ []
  pub preferences : rest.plains.preferences.items ≡ []
  pub extensible : rest.extensible.items ≡ []

module _ (file : File) (s : Scope) (m : Moves) where
  -- the rows of the base, and those of what the file declares
  pub record ArePlains (plains : Plains) : Type 0 where
    pub attributes : AllZip (IsFrom (IsAttributeNow m) (IsFoundAttribute s)) (sources file.base.attributes.attributes (attributes
        file.items))
        plains.attributes.items
    pub occurrences : AllZip (IsFrom (IsOccurrenceNow m) (IsFoundOccurrence s))
        (sources file.base.attributes.occurrences (occurrences file.items)) plains.occurrences.items
    pub preferences : AllZip (IsFrom (IsPreferenceNow m) (IsFoundPreference s)) (sources file.base.preferences (preferences file.items))
        plains.preferences.items

  -- rows and numbers of the base, and of what the file declares
  pub record AreRest (rest : Rest) : Type 0 where
    pub plains : ArePlains rest.plains
    pub extensible : AllZip (IsNumberNow s m) (sources file.base.extensible (extensibles file.items)) rest.extensible.items
    pub start : AllZip (IsNumberNow s m) (sources (starts_of file.base) (starts file.items)) (option_to_list rest.start)
