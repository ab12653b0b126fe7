-- What is given with a file, and that it then stands for a resolved specification.
use Rattle.std.specs.Prelude.{◌≡◌, ℕ, [], All}
use Rattle.wb_base.specs.Different.{Differ}
use Rattle.wb_base.specs.Identifiers.{IsName}
use Rattle.wb_syntax_resolved.specs.declared.resolved.ResolvedParts.{ResolvedParts}
use Rattle.wb_syntax_resolved.specs.Owners.{IsOwner}
use Rattle.wb_syntax_resolved.specs.Resolved.{IsResolved}
use Rattle.wb_syntax.specs.declared.item.Item.{Item}
use Rattle.wb_syntax.specs.declared.pattern.Pattern.{Pattern}
use Rattle.wb_syntax.specs.Equations.{HasWholeEquations}
use Rattle.wb_syntax.specs.Names.{FormHasNames}
use Rattle.wb_names_theory.specs.Hold.{NamesHold}
use Rattle.wb_names_theory.specs.NamesOk.{scope_of}
use Rattle.wb_names_numbers_theory.specs.Files.{File}
use Rattle.wb_names_numbers_theory.specs.Resolves.{Resolves}

-- the base is a resolved host without extensions; the owner is the host or one of the extensions, whose names are different names; a host's
-- own file comes on top of no preference and of no extensible nonterminal; names in items are names, and their equations whole expressions
pub record IsFile (file : File) : Type 0 where
  pub base : IsResolved file.base
  pub alone : file.base.attributes.extensions ≡ []
  pub owner : IsOwner file.extensions file.owner
  pub extensions : All IsName file.extensions
  pub differ : Differ file.extensions
  pub host : file.owner ≡ 0 → (file.base.preferences ≡ []) × (file.base.extensible ≡ [])
  pub names : All (λ (item : Item Pattern). FormHasNames item.form) file.items
  pub whole : All HasWholeEquations file.items

-- where the names of a file are right in a format, each value that it stands for is a resolved specification
abbrev pub GivesResolved : File → ResolvedParts → Type 0
GivesResolved file r = IsFile file → (format : ℕ) → NamesHold (scope_of file.base file.owner format file.items) → Resolves file r
    → IsResolved r
