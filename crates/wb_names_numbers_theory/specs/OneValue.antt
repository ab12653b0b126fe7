-- That a file stands for one value at most.
use Rattle.std.specs.Prelude.{◌≡◌, All}
use Rattle.wb_syntax_resolved.specs.declared.production.Production.{Production}
use Rattle.wb_syntax_resolved.specs.declared.resolved.ResolvedParts.{ResolvedParts}
use Rattle.wb_syntax_resolved.specs.Owners.{Sees}
use Rattle.wb_syntax_resolved.specs.Resolved.{IsResolved}
use Rattle.wb_names_numbers_theory.specs.Files.{File}
use Rattle.wb_names_numbers_theory.specs.Resolves.{Resolves}

-- the owner of the file sees the owner of each production
abbrev pub SeesAll : File → ResolvedParts → Type 0
SeesAll file r = All (λ (p : Production). Sees file.owner p.owner) r.attributes.productions

-- a resolved specification that the file stands for is the only value that it stands for
abbrev pub IsOnlyValue : File → ResolvedParts → Type 0
IsOnlyValue file r = IsResolved r → SeesAll file r → Resolves file r → (s : ResolvedParts) → Resolves file s → r ≡ s
