-- What a specification stands for with a host.
use Rattle.wb_recheck.specs.Resolving.{ResolvesExtension}
use Rattle.wb_syntax_resolved.specs.declared.resolved.ResolvedParts.{ResolvedParts}
use Rattle.wb_syntax_resolved.specs.Resolved.{IsResolved}
use Rattle.wb_syntax.specs.SpecText.{SpecView}
use Rattle.wb_certify_files.specs.declared.extension_refusal.FileRefusal.{FileRefusal}
use Rattle.wb_certify_files.specs.declared.extension_refusal.FileRefusal.TheVariants as f

-- the specification is an extension of this host whose names are right, and with the host it stands for this value, which is a resolved
-- specification
pub record IsNumbered (host : ResolvedParts) (spec : SpecView) (r : ResolvedParts) : Type 0 where
  pub names : ResolvesExtension host spec r
  pub resolved : IsResolved r

-- the refusal is by no rule of certification, so that it is one of names or of the first line, or memory ran out
abbrev pub IsOfNames : FileRefusal → Type 0
IsOfNames (f.Certification shown) = ⊥
IsOfNames other = Unit {0}
